-- Each write of an allowed history changes something.
use Rattle.std.proofs.Common.{◌≡◌, ◌<◌, ◌∙◌, ℕ, Option, Some, None, List, [], refl, sym, subst, length, slice_get}
use Rattle.base_types.specs.Commands.{IsCommand}
use Rattle.event_kinds.specs.Entries.{HasChange}
use Rattle.event_kinds.specs.declared.entry.Event.TheVariants as events
use Rattle.ddl_effect.specs.Plans.{Lookup, Open, Search, Read, Lock, Write, Plan, Done, Fails, Absent, Do}
use Rattle.ddl_effect.specs.Commands.{commands_of}
use Rattle.history_model.specs.Drawn.{next_oid}
use Rattle.history_model.specs.MayFollow.{MayFollow}
use Rattle.history_model.specs.Legal.{IsLegal}
use Rattle.history_model.specs.Sound.{IsSound}
use Rattle.history_model.specs.Prefixes.{EachEntry}
use Rattle.history_model.proofs.Allows.{legal_follows}
use Rattle.history_model.proofs.Prefixes.{EachEntry-more, EachFrom-both, each-keeps}
use Rattle.cacheless.specs.Types.{Item, Scenario, Command, Entry, Event}
use Rattle.cacheless.specs.Facts.{facts_of}
use Rattle.cacheless.specs.OnCourse.{FollowsPlan, IsOnCourse, CourseOf, AllOnCourse}
use Rattle.cacheless.specs.Output.{IsAllowed}
use Rattle.cacheless.specs.Played.{AreSpelled, IsPlayed}
use Rattle.cacheless.specs.Plays.{IsWrite, MayPlay, MayPlayLast, MayPlayIn, IsStart, MayPlayAt, IsNext, Plays}
use Rattle.cacheless.specs.Session.{Session, number_of}
use Rattle.cacheless.specs.Sessions.{session_of}
use Rattle.cacheless.specs.TableWrites.{WritesColumns, WritesIndexes}
use Rattle.cacheless.proofs.Allowed.AllowedHistories.{played_more, played_start}
use Rattle.cacheless.proofs.Allowed.NextKeeps.{spelled_at}
use Rattle.cacheless.proofs.Plans.SilentActs.{on_its_way}
use Rattle.cacheless.proofs.Written.WriteFits.{write_fits}

-- what a command writes is something
write_some : (history : List Entry) (b : ℕ) (s : Session) (command : Command) (items : List Item) → IsSound history → EachEntry WritesColumns history → EachEntry WritesIndexes history → IsCommand command → FollowsPlan history b s command → IsWrite (next_oid history) s.left items → 0 < length items
write_some history b s command items sound columns indexes spelled follows writes = by_plan s.left refl writes
  where
    by_plan : (p : Plan) → s.left ≡ p → IsWrite (next_oid history) p items → 0 < length items
    by_plan (Do (Write draft) rest) at are =
        let way = on_its_way history b s command (Write draft) rest follows at in
        subst (λ l. 0 < length l) (sym are) (write_fits history b (number_of s) (facts_of history b) s.opens command way.gave draft rest sound columns indexes spelled way.holds (sym way.plan ∙ at)).some
    by_plan (Do (Lookup name mode) rest) at are = absurd are
    by_plan (Do (Open rel kind) rest) at are = absurd are
    by_plan (Do (Search scan) rest) at are = absurd are
    by_plan (Do (Read scan) rest) at are = absurd are
    by_plan (Do (Lock rel mode) rest) at are = absurd are
    by_plan (Done told) at are = absurd are
    by_plan (Fails error) at are = absurd are
    by_plan (Absent name) at are = absurd are

start_some : (event : Event) → IsStart event → HasChange event
start_some events.Start start = tt
start_some event start = absurd start

last_some : (history : List Entry) (b : ℕ) (s : Session) (event : Event) → MayPlayLast (facts_of history b) s event → HasChange event
last_some history b s (events.Write xid items) plays = absurd plays
last_some history b s event plays = tt

command_some : (scenario : Scenario) (history : List Entry) (b : ℕ) (s : Session) (command : Command) (event : Event) → IsPlayed scenario history → IsCommand command → FollowsPlan history b s command → MayPlay (next_oid history) (facts_of history b) command s event → HasChange event
command_some scenario history b s command (events.Write xid items) played spelled follows plays = write_some history b s command items played.sound played.columns played.indexes spelled follows plays.1
command_some scenario history b s command event played spelled follows plays = tt

next_some : (scenario : Scenario) (history : List Entry) (e : Entry) → IsPlayed scenario history → AllOnCourse scenario history → IsNext scenario history e → HasChange e.event
next_some scenario history e played courses next = by_session (session_of scenario history e.backend) next.1 (courses e.backend)
  where
    by_command : (s : Session) (o : Option Command) → slice_get (commands_of scenario e.backend) (length s.finished) ≡ o → MayPlayIn (next_oid history) (facts_of history e.backend) o s e.event → IsOnCourse scenario history e.backend s → HasChange e.event
    by_command s None at plays course = last_some history e.backend s e.event plays
    by_command s (Some command) at plays course = command_some scenario history e.backend s command e.event played (spelled_at scenario e.backend (length s.finished) command played.spelled at) (course.follows command at) plays

    by_session : (o : Option Session) → MayPlayAt scenario history e.backend o e.command e.event → CourseOf scenario history e.backend o → HasChange e.event
    by_session None plays course = start_some e.event plays
    by_session (Some s) plays course = by_command s (slice_get (commands_of scenario e.backend) (length s.finished)) refl plays.1 course

-- each entry of a legal history in which backends do what their commands say
pub played_changes : (scenario : Scenario) (history : List Entry) → AreSpelled scenario → IsLegal history → Plays scenario history → EachEntry (λ before e. HasChange e.event) history
played_changes scenario history spelled legal plays = (each-keeps (λ before e. MayFollow before e × IsNext scenario before e) (λ h. (IsPlayed scenario h × AllOnCourse scenario h) × EachEntry (λ before e. HasChange e.event) h) (played_start scenario spelled, tt)
    (λ before e k may. (played_more scenario before e k.0.0 k.0.1 may.0 may.1, EachEntry-more (λ prefix x. HasChange x.event) before e k.1 (next_some scenario before e k.0.0 k.0.1 may.1))) history
    (EachFrom-both MayFollow (IsNext scenario) [] history (legal_follows history legal) plays)).1

-- and so of an allowed one
pub allowed_changes : (scenario : Scenario) (history : List Entry) → AreSpelled scenario → IsAllowed scenario history → EachEntry (λ before e. HasChange e.event) history
allowed_changes scenario history spelled allowed = played_changes scenario history spelled allowed.legal allowed.plays
