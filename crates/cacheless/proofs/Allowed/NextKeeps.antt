-- What backends do next that follow their commands keeps order and tables.
use Rattle.std.proofs.Common.{◌≡◌, ◌<◌, ◌∙◌, ◌==◌, ℕ, zero, suc, true, Option, Some, None, List, [], ◌∷◌, ◌++◌, refl, sym, ap, subst, map, filter, length, slice_get, Bool, false}
use Rattle.std.specs.List.{AllByRecursion}
use Rattle.base_types.specs.Commands.{IsCommand}
use Rattle.base_types.specs.declared.row.Row.TheVariants as rows
use Rattle.base_types.specs.declared.ids.Xid.{Xid}
use Rattle.base_types.specs.declared.scan.Purpose.TheVariants as scans
use Rattle.event_kinds.specs.declared.entry.Event.TheVariants as events
use Rattle.ddl_effect.specs.Plans.{Act, Lookup, Open, Search, Read, Lock, Write, Plan, Done, Fails, Absent, Do}
use Rattle.ddl_effect.specs.Commands.{plan_of, commands_of}
use Rattle.history_model.specs.Drawn.{next_oid}
use Rattle.history_model.specs.Orderly.{IsOrderlyWrite, IsOrderlyEvent}
use Rattle.history_model.specs.Sound.{IsSound}
use Rattle.history_model.specs.Prefixes.{EachEntry}
use Rattle.history_model.specs.Read.{rows_read, is_usable, place_read}
use Rattle.history_model.proofs.Every.{every-weaker, every-map, every-filter, SomeOf, from_some}
use Rattle.cacheless.specs.Types.{Oid, Mode, Row, Purpose, Item, Scenario, Command, Entry, Event}
use Rattle.cacheless.specs.ActsDone.{named_by, IsDrawn, made_in}
use Rattle.cacheless.specs.Facts.{Facts, facts_of, kept_if}
use Rattle.cacheless.specs.OnCourse.{FollowsPlan, IsOnCourse, CourseOf, AllOnCourse}
use Rattle.cacheless.specs.Work.{work_of}
use Rattle.cacheless.specs.Owed.{OwesScan, builds_missing, act_owed, scans_owed_in, owed_in}
use Rattle.cacheless.specs.Played.{AreSpelled, IsPlayed}
use Rattle.cacheless.specs.Plays.{IsLock, IsWrite, MayPlay, MayPlayLast, MayPlayIn, IsStart, MayPlayAt, IsNext}
use Rattle.cacheless.specs.Session.{Session, Badly, number_of, outcome_of}
use Rattle.cacheless.specs.Sessions.{session_of}
use Rattle.cacheless.specs.Settled.{class_oid}
use Rattle.cacheless.specs.TableWrites.{KeepsColumnsBy, WritesColumns, KeepsIndexesBy, WritesIndexes, NamesApartBy}
use Rattle.cacheless.proofs.FoundKept.{asked_drawn}
use Rattle.cacheless.proofs.Plans.SilentActs.{both_empty, its_place, on_its_way}
use Rattle.cacheless.proofs.Written.FitToWrite.{KeepsAll}
use Rattle.cacheless.proofs.Written.WriteFits.{write_fits}
use Rattle.std.specs.Option.{option_map_or}
use Rattle.local_caches.specs.Kept.{Read as KeptRead}

-- the scan on which a command's next act rests isn't owed, where nothing is
pub nothing_owed : (facts : Facts) (command : Command) (s : Session) (act : Act) (rest : List Row → Plan) → s.left ≡ Do act rest → owed_in facts command (work_of s) ≡ [] → act_owed facts (Do act rest) ≡ []
nothing_owed facts command s act rest at none = (both_empty (builds_missing facts.kept s.opened) (act_owed facts (Do act rest)) (unmapped _ (sym (ap (map OwesScan) same) ∙ (both_empty _ (map OwesScan (scans_owed_in facts (work_of s))) none).1))).1
  where
    same : scans_owed_in facts (work_of s) ≡ builds_missing facts.kept s.opened ++ act_owed facts (Do act rest)
    same = ap (λ p. elim (outcome_of p) as (λ x. List Purpose) [ Badly ↦ [] | other ↦ builds_missing facts.kept s.opened ++ act_owed facts p ]) at

    unmapped : (l : List Purpose) → map OwesScan l ≡ [] → l ≡ []
    unmapped [] is = refl
    unmapped (x ∷ xs) is = absurd (cc is)

-- the relation that a scan of a name gave is drawn
named_drawn : (history : List Entry) (b : ℕ) (name : List ℕ) (rel : Oid) (given : List Row) → IsSound history → rows_read history b (scans.RelName name) ≡ given → class_oid given ≡ Some rel → rel.0 < next_oid history
named_drawn history b name rel (rows.Class of own kind fill ∷ more) sound gave is = let same : of ≡ rel = cc is in subst (λ r. r.0 < next_oid history) same (asked_drawn history b name of own kind fill more sound gave)
named_drawn history b name rel given sound gave is = absurd (cc is)

-- a relation of which a command has read is drawn
some_drawn : (history : List Entry) (rel : Oid) (named : List Oid) → AllByRecursion (IsDrawn history) named → SomeOf (λ o. o ≡ rel) named → rel.0 < next_oid history
some_drawn history rel named drawn some = from_some (λ o. o ≡ rel) (rel.0 < next_oid history) named (every-weaker (IsDrawn history) (λ o. o ≡ rel → rel.0 < next_oid history) (λ o low same. subst (IsDrawn history) same low) named drawn) some

-- a command asks for a lock on no relation that is still to be drawn
pub lock_drawn : (history : List Entry) (b : ℕ) (s : Session) (command : Command) (rel : Oid) (mode : Mode) → IsSound history → FollowsPlan history b s command → IsLock (facts_of history b) s.left rel mode → rel.0 < next_oid history
lock_drawn history b s command rel mode sound follows lock = by_plan s.left refl lock
  where
    by_plan : (p : Plan) → s.left ≡ p → IsLock (facts_of history b) p rel mode → rel.0 < next_oid history
    by_plan (Do (Lookup name wanted) rest) at asks = named_drawn history b name rel (rows_read history b (scans.RelName name)) sound refl (by_kept (is_usable history b (scans.RelName name)) asks.0)
      where
        by_kept : (t : Bool) → class_oid (option_map_or (λ (read : KeptRead). read.rows) (kept_if t (rows_read history b (scans.RelName name)) (place_read history b (scans.RelName name))) []) ≡ Some rel → class_oid (rows_read history b (scans.RelName name)) ≡ Some rel
        by_kept true is = is
        by_kept false is = absurd (cc is)
    by_plan (Do (Lock on wanted) rest) at asks = let way = on_its_way history b s command (Lock on wanted) rest follows at in
        subst (λ (o : Oid). o.0 < next_oid history) (sym asks.0) (some_drawn history on (made_in named_by way.gave (plan_of s.opens command)) way.holds.drawn (its_place history b s command (Lock on wanted) rest way at).2)
    by_plan (Do (Open of kind) rest) at asks = absurd asks
    by_plan (Do (Search scan) rest) at asks = absurd asks
    by_plan (Do (Read scan) rest) at asks = absurd asks
    by_plan (Do (Write draft) rest) at asks = absurd asks
    by_plan (Done told) at asks = absurd asks
    by_plan (Fails error) at asks = absurd asks
    by_plan (Absent name) at asks = absurd asks

-- a command of a script has a form that a line may have
pub spelled_at : (scenario : Scenario) (b n : ℕ) (command : Command) → AreSpelled scenario → slice_get (commands_of scenario b) n ≡ Some command → IsCommand command
spelled_at scenario b n command spelled at = found n (commands_of scenario b)
    (every-map IsCommand (λ p. p.command) (filter (λ p. p.backend == b) scenario.commands) (every-filter (λ p. IsCommand p.command) (λ p. p.backend == b) scenario.commands (every-weaker (λ p. IsCommand p.command) (λ p. (p.backend == b) ≡ true → IsCommand p.command) (λ p is own. is) scenario.commands spelled))) at
  where
    found : (k : ℕ) (commands : List Command) → AllByRecursion IsCommand commands → slice_get commands k ≡ Some command → IsCommand command
    found k [] all is = absurd (cc is)
    found zero (first ∷ commands) all is = let same : first ≡ command = cc is in subst IsCommand same all.0
    found (suc k) (first ∷ commands) all is = found k commands all.1 is

-- what a command writes keeps order and tables
pub write_orderly : (history : List Entry) (b : ℕ) (s : Session) (command : Command) (items : List Item) → IsSound history → EachEntry WritesColumns history → EachEntry WritesIndexes history → IsCommand command → FollowsPlan history b s command → IsWrite (next_oid history) s.left items → IsOrderlyWrite history b items × KeepsAll history b items
write_orderly history b s command items sound columns indexes spelled follows writes = by_plan s.left refl writes
  where
    by_plan : (p : Plan) → s.left ≡ p → IsWrite (next_oid history) p items → IsOrderlyWrite history b items × KeepsAll history b items
    by_plan (Do (Write draft) rest) at are =
        let way = on_its_way history b s command (Write draft) rest follows at in
        let fits = write_fits history b (number_of s) (facts_of history b) s.opens command way.gave draft rest sound columns indexes spelled way.holds (sym way.plan ∙ at) in
        (subst (IsOrderlyWrite history b) (sym are) fits.fit.orderly, subst (KeepsAll history b) (sym are) fits.keeps)
    by_plan (Do (Lookup name mode) rest) at are = absurd are
    by_plan (Do (Open rel kind) rest) at are = absurd are
    by_plan (Do (Search scan) rest) at are = absurd are
    by_plan (Do (Read scan) rest) at are = absurd are
    by_plan (Do (Lock rel mode) rest) at are = absurd are
    by_plan (Done told) at are = absurd are
    by_plan (Fails error) at are = absurd are
    by_plan (Absent name) at are = absurd are

-- an event keeps order and tables
pub record KeepsAllBy (history : List Entry) (b : ℕ) (event : Event) : Type 0 where
  pub orderly : IsOrderlyEvent history b event
  pub columns : KeepsColumnsBy history b event
  pub indexes : KeepsIndexesBy history b event
  pub names : NamesApartBy event

-- so does a start
pub start_keeps : (history : List Entry) (b : ℕ) (event : Event) → IsStart event → KeepsAllBy history b event
start_keeps history b events.Start start = record { orderly = tt; columns = tt; indexes = tt; names = tt }
start_keeps history b event start = absurd start

-- and what comes after the last command
pub last_keeps : (history : List Entry) (b : ℕ) (s : Session) (event : Event) → MayPlayLast (facts_of history b) s event → KeepsAllBy history b event
last_keeps history b s (events.LockOk rel mode) plays = absurd plays
last_keeps history b s (events.LockHeld rel mode holder held) plays = absurd plays
last_keeps history b s (events.Write xid items) plays = absurd plays
last_keeps history b s event plays = record { orderly = tt; columns = tt; indexes = tt; names = tt }

write_keeps : (history : List Entry) (b : ℕ) (xid : Xid) (items : List Item) → IsOrderlyWrite history b items × KeepsAll history b items → KeepsAllBy history b (events.Write xid items)
write_keeps history b xid items keeps = record { orderly = keeps.0; columns = keeps.1.columns; indexes = keeps.1.indexes; names = keeps.1.names }

-- and what comes next of a command on its course
pub command_keeps : (scenario : Scenario) (history : List Entry) (b : ℕ) (s : Session) (command : Command) (event : Event) → IsPlayed scenario history → IsCommand command → FollowsPlan history b s command → MayPlay (next_oid history) (facts_of history b) command s event → KeepsAllBy history b event
command_keeps scenario history b s command (events.LockOk rel mode) played spelled follows plays = record { orderly = lock_drawn history b s command rel mode played.sound follows plays.2; columns = tt; indexes = tt; names = tt }
command_keeps scenario history b s command (events.LockHeld rel mode holder held) played spelled follows plays = record { orderly = lock_drawn history b s command rel mode played.sound follows plays.2; columns = tt; indexes = tt; names = tt }
command_keeps scenario history b s command (events.Write xid items) played spelled follows plays = write_keeps history b xid items (write_orderly history b s command items played.sound played.columns played.indexes spelled follows plays.1)
command_keeps scenario history b s command event played spelled follows plays = record { orderly = tt; columns = tt; indexes = tt; names = tt }

-- and so whatever may come next
pub next_keeps : (scenario : Scenario) (history : List Entry) (e : Entry) → IsPlayed scenario history → AllOnCourse scenario history → IsNext scenario history e → KeepsAllBy history e.backend e.event
next_keeps scenario history e played courses next = by_session (session_of scenario history e.backend) next.1 (courses e.backend)
  where
    by_command : (s : Session) (o : Option Command) → slice_get (commands_of scenario e.backend) (length s.finished) ≡ o → MayPlayIn (next_oid history) (facts_of history e.backend) o s e.event → IsOnCourse scenario history e.backend s → KeepsAllBy history e.backend e.event
    by_command s None at plays course = last_keeps history e.backend s e.event plays
    by_command s (Some command) at plays course = command_keeps scenario history e.backend s command e.event played (spelled_at scenario e.backend (length s.finished) command played.spelled at) (course.follows command at) plays

    by_session : (o : Option Session) → MayPlayAt scenario history e.backend o e.command e.event → CourseOf scenario history e.backend o → KeepsAllBy history e.backend e.event
    by_session None plays course = start_keeps history e.backend e.event plays
    by_session (Some s) plays course = by_command s (slice_get (commands_of scenario e.backend) (length s.finished)) refl plays.1 course
