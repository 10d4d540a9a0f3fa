-- Where a lookup found no relation its scan is kept, and so its place, also after an entry of the session's own.
use Rattle.std.proofs.Common.{◌≡◌, ◌+◌, ◌∙◌, [], ℕ, true, false, Option, Some, None, List, refl, sym, ap, subst, slice_get}
use Rattle.std.proofs.lemmas.Bool.{both_ways, eq-eqb}
use Rattle.base_types.specs.declared.ids.Xid.{Xid}
use Rattle.base_types.specs.declared.scan.Purpose.TheVariants as scans
use Rattle.event_kinds.specs.declared.entry.Event.TheVariants as events
use Rattle.ddl_effect.specs.Commands.{commands_of}
use Rattle.ddl_effect.specs.Plans.{Lookup, Open, Search, Read, Lock, Write, Plan, Done, Fails, Absent, Do}
use Rattle.ddl_effect.specs.Stages.{plan_at}
use Rattle.local_caches.specs.Kept.{is_kept}
use Rattle.history_model.specs.Drawn.{next_oid}
use Rattle.history_model.specs.MayFollow.{FollowsGone, MayFollow}
use Rattle.history_model.specs.Lives.{last_event_of}
use Rattle.history_model.proofs.Reading.{last_event_of-own}
use Rattle.cacheless.specs.Answering.{KeepsAbsent}
use Rattle.cacheless.specs.Facts.{Facts, facts_of}
use Rattle.cacheless.specs.Holds.{HasEntered, Rests, entry_of, with_own}
use Rattle.cacheless.specs.OnCourse.{is_absent, IsOnCourse, FollowsPlan, CourseOf, AllOnCourse}
use Rattle.cacheless.specs.Work.{work_of}
use Rattle.cacheless.specs.Owed.{is_next_in}
use Rattle.cacheless.specs.Plays.{IsWrite, MayPlayIn}
use Rattle.cacheless.specs.Session.{Session}
use Rattle.cacheless.specs.Sessions.{written, resumed}
use Rattle.cacheless.specs.State.{kept_at, session_at}
use Rattle.cacheless.proofs.FactsAfter.{facts_by, kept_by}
use Rattle.cacheless.proofs.Plans.CommandUnder.{never_absent}
use Rattle.cacheless.proofs.Plans.SilentActs.{on_its_way, its_place}
use Rattle.cacheless.proofs.Reading.{facts_of-own}
use Rattle.cacheless.proofs.Resting.{settled_at_rest}
use Rattle.cacheless.specs.Awaiting.{AwaitsEntry}
use Rattle.cacheless.specs.Types.{Purpose, Scenario, Command, Entry, Event, Item, Line}
use Rattle.cacheless.specs.declared.progress.Progress.{Progress}

-- the scans that a session keeps after an entry of its own
kept_after : (scenario : Scenario) (seen : List Entry) (was now : Progress) (event : Event) (rests : Rests scenario seen was) → HasEntered scenario seen was event rests now → kept_at now ≡ kept_by seen was.id event (kept_at was)
kept_after scenario seen was now event rests goes = ap (λ (f : Facts). f.kept) (sym goes.holds.facts ∙ ap (facts_of (with_own seen was event)) goes.moves.id
    ∙ facts_of-own seen (entry_of was.id (was.finished + 1) event) was.id (eq-eqb was.id was.id refl) ∙ ap (facts_by seen was.id (was.finished + 1) event) rests.holds.facts)

-- a plan that isn't absent has no scan to keep
pub keeps_none : (seen : List Entry) (s : Progress) → is_absent (plan_at s.opens s.exec) ≡ false → KeepsAbsent seen s
keeps_none seen s there = λ name missed whole. absurd (both_ways _ there (ap is_absent missed))

-- no command fails so
fail_plays : (next : ℕ) (facts : Facts) (o : Option Command) (s : Session) → MayPlayIn next facts o s events.Fail → ⊥
fail_plays next facts None s plays = plays
fail_plays next facts (Some command) s plays = plays

-- a command that failed to find a relation makes no scan
scan_there : (facts : Facts) (s : Session) (scan : Purpose) (plan : Plan) → s.left ≡ plan → is_next_in scan facts (work_of s) ≡ true → is_absent plan ≡ false
scan_there facts s scan (Absent name) at is = absurd (both_ways _ (ap (λ p. is_next_in scan facts (work_of (record s { left = p }))) at) is)
scan_there facts s scan plan at is = refl

scan_plays : (next : ℕ) (facts : Facts) (o : Option Command) (s : Session) (scan : Purpose) (count : ℕ) → MayPlayIn next facts o s (events.Scan scan count) → is_absent s.left ≡ false
scan_plays next facts None s scan count plays = scan_there facts s scan s.left refl plays.1
scan_plays next facts (Some command) s scan count plays = scan_there facts s scan s.left refl plays.1

-- with a fetch a lookup that found no relation is made anew
fetch_there : (scenario : Scenario) (seen : List Entry) (was : Progress) (rests : Rests scenario seen was) → is_absent (resumed (plan_at was.opens was.exec) (session_at was rests.holds.rest)).left ≡ false
fetch_there scenario seen was rests = by_plan (plan_at was.opens was.exec) refl
  where
    by_plan : (p : Plan) → plan_at was.opens was.exec ≡ p → is_absent (resumed p (session_at was rests.holds.rest)).left ≡ false
    by_plan (Absent name) at = ap is_absent (rests.holds.sought (ap is_absent at)).is ∙ never_absent was.opens was.exec
    by_plan p at = ap is_absent at

-- after its write a command has come out well
pub write_there : (next : ℕ) (seen : List Entry) (b : ℕ) (s : Session) (command : Command) (items : List Item) → FollowsPlan seen b s command → IsWrite next s.left items → is_absent (written s.left s).left ≡ false
write_there next seen b s command items follows writes = by_plan s.left refl writes
  where
    by_plan : (p : Plan) → s.left ≡ p → IsWrite next p items → is_absent (written p s).left ≡ false
    by_plan (Do (Write draft) rest) at writes = ap is_absent ((its_place seen b s command (Write draft) rest (on_its_way seen b s command (Write draft) rest follows at) at).0 [])
    by_plan (Do (Lookup name mode) rest) at writes = absurd writes
    by_plan (Do (Open rel kind) rest) at writes = absurd writes
    by_plan (Do (Search scan) rest) at writes = absurd writes
    by_plan (Do (Read scan) rest) at writes = absurd writes
    by_plan (Do (Lock rel mode) rest) at writes = absurd writes
    by_plan (Done told) at writes = absurd writes
    by_plan (Fails error) at writes = absurd writes
    by_plan (Absent name) at writes = absurd writes

-- the running command of a session that waits does what its plan says
follows_plan : (scenario : Scenario) (seen : List Entry) (s : Progress) (rests : Rests scenario seen s) → AllOnCourse scenario seen → (command : Command) → slice_get s.commands s.finished ≡ Some command → FollowsPlan seen s.id (session_at s rests.holds.rest) command
follows_plan scenario seen s rests courses command at = course.follows command (ap (slice_get (commands_of scenario s.id)) rests.holds.count ∙ ap (λ l. slice_get l s.finished) (sym rests.holds.commands) ∙ at)
  where
    course : IsOnCourse scenario seen s.id (session_at s rests.holds.rest)
    course = subst (CourseOf scenario seen s.id) (rests.holds.is ∙ ap Some (settled_at_rest scenario seen s rests)) (courses s.id)

write_plays : (scenario : Scenario) (seen : List Entry) (was : Progress) (rests : Rests scenario seen was) (next : ℕ) (facts : Facts) (o : Option Command) → AllOnCourse scenario seen → slice_get was.commands was.finished ≡ o
    → (xid : Xid) (items : List Item) → MayPlayIn next facts o (session_at was rests.holds.rest) (events.Write xid items) → is_absent (written (plan_at was.opens was.exec) (session_at was rests.holds.rest)).left ≡ false
write_plays scenario seen was rests next facts None courses at xid items plays = absurd plays
write_plays scenario seen was rests next facts (Some command) courses at xid items plays = write_there next seen was.id (session_at was rests.holds.rest) command items (follows_plan scenario seen was rests courses command at) plays.1

module _ (scenario : Scenario) (seen : List Entry) (was now : Progress) (rests : Rests scenario seen was) (absent : KeepsAbsent seen was) (courses : AllOnCourse scenario seen) where
  -- where the plan and the scans are as they were, and nothing is taken back before
  absent_still : (event : Event) → kept_at now ≡ kept_at was → plan_at now.opens now.exec ≡ plan_at was.opens was.exec → now.ended ≡ was.ended → ((from : ℕ) → last_event_of seen was.id ≡ Some (events.Gone from) → ⊥) → KeepsAbsent (with_own seen was event) now
  absent_still event kept plan ended untaken = λ name missed whole. ap (λ l. is_kept l (scans.RelName name)) kept ∙ absent name (sym plan ∙ missed) (record { untaken = untaken; going = sym ended ∙ whole.going })

  -- where a lookup found no relation its scan is kept still, whichever entry it is
  absent_then : (event : Event) → MayFollow seen (entry_of was.id (was.finished + 1) event) → MayPlayIn (next_oid seen) (facts_of seen was.id) (slice_get was.commands was.finished) (session_at was rests.holds.rest) event
      → kept_at now ≡ kept_by seen was.id event (kept_at was) → HasEntered scenario seen was event rests now → KeepsAbsent (with_own seen was event) now
  absent_then (events.Fetch count) follows plays keeps goes = keeps_none (with_own seen was (events.Fetch count)) now (ap (λ (x : Session). is_absent x.left) goes.session ∙ fetch_there scenario seen was rests)
  absent_then events.FetchReset follows plays keeps goes = keeps_none (with_own seen was events.FetchReset) now (ap (λ (x : Session). is_absent x.left) goes.session ∙ fetch_there scenario seen was rests)
  absent_then (events.Scan scan count) follows plays keeps goes = keeps_none (with_own seen was (events.Scan scan count)) now (ap (λ (x : Session). is_absent x.left) goes.session
      ∙ scan_plays (next_oid seen) (facts_of seen was.id) (slice_get was.commands was.finished) (session_at was rests.holds.rest) scan count plays)
  absent_then (events.LockHeld rel mode holder held) follows plays keeps goes = keeps_none (with_own seen was (events.LockHeld rel mode holder held)) now (ap (λ (x : Session). is_absent x.left) goes.session)
  absent_then (events.ClashRow name rel) follows plays keeps goes = keeps_none (with_own seen was (events.ClashRow name rel)) now (ap (λ (x : Session). is_absent x.left) goes.session)
  absent_then (events.ClashRunning name xid) follows plays keeps goes = keeps_none (with_own seen was (events.ClashRunning name xid)) now (ap (λ (x : Session). is_absent x.left) goes.session)
  absent_then (events.Write xid items) follows plays keeps goes = keeps_none (with_own seen was (events.Write xid items)) now (ap (λ (x : Session). is_absent x.left) goes.session
      ∙ write_plays scenario seen was rests (next_oid seen) (facts_of seen was.id) (slice_get was.commands was.finished) courses refl xid items plays)
  absent_then (events.Gone from) follows plays keeps goes = λ name missed whole. absurd (whole.untaken from (ap (last_event_of (with_own seen was (events.Gone from))) goes.moves.id ∙ last_event_of-own seen (entry_of was.id (was.finished + 1) (events.Gone from)) was.id (eq-eqb was.id was.id refl)))
  absent_then (events.Release from) follows plays keeps goes = λ name missed whole. absurd (both_ways _ whole.going (ap (λ (x : Session). x.ended) goes.session))
  absent_then events.Fail follows plays keeps goes = absurd (fail_plays (next_oid seen) (facts_of seen was.id) (slice_get was.commands was.finished) (session_at was rests.holds.rest) plays)
  absent_then event follows plays keeps goes = absent_still event keeps (ap (λ (x : Session). x.left) goes.session) (ap (λ (x : Session). x.ended) goes.session) (λ from gone. subst (λ last. FollowsGone last event) gone follows.gone)

-- so it is after each
pub own_absent : (scenario : Scenario) (seen : List Entry) (was now : Progress) (event : Event) (lines : List Line) (waits : AwaitsEntry scenario seen was lines) → AllOnCourse scenario seen
    → MayFollow seen (entry_of was.id (was.finished + 1) event) → MayPlayIn (next_oid seen) (facts_of seen was.id) (slice_get was.commands was.finished) (session_at was waits.rests.holds.rest) event
    → HasEntered scenario seen was event waits.rests now → KeepsAbsent (with_own seen was event) now
own_absent scenario seen was now event lines waits courses follows plays goes = absent_then scenario seen was now waits.rests waits.absent courses event follows plays (kept_after scenario seen was now event waits.rests goes) goes
