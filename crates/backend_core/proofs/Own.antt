-- A backend's own entry, whichever it is.
use Rattle.std.proofs.Common.{◌≡◌, ◌≢◌, ◌≤◌, ◌+◌, ◌∙◌, ◌++◌, ◌&&◌, ℕ, Bool, true, false, Option, Some, None, List, [], refl, sym, ap, subst, length, map, drop, slice_get, is_some, arith}
use Rattle.std.proofs.lemmas.Bool.{eq-eqb}
use Rattle.event_kinds.specs.declared.entry.Event.TheVariants as events
use Rattle.ddl_effect.specs.Commands.{commands_of}
use Rattle.ddl_effect.specs.Plans.{Plan, Done, Fails, Absent, Do}
use Rattle.history_model.specs.Drawn.{next_oid}
use Rattle.history_model.specs.Lapped.{FetchesFrom}
use Rattle.history_model.specs.MayFollow.{MayFollow}
use Rattle.history_model.specs.Lives.{life_by, life_of}
use Rattle.history_model.specs.declared.life.Life.TheVariants.{Alive}
use Rattle.history_model.proofs.Reading.{life_of-own}
use Rattle.history_model.proofs.Sound.{sound_is_legal}
use Rattle.seg_calls.specs.Calls.{places_for, Appends}
use Rattle.history_model.specs.Changing.{is_empty}
use Rattle.cacheless.specs.Facts.{Facts, facts_of}
use Rattle.cacheless.specs.Holds.{HasEntered, entry_of, with_own}
use Rattle.cacheless.specs.MayEnter.{SuitsHistory}
use Rattle.cacheless.specs.OnCourse.{FollowsPlan, TellsAlone, IsOnCourse, CourseOf, AllOnCourse}
use Rattle.cacheless.specs.Plays.{MayPlayIn, IsNext}
use Rattle.cacheless.specs.Schedule.{LooksTruly}
use Rattle.cacheless.specs.Owed.{OwesScan, owed_after, owed_first_in, builds_missing, act_owed, scans_owed_in, is_free}
use Rattle.cacheless.specs.Session.{Session, Well, Badly, outcome_of}
use Rattle.cacheless.specs.Sessions.{entered, session_of}
use Rattle.cacheless.specs.Settled.{gives_in, gives_left}
use Rattle.cacheless.specs.Work.{work_of}
use Rattle.cacheless.specs.State.{session_at}
use Rattle.cacheless.specs.Telling.{AreLines, TellsNow}
use Rattle.cacheless.proofs.FactsAfter.{facts_by}
use Rattle.cacheless.proofs.Allowed.AtRest.{IsStuck, WaitsForEntry}
use Rattle.cacheless.proofs.Allowed.Economical.{plays_needed}
use Rattle.cacheless.proofs.Allowed.NextKeeps.{KeepsAllBy, next_keeps}
use Rattle.cacheless.proofs.Allowed.TransactionsKept.{transactions_kept}
use Rattle.cacheless.proofs.Plans.SilentActs.{empty_list}
use Rattle.cacheless.proofs.Reading.{facts_of-own}
use Rattle.cacheless.proofs.Resting.{first_left, finished_same}
use Rattle.cacheless.proofs.Same.{work_same}
use Rattle.cacheless.specs.Awaiting.{HasNoEntry, AwaitsEntry as SessionAwaits, answer_after}
use Rattle.cacheless.proofs.OwnAnswers.{waiting_is as session_is, at_session as command_is, own_next, own_tells}
use Rattle.cacheless.proofs.OwnPlaces.{own_absent}
use Rattle.backend_core.specs.Types.{Purpose, Row, Command, Scenario, Entry, Event, Progress, Backend}
use Rattle.backend_core.specs.Agrees.{IsPlayed, RunsFit, command_at, Keeps, AgreesNow, AwaitsEntry, HasNotJoined}
use Rattle.backend_core.specs.Fits.{Fits, is_lost}
use Rattle.backend_core.specs.Steps.{MakesEntry, Enters}
use Rattle.backend_core.proofs.Cutting.Before.{before_own}
use Rattle.backend_core.proofs.Fitting.Over.{IsWellOnceOver, well_unlost, well_going}

-- the session of a backend that waits
abbrev pub waiting : {scenario : Scenario} {seen : List Entry} {s : Backend} → AwaitsEntry scenario seen s → Session
waiting {s = s} waits = session_at s.progress waits.rests.holds.rest

-- it waits too
abbrev pub session_waits : {scenario : Scenario} {seen : List Entry} {s : Backend} → AwaitsEntry scenario seen s → SessionAwaits scenario seen s.progress s.lines
session_waits waits = record { rests = waits.rests; absent = waits.keeps.absent; tells = waits.tells; lines_are = waits.lines; answered = waits.answered }

-- one that hasn't joined has a session without entries
abbrev pub no_entry : {scenario : Scenario} {seen : List Entry} {s : Backend} → HasNotJoined scenario seen s → HasNoEntry scenario seen s.progress
no_entry before = record { waits = before.waits; last = before.last; session = before.session; facts = before.facts; unwritten = before.unwritten }

-- the session of one that waits is that of the history
pub waiting_is : (scenario : Scenario) (seen : List Entry) (s : Backend) (waits : AwaitsEntry scenario seen s) → session_of scenario seen s.progress.id ≡ Some (waiting waits)
waiting_is scenario seen s waits = session_is scenario seen s.progress s.lines (session_waits waits)

-- and on its course
pub waiting_course : (scenario : Scenario) (seen : List Entry) (s : Backend) (waits : AwaitsEntry scenario seen s) → AllOnCourse scenario seen → IsOnCourse scenario seen s.progress.id (waiting waits)
waiting_course scenario seen s waits courses = subst (CourseOf scenario seen s.progress.id) (waiting_is scenario seen s waits) (courses s.progress.id)

-- the running command is that of the session
pub at_session : (scenario : Scenario) (seen : List Entry) (s : Backend) (waits : AwaitsEntry scenario seen s) → slice_get (commands_of scenario s.progress.id) (length (waiting waits).finished) ≡ command_at s
at_session scenario seen s waits = command_is scenario seen s.progress s.lines (session_waits waits)

-- it does what its plan says
pub follows : (scenario : Scenario) (seen : List Entry) (s : Backend) (waits : AwaitsEntry scenario seen s) → AllOnCourse scenario seen → (command : Command) → command_at s ≡ Some command → FollowsPlan seen s.progress.id (waiting waits) command
follows scenario seen s waits courses command at = (waiting_course scenario seen s waits courses).follows command (at_session scenario seen s waits ∙ at)

-- once its release is made it tells of no scan
pub tells_alone : (scenario : Scenario) (seen : List Entry) (s : Backend) (waits : AwaitsEntry scenario seen s) → AllOnCourse scenario seen → (command : Command) → command_at s ≡ Some command → (waiting waits).ended ≡ true → TellsAlone seen s.progress.id (waiting waits) command
tells_alone scenario seen s waits courses command at = (waiting_course scenario seen s waits courses).going command (at_session scenario seen s waits ∙ at)

-- so it came out well
pub over : (scenario : Scenario) (seen : List Entry) (s : Backend) (waits : AwaitsEntry scenario seen s) → AllOnCourse scenario seen → (command : Command) → command_at s ≡ Some command → IsWellOnceOver (waiting waits)
over scenario seen s waits courses command at ended = ap outcome_of (tells_alone scenario seen s waits courses command at ended).left

-- one that hasn't hasn't made it
pub going : (scenario : Scenario) (seen : List Entry) (s : Backend) (waits : AwaitsEntry scenario seen s) → AllOnCourse scenario seen → (command : Command) → command_at s ≡ Some command → (outcome_of (waiting waits).left ≡ Well → ⊥) → (waiting waits).ended ≡ false
going scenario seen s waits courses command at = well_going (waiting waits) (over scenario seen s waits courses command at)

-- and after it none says that it found no relation
pub unlost : (scenario : Scenario) (seen : List Entry) (s : Backend) (waits : AwaitsEntry scenario seen s) → AllOnCourse scenario seen → (command : Command) → command_at s ≡ Some command → is_lost (waiting waits) ≡ false
unlost scenario seen s waits courses command at = well_unlost (waiting waits) (over scenario seen s waits courses command at)

-- its running command waits for an entry
pub waits_for : (scenario : Scenario) (seen : List Entry) (s : Backend) (waits : AwaitsEntry scenario seen s) → (command : Command) → command_at s ≡ Some command → WaitsForEntry (facts_of seen s.progress.id) command (waiting waits)
waits_for scenario seen s waits command at = record {
  unfinished = finished_same facts command s.progress waits.rests.holds.rest waits.rests.holds.facts waits.rests.holds.count ∙ (waits.rests.still command at).1;
  stuck = λ none. by_plan (waiting waits).left refl none;
}
  where
    facts : Facts
    facts = facts_of seen s.progress.id

    acts : (is_free facts command (work_of (waiting waits)) && gives_left facts (work_of (waiting waits)) (waiting waits).left) ≡ false
    acts = (λ i. let w = work_same s.progress waits.rests.holds.rest waits.rests.holds.count i in is_free (waits.rests.holds.facts i) command w && gives_left (waits.rests.holds.facts i) w w.left) ∙ (waits.rests.still command at).0

    none_given : (given : Option (List Row)) → is_some given ≡ false → given ≡ None
    none_given None is = refl
    none_given (Some rows) is = absurd (cc is)

    by_plan : (p : Plan) → (waiting waits).left ≡ p → owed_first_in facts command (work_of (waiting waits)) ++ owed_after facts.due ≡ [] → IsStuck facts (waiting waits) p
    by_plan (Do act rest) is none = by_owed (is_empty owed) refl
      where
        owed : List Purpose
        owed = builds_missing facts.kept (waiting waits).opened ++ act_owed facts (Do act rest)

        scans_are : scans_owed_in facts (work_of (waiting waits)) ≡ owed
        scans_are = ap (λ p. elim (outcome_of p) as (λ x. List Purpose) [ Badly ↦ [] | other ↦ builds_missing facts.kept (waiting waits).opened ++ act_owed facts p ]) is

        by_owed : (t : Bool) → is_empty owed ≡ t → elim t as (λ x. Option (List Row)) [ true ↦ gives_in facts (work_of (waiting waits)) act | false ↦ None ] ≡ None
        by_owed false some = refl
        by_owed true free = none_given (gives_in facts (work_of (waiting waits)) act) ((λ i. is_empty (sym none i ++ map OwesScan (sym (scans_are ∙ empty_list owed free) i)) && gives_left facts (work_of (waiting waits)) (sym is i)) ∙ acts)
    by_plan (Done told) is none = tt
    by_plan (Fails error) is none = tt
    by_plan (Absent name) is none = tt

-- what the script and the segment ask of its next entry
pub record OwnEntry (scenario : Scenario) (old : List Entry) (was : Backend) (event : Event) (waits : AwaitsEntry scenario old was) : Type 0 where
  pub plays : MayPlayIn (next_oid old) (facts_of old was.progress.id) (command_at was) (waiting waits) event
  pub truly : LooksTruly old was.progress.id event
  pub queue : FetchesFrom scenario.size old was.progress.id event

-- of the places that are promised an entry takes at most one
pub one_place : (event : Event) → places_for event ≤ 1
one_place (events.Scan purpose rows) = omega arith
one_place (events.LockOk rel mode) = omega arith
one_place (events.LockHeld rel mode holder held) = omega arith
one_place (events.Write xid items) = omega arith
one_place (events.ClashRow name rel) = omega arith
one_place (events.ClashRunning name xid) = omega arith
one_place event = omega arith

-- an entry that a segment has appended
abbrev pub appended_makes : (scenario : Scenario) (old new : List Entry) (had has : ℕ → ℕ) (e : Entry) → IsNext scenario old e → SuitsHistory scenario old e.backend e.event → Appends old new had has e → MakesEntry scenario old new had has e.backend
appended_makes scenario old new had has e next suits appends = record {
  entry = e;
  is = appends.entries;
  own = refl;
  may = record { comes = appends.comes; next = next; suits = suits };
  place = omega (arith, appends.own, one_place e.event);
  most = appends.most;
  others = appends.others;
}

-- one that the script allows next, of a backend that waits
pub next_makes : (scenario : Scenario) (old new : List Entry) (had has : ℕ → ℕ) (was : Backend) (event : Event) → IsPlayed scenario old → AllOnCourse scenario old → IsNext scenario old (entry_of was.progress.id (was.progress.finished + 1) event) → LooksTruly old was.progress.id event
    → FetchesFrom scenario.size old was.progress.id event → Appends old new had has (entry_of was.progress.id (was.progress.finished + 1) event) → MakesEntry scenario old new had has was.progress.id
next_makes scenario old new had has was event played courses next truly queue appends = appended_makes scenario old new had has e next (record {
  needed = plays_needed scenario old e next;
  truly = truly;
  columns = keeps.columns;
  indexes = keeps.indexes;
  names = keeps.names;
  queue = queue;
}) appends
  where
    e : Entry
    e = entry_of was.progress.id (was.progress.finished + 1) event

    keeps : KeepsAllBy old was.progress.id event
    keeps = next_keeps scenario old e played courses next

-- what may come next in the session of a backend that waits, the script allows
pub plays_next : (scenario : Scenario) (seen : List Entry) (s : Backend) (event : Event) (waits : AwaitsEntry scenario seen s) → MayPlayIn (next_oid seen) (facts_of seen s.progress.id) (command_at s) (waiting waits) event → IsNext scenario seen (entry_of s.progress.id (s.progress.finished + 1) event)
plays_next scenario seen s event waits plays = own_next scenario seen s.progress event s.lines (session_waits waits) plays

-- such an entry is one of a backend that waits
pub own_makes : (scenario : Scenario) (old new : List Entry) (had has : ℕ → ℕ) (was : Backend) (event : Event) (waits : AwaitsEntry scenario old was) → IsPlayed scenario old → AllOnCourse scenario old → OwnEntry scenario old was event waits
    → Appends old new had has (entry_of was.progress.id (was.progress.finished + 1) event) → MakesEntry scenario old new had has was.progress.id
own_makes scenario old new had has was event waits played courses own appends = next_makes scenario old new had has was event played courses (plays_next scenario old was event waits own.plays) own.truly own.queue appends

-- what holds of the session that its own entry left holds of what the code holds then
pub entered_holds : (scenario : Scenario) (old : List Entry) (was : Backend) (event : Event) (waits : AwaitsEntry scenario old was) (p : Progress) (goes : HasEntered scenario old was.progress event waits.rests p) (Held : Facts → Option Command → Session → Type 0)
    → Held (facts_by old was.progress.id (was.progress.finished + 1) event (facts_of old was.progress.id)) (command_at was) (entered (facts_of (with_own old was.progress event) was.progress.id) (drop was.progress.finished was.progress.commands) (length old + 1) (was.progress.finished + 1) event (waiting waits))
    → Held (facts_of (with_own old was.progress event) p.id) (slice_get p.commands p.finished) (session_at p goes.holds.rest)
entered_holds scenario old was event waits p goes Held held =
    subst (λ f. Held f (slice_get p.commands p.finished) (session_at p goes.holds.rest)) (sym (ap (facts_of (with_own old was.progress event)) goes.moves.id ∙ facts_of-own old (entry_of was.progress.id (was.progress.finished + 1) event) was.progress.id (eq-eqb was.progress.id was.progress.id refl)))
    (subst (λ o. Held (facts_by old was.progress.id (was.progress.finished + 1) event (facts_of old was.progress.id)) o (session_at p goes.holds.rest)) (sym (λ i. slice_get (goes.moves.commands i) (goes.moves.finished i)))
    (subst (Held (facts_by old was.progress.id (was.progress.finished + 1) event (facts_of old was.progress.id)) (command_at was)) (sym goes.session) held))

-- after an entry that may come its transaction is that of its command or its block still
own_runs : (scenario : Scenario) (old : List Entry) (was : Backend) (event : Event) (waits : AwaitsEntry scenario old was) → IsPlayed scenario old → AllOnCourse scenario old → MayPlayIn (next_oid old) (facts_of old was.progress.id) (command_at was) (waiting waits) event → MayFollow old (entry_of was.progress.id (was.progress.finished + 1) event)
    → RunsFit (facts_by old was.progress.id (was.progress.finished + 1) event (facts_of old was.progress.id)) (command_at was) (entered (facts_of (with_own old was.progress event) was.progress.id) (drop was.progress.finished was.progress.commands) (length old + 1) (was.progress.finished + 1) event (waiting waits))
own_runs scenario old was event waits played courses plays follows =
    subst (λ f. RunsFit (facts_by old b (was.progress.finished + 1) event (facts_of old b)) (command_at was) (entered f left (length old + 1) (was.progress.finished + 1) event (waiting waits))) (sym (facts_of-own old (entry_of b (was.progress.finished + 1) event) b (eq-eqb b b refl)))
    (subst (λ n. MayFollow old (entry_of b n event) → RunsFit (facts_by old b n event (facts_of old b)) (command_at was) (entered (facts_by old b n event (facts_of old b)) left (length old + 1) n event (waiting waits))) (ap (λ n. n + 1) waits.rests.holds.count)
    (λ may. (transactions_kept scenario).enters old b (command_at was) (waiting waits) event left (record { played = played; course = waiting_course scenario old was waits courses; at = at_session scenario old was waits; waits = waits_for scenario old was waits; follows = may; plays = plays }) (first_left was.progress.commands was.progress.finished) waits.runs) follows)
  where
    b : ℕ
    b = was.progress.id

    left : List Command
    left = drop was.progress.finished was.progress.commands

-- after its own entry a backend agrees
pub own_agrees : (scenario : Scenario) (old : List Entry) (was now : Backend) (event : Event) (waits : AwaitsEntry scenario old was) → IsPlayed scenario old → AllOnCourse scenario old → MayPlayIn (next_oid old) (facts_of old was.progress.id) (command_at was) (waiting waits) event
    → MayFollow old (entry_of was.progress.id (was.progress.finished + 1) event) → (goes : HasEntered scenario old was.progress event waits.rests now.progress)
    → Fits (facts_of (with_own old was.progress event) now.progress.id) (command_at now) (session_at now.progress goes.holds.rest) now.looked now.frames now.told
    → now.life ≡ was.life → life_by (was.progress.finished + 1) event ≡ Alive (was.progress.finished + 1) → now.lines ≡ was.lines → event ≢ events.Stop → now.progress.answer ≡ answer_after event was.progress.answer
    → AgreesNow scenario (with_own old was.progress event) now
own_agrees scenario old was now event waits played courses plays follows goes fits life lives lines stays answer = record { keeps = keeps; holds = goes.holds; runs = entered_holds scenario old was event waits now.progress goes RunsFit (own_runs scenario old was event waits played courses plays follows); fits = fits; tells = told.0; lines = lines ∙ told.1; before = before_own scenario old was.progress now.progress event waits.rests waits.before plays goes }
  where
    b : ℕ
    b = was.progress.id

    keeps : Keeps (with_own old was.progress event) now
    keeps = record {
      alive = life ∙ waits.keeps.alive;
      life = record {
        last = was.progress.finished + 1;
        alive = ap (life_of (with_own old was.progress event)) goes.moves.id ∙ life_of-own old (entry_of b (was.progress.finished + 1) event) b (eq-eqb b b refl) ∙ lives;
        most = omega (arith, goes.moves.finished);
      };
      absent = own_absent scenario old was.progress now.progress event was.lines (session_waits waits) courses follows plays goes;
    }

    told : TellsNow scenario (with_own old was.progress event) now.progress goes.holds × AreLines scenario (with_own old was.progress event) now.progress (session_at now.progress goes.holds.rest) was.lines
    told = own_tells scenario old was.progress now.progress event was.lines (session_waits waits) played.spelled (sound_is_legal old played.sound) played.plays follows plays stays goes answer

-- a backend's own entry
pub own_enters : (scenario : Scenario) (old new : List Entry) (had has : ℕ → ℕ) (was now : Backend) (event : Event) (waits : AwaitsEntry scenario old was) → IsPlayed scenario old → AllOnCourse scenario old → OwnEntry scenario old was event waits
    → (goes : HasEntered scenario old was.progress event waits.rests now.progress)
    → Fits (facts_of (with_own old was.progress event) now.progress.id) (command_at now) (session_at now.progress goes.holds.rest) now.looked now.frames now.told
    → now.life ≡ was.life → life_by (was.progress.finished + 1) event ≡ Alive (was.progress.finished + 1) → now.lines ≡ was.lines → event ≢ events.Stop → now.progress.answer ≡ answer_after event was.progress.answer
    → Appends old new had has (entry_of was.progress.id (was.progress.finished + 1) event) → Enters scenario old new had has was now
own_enters scenario old new had has was now event waits played courses own goes fits life lives lines stays answer appends = record {
  makes = own_makes scenario old new had has was event waits played courses own appends;
  id = goes.moves.id;
  agrees = subst (λ h. AgreesNow scenario h now) (sym appends.entries) (own_agrees scenario old was now event waits played courses own.plays appends.comes.follows goes fits life lives lines stays answer);
}
