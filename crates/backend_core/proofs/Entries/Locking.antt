-- The locks that a backend asks for.
use Rattle.std.proofs.Common.{inl, ◌≡◌, ◌<◌, ◌+◌, ◌∙◌, ◌&&◌, ℕ, Bool, true, false, Option, Some, None, Err, List, [], ◌∷◌, refl, sym, ap, subst, length, drop, is_some, arith, is_none, ◌++◌}
use Rattle.std.proofs.lemmas.Bool.{and_parts}
use Rattle.base_types.specs.declared.row.Row.TheVariants as rows
use Rattle.base_types.specs.declared.scan.Purpose.TheVariants as scans
use Rattle.event_kinds.specs.declared.entry.Event.TheVariants as events
use Rattle.command_answers.specs.declared.error.CommandError.TheVariants as errors
use Rattle.lock_modes.specs.Grants.{holds}
use Rattle.lock_modes.specs.Own.{has_lock}
use Rattle.lock_modes.specs.declared.granted.LockRefusal.{LockRefusal}
use Rattle.lock_modes.specs.declared.granted.LockRefusal.TheVariants.{Conflict}
use Rattle.ddl_effect.specs.Plans.{Act, Plan, Done, Fails, Absent, Do, Lookup, Open, Search, Read, Lock, Write}
use Rattle.ddl_effect.specs.Stages.{plan_at}
use Rattle.history_model.specs.Drawn.{next_oid}
use Rattle.history_model.specs.Held.{held_of}
use Rattle.history_model.specs.Transactions.{begun}
use Rattle.seg_calls.specs.Calls.{entry_of, MayRequest, Appends, Locks}
use Rattle.cacheless.specs.Facts.{Facts, facts_of}
use Rattle.cacheless.specs.Holds.{HasEntered, with_own}
use Rattle.cacheless.specs.May.{owes_nothing, names_relation, is_lock_at, may_play_at}
use Rattle.cacheless.specs.Rule.{may_come}
use Rattle.cacheless.specs.OnCourse.{AllOnCourse}
use Rattle.cacheless.specs.Work.{work_of}
use Rattle.cacheless.specs.Owed.{owed_in, started_in}
use Rattle.cacheless.specs.Plays.{IsLock, MayPlayIn}
use Rattle.cacheless.specs.Session.{Session, number_of, outcome_of, is_settled}
use Rattle.cacheless.specs.Sessions.{entered}
use Rattle.cacheless.specs.Settled.{if_locked, has_taken_no_other}
use Rattle.cacheless.specs.Silently.{gives_next, looks_up_at}
use Rattle.cacheless.specs.State.{facts_at, work_at, owed_after, kept_at, rows_kept, row_sought, is_absent}
use Rattle.cacheless.proofs.FactsAfter.{facts_by}
use Rattle.cacheless.proofs.WantedPlans.{first_up}
use Rattle.cacheless.proofs.Plans.ClearLocks.{session_holds}
use Rattle.cacheless.proofs.Allowed.NextKeeps as keeping
use Rattle.cacheless.proofs.SameRows.{oid_decides}
use Rattle.backend_core.specs.Types.{Oid, Mode, Row, Scenario, Entry, Event, Progress, Backend}
use Rattle.backend_core.specs.Agrees.{IsPlayed, command_at, AwaitsEntry}
use Rattle.backend_core.specs.Fits.{looks_due, LooksFit, IsLookedFor, lacks_scan}
use Rattle.backend_core.specs.Steps.{IsLockNext, Enters}
use Rattle.backend_core.proofs.Choosing.Running.{entry_runs}
use Rattle.backend_core.proofs.Entries.Alike.{alike_enters}
use Rattle.backend_core.proofs.Choosing.Chosen.{Acts, may_request, now_plays, standing}
use Rattle.backend_core.proofs.Fitting.Entered.{fits_at}
use Rattle.backend_core.proofs.Entries.Failing.{IsActing, held_shows, failed_enters}
use Rattle.backend_core.proofs.Entries.Inside.{runs_on, inside_fits}
use Rattle.backend_core.proofs.Own.{waiting, waiting_is, follows, own_enters}
use Rattle.backend_core.proofs.Fitting.Sought.{takes_cleared, no_look, act_serves, takes_granted, lock_found}
use Rattle.cacheless.proofs.Allowed.NextKeeps.{nothing_owed}
use Rattle.cacheless.specs.Types.{Row}
use Rattle.std.proofs.Math.Bool.{and-true}
use Rattle.backend_core.proofs.Fitting.Rebuilding.{same_fits, owed_bare}
use Rattle.backend_core.proofs.Stacking.Looked.{told_none}

unlocked_still : (t : Bool) (given : List Row) → is_some (if_locked t given) ≡ false → t ≡ false
unlocked_still true given gives = absurd (cc gives)
unlocked_still false given gives = refl

-- the relation of the row isn't locked, where it waits for its lock and none is taken
unlocked : (s : Progress) (mode : Mode) (given : Option Row) (rel : Oid) → s.taken ≡ None → names_relation rel given ≡ true → is_some (looks_up_at s mode given) ≡ false → has_lock s.locks.items rel mode ≡ false
unlocked s mode (Some (rows.Class oid own kind fill)) rel free names none = subst (λ r. has_lock s.locks.items r mode ≡ false) (sym ((oid_decides rel oid).0 names))
    (sym (and-true (has_lock s.locks.items oid mode)) ∙ ap (λ o. has_lock s.locks.items oid mode && has_taken_no_other o oid) (sym free) ∙ unlocked_still (has_lock s.locks.items oid mode && has_taken_no_other s.taken oid) (rows.Class oid own kind fill ∷ []) none)
unlocked s mode given rel free names none = absurd (cc names)

-- the lock that comes next isn't held
not_held : (facts : Facts) (s : Progress) (p : Plan) (rel : Oid) (mode : Mode) → s.taken ≡ None → is_lock_at s p rel mode ≡ true → IsLock facts p rel mode → gives_next s p ≡ false → has_lock s.locks.items rel mode ≡ false
not_held facts s (Do (Lookup name wanted) rest) rel mode free is asks none = subst (λ m. has_lock s.locks.items rel m ≡ false) (sym asks.1) (unlocked s wanted (row_sought s name) rel free (and_parts (names_relation rel (row_sought s name)) _ is).0 (sym (first_up (facts_at s) (work_at s) wanted (rows_kept (kept_at s) (scans.RelName name))) ∙ none))
not_held facts s (Do (Lock other wanted) rest) rel mode free is asks none = (λ i. has_lock s.locks.items (asks.0 i) (asks.1 i)) ∙ unlocked_still (has_lock s.locks.items other wanted) [] none
not_held facts s (Do (Open of kind) rest) rel mode free is asks none = absurd asks
not_held facts s (Do (Search scan) rest) rel mode free is asks none = absurd asks
not_held facts s (Do (Read scan) rest) rel mode free is asks none = absurd asks
not_held facts s (Do (Write draft) rest) rel mode free is asks none = absurd asks
not_held facts s p rel mode free is asks none = absurd asks

-- an act asks for it
record IsAct (p : Plan) : Type 0 where
  act : Act
  rest : List Row → Plan
  is : p ≡ Do act rest

locks_act : (facts : Facts) (p : Plan) (rel : Oid) (mode : Mode) → IsLock facts p rel mode → IsAct p
locks_act facts (Do act rest) rel mode asks = record { act = act; rest = rest; is = refl }
locks_act facts (Done told) rel mode asks = absurd asks
locks_act facts (Fails error) rel mode asks = absurd asks
locks_act facts (Absent name) rel mode asks = absurd asks

-- the entry of a lock that is refused, by what the call answered
pub held_appends : (old new : List Entry) (had has : ℕ → ℕ) (b c : ℕ) (rel : Oid) (mode : Mode) (refusal : LockRefusal) (holder of : ℕ) (held under : Mode) → refusal ≡ Conflict holder held → of ≡ holder → under ≡ held → Locks old new had has b c rel mode (Err refusal)
    → Appends old new had has (entry_of b c (events.LockHeld rel mode of under))
held_appends old new had has b c rel mode refusal holder of held under is holder_is held_is locks =
    subst (λ e. Appends old new had has (entry_of b c e)) (λ i. events.LockHeld rel mode (sym holder_is i) (sym held_is i)) (subst (λ r. Locks old new had has b c rel mode (Err r)) is locks)

-- all that a lock rests on
module _ (scenario : Scenario) (old : List Entry) (was : Backend) (waits : AwaitsEntry scenario old was) (played : IsPlayed scenario old) (courses : AllOnCourse scenario old) (rel : Oid) (mode : Mode) (next : IsLockNext was.progress rel mode) where
  abbrev facts : Facts
  facts = facts_of old was.progress.id

  abbrev s : Session
  s = waiting waits

  parts : (owes_nothing next.command was.progress && is_none was.progress.taken ≡ true) × (is_lock_at was.progress (plan_at was.progress.opens was.progress.exec) rel mode ≡ true)
  parts = and_parts (owes_nothing next.command was.progress && is_none was.progress.taken) _ next.may

  may : (owes_nothing next.command was.progress ≡ true) × (is_lock_at was.progress (plan_at was.progress.opens was.progress.exec) rel mode ≡ true)
  may = ((and_parts (owes_nothing next.command was.progress) _ parts.0).0, parts.1)

  plays : (event : Event) → may_play_at (next_oid old) next.command was.progress event ≡ true → MayPlayIn (next_oid old) facts (command_at was) s event
  plays event is = now_plays scenario old was waits next.command next.free.at event (ap (λ o. may_come (next_oid old) (facts_at was.progress) o (work_at was.progress) event) next.free.at ∙ is)

  asks : (owed_in facts next.command (work_of s) ≡ []) × (was.progress.taken ≡ None) × IsLock facts (plan_at was.progress.opens was.progress.exec) rel mode
  asks = subst (λ o. MayPlayIn (next_oid old) facts o s (events.LockOk rel mode)) next.free.at (plays (events.LockOk rel mode) next.may)

  is_act : IsAct (plan_at was.progress.opens was.progress.exec)
  is_act = locks_act facts (plan_at was.progress.opens was.progress.exec) rel mode asks.2

  acting : IsActing scenario old was next.command
  acting = record {
    at = next.free.at;
    unsettled = ap (λ p. is_settled (outcome_of p)) is_act.is;
    runs = entry_runs scenario old was waits courses next.command next.free.at next.free.first;
    owed = (ap (λ f. owed_after f.due) waits.rests.holds.facts) ∙ next.free.due;
    bare = owed_bare facts (command_at was) s was.frames next.command waits.fits.rebuilds asks.0;
  }

  before : LooksFit facts s was.looked was.frames was.told
  before = waits.fits.looks

  same : Some (begun (was.progress.finished + 1) facts.running) ≡ facts.running
  same = runs_on (was.progress.finished + 1) facts.running acting.runs

  -- it may be asked for
  pub lock_request : MayRequest scenario old was.progress.id (was.progress.finished + 1)
  lock_request = may_request scenario old was waits next.command next.free.at (Acts acting.unsettled)

  -- no look was made that isn't used
  unlooked : {X : Type 0} → IsLookedFor facts was.frames s.taken s.left → X
  unlooked = no_look facts was.frames s.taken s.left (subst (λ p. lacks_scan facts p ≡ false) (sym is_act.is) (act_serves facts is_act.act is_act.rest (nothing_owed facts next.command s is_act.act is_act.rest is_act.is asks.0)))
      (lock_found facts s.taken s.left rel mode asks.2) (ap is_absent is_act.is)

  pub lock_free : has_lock was.progress.locks.items rel mode ≡ false
  lock_free = not_held facts was.progress (plan_at was.progress.opens was.progress.exec) rel mode asks.1 may.1 asks.2 (ap (λ t. t && gives_next was.progress (plan_at was.progress.opens was.progress.exec)) (sym may.0) ∙ (waits.rests.still next.command next.free.at).0)

  pub lock_new : holds (held_of old) was.progress.id rel mode ≡ false
  lock_new = session_holds scenario old was.progress.id s played.sound (waiting_is scenario old was waits) rel mode ∙ lock_free

  pub lock_drawn : rel.0 < next_oid old
  lock_drawn = keeping.lock_drawn old was.progress.id s next.command rel mode played.sound (follows scenario old was waits courses next.command next.free.at) asks.2

  -- a lock that is granted, to a backend that had the room for it made
  module _ (first : Backend) (id : was.progress.id ≡ first.progress.id) (new : List Entry) (had has : ℕ → ℕ) (p : Progress) (none : p.answer ≡ None) where
    pub granted_enters : HasEntered scenario old was.progress (events.LockOk rel mode) waits.rests p
        → Appends old new had has (entry_of was.progress.id (was.progress.finished + 1) (events.LockOk rel mode)) → Enters scenario old new had has first (record was { progress = p; told = false })
    granted_enters goes appends = alike_enters scenario old new had has first was (record was { progress = p; told = false }) id (
        own_enters scenario old new had has was (record was { progress = p; told = false }) event waits played courses (record { plays = plays event next.may; truly = tt; queue = tt }) goes
        (fits_at scenario old was event waits p goes was.looked was.frames false
        (inside_fits scenario old was waits courses next.command next.free.at later now was.looked was.frames false (record { blocks = refl; opens = refl; held = inl refl; finished = refl; blocked = refl; ended = refl; left = λ is there. refl })
        (record { enough = omega (arith, before.enough, ap looks_due acting.owed, started); within = omega (arith, told_none was.told was.frames, before.within, ap looks_due acting.owed, started); once = omega (arith, before.once, started) })
        (same_fits facts later (command_at was) s now was.frames refl refl refl refl (sym (standing scenario old was waits next.command next.free.at (Acts acting.unsettled))) waits.fits.rebuilds)
        (λ made. unlooked (waits.fits.sought made)) (takes_cleared _ (number_of s) (s.locks ++ record { rel = rel; mode = mode; command = was.progress.finished + 1; clear = false } ∷ []) (Some rel) s.left
        (takes_granted facts (number_of s) (was.progress.finished + 1) s.locks s.left rel mode (ap (λ n. n + 1) (sym waits.rests.holds.count)) asks.2))))
        refl refl refl (λ stop. cc stop) none appends)
      where
        event : Event
        event = events.LockOk rel mode

        later : Facts
        later = facts_by old was.progress.id (was.progress.finished + 1) event facts

        now : Session
        now = entered (facts_of (with_own old was.progress event) was.progress.id) (drop was.progress.finished was.progress.commands) (length old + 1) (was.progress.finished + 1) event s

        started : started_in (number_of now) later ≡ started_in (number_of s) facts
        started = ap (λ o. started_in (number_of s) (record facts { running = o })) same

    -- and one that is refused
    pub refused_enters : (holder : ℕ) (held : Mode) → HasEntered scenario old was.progress (events.LockHeld rel mode holder held) waits.rests p
        → Appends old new had has (entry_of was.progress.id (was.progress.finished + 1) (events.LockHeld rel mode holder held)) → Enters scenario old new had has first (record was { progress = p })
    refused_enters holder held goes appends = alike_enters scenario old new had has first was (record was { progress = p }) id (failed_enters scenario old new had has was p (events.LockHeld rel mode holder held) (errors.Locked rel holder held) next.command waits played courses acting
        (λ made. unlooked (waits.fits.sought made)) (held_shows scenario old was s rel mode holder held) (plays (events.LockHeld rel mode holder held) next.may) goes none appends)
