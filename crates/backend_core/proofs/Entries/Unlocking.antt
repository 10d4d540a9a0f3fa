-- The lock that a backend gives back.
use Rattle.std.proofs.Common.{inl, ◌≡◌, ◌+◌, ◌<◌, ◌≤◌, ◌∙◌, ◌&&◌, ◌==◌, ℕ, true, false, Option, Some, None, List, [], ◌∷◌, refl, sym, ap, subst, filter, length, drop, arith, map, ◌||◌}
use Rattle.std.specs.List.{AllByRecursion, list_any}
use Rattle.std.proofs.lemmas.Bool.{and_parts, false_from_ne_true, leb-true}
use Rattle.event_kinds.specs.declared.entry.Event.TheVariants as events
use Rattle.lock_modes.specs.Own.{has_lock, is_own}
use Rattle.inval_messages.specs.Lists.{Written, has_write_from}
use Rattle.ddl_effect.specs.Plans.{Act, Plan, Done, Fails, Absent, Do, Lookup, Open, Search, Read, Lock, Write}
use Rattle.ddl_effect.specs.Stages.{plan_at}
use Rattle.history_model.specs.Held.{held_of}
use Rattle.history_model.specs.MayFollow.{AllowsUnlock}
use Rattle.history_model.specs.Transactions.{has_written}
use Rattle.history_model.proofs.Every.{any-weaker}
use Rattle.seg_calls.specs.Calls.{entry_of, MayCall, Appends}
use Rattle.cacheless.specs.Facts.{Facts, facts_of}
use Rattle.cacheless.specs.Holds.{HasEntered, with_own}
use Rattle.cacheless.specs.Locks.{grant_of}
use Rattle.cacheless.specs.Work.{work_of}
use Rattle.cacheless.specs.Owed.{owed_in, started_in}
use Rattle.cacheless.specs.Plays.{IsUnlock, MayPlayIn}
use Rattle.cacheless.specs.Session.{Session, number_of, outcome_of, is_settled}
use Rattle.cacheless.specs.Sessions.{entered}
use Rattle.cacheless.specs.State.{owed_after, is_absent}
use Rattle.cacheless.proofs.FactsAfter.{facts_by}
use Rattle.cacheless.proofs.HeldLocks.{lock_of_command, locks_of, locks_are_held, Follows}
use Rattle.cacheless.proofs.Allowed.NextKeeps.{nothing_owed}
use Rattle.cacheless.proofs.Plans.SilentActs.{on_its_way}
use Rattle.cacheless.proofs.Written.Listed.{lists_before_it}
use Rattle.backend_core.specs.Types.{Oid, Mode, Row, Scenario, Entry, Event, Progress, Backend}
use Rattle.backend_core.specs.Agrees.{IsPlayed, command_at, AwaitsEntry}
use Rattle.cacheless.specs.OnCourse.{OnItsWay, AllOnCourse}
use Rattle.backend_core.specs.Fits.{looks_due, LooksFit, TakesFit, IsLookedFor, lacks_scan, is_gone_due}
use Rattle.backend_core.specs.Steps.{IsUnlockNext, Enters}
use Rattle.backend_core.proofs.Choosing.Running.{entry_runs}
use Rattle.backend_core.proofs.Choosing.Chosen.{Acts, may_call, now_plays, standing as not_gone}
use Rattle.backend_core.proofs.Entries.Failing.{IsActing}
use Rattle.backend_core.proofs.Entries.Inside.{runs_on, inside_fits}
use Rattle.backend_core.proofs.Fitting.Entered.{fits_at}
use Rattle.backend_core.proofs.Fitting.Sought.{act_serves, no_look, unlock_found}
use Rattle.backend_core.proofs.Own.{waiting, waiting_is, follows, own_enters}
use Rattle.history_model.specs.Drawn.{next_oid}
use Rattle.history_model.specs.Transactions.{begun}
use Rattle.cacheless.specs.Rule.{may_come}
use Rattle.cacheless.specs.State.{facts_at, work_at}
use Rattle.history_model.proofs.Prefixes.{EachEntry-weaker}
use Rattle.history_model.specs.Sound.{MayComeNext}
use Rattle.std.specs.Prelude.{nat_le}
use Rattle.backend_core.proofs.Fitting.Rebuilding.{same_fits, owed_bare}

-- a lookup gives it back
record IsLookup (facts : Facts) (taken : Option Oid) (p : Plan) (rel : Oid) (mode : Mode) : Type 0 where
  name : List ℕ
  rest : List Row → Plan
  is : p ≡ Do (Lookup name mode) rest
  took : taken ≡ Some rel

unlocks_lookup : (facts : Facts) (taken : Option Oid) (p : Plan) (rel : Oid) (mode : Mode) → IsUnlock facts taken p rel mode → IsLookup facts taken p rel mode
unlocks_lookup facts taken (Do (Lookup name wanted) rest) rel mode asks = record { name = name; rest = rest; is = ap (λ m. Do (Lookup name m) rest) (sym asks.1); took = asks.0 }
unlocks_lookup facts taken (Do (Open of kind) rest) rel mode asks = absurd asks
unlocks_lookup facts taken (Do (Search scan) rest) rel mode asks = absurd asks
unlocks_lookup facts taken (Do (Read scan) rest) rel mode asks = absurd asks
unlocks_lookup facts taken (Do (Lock of wanted) rest) rel mode asks = absurd asks
unlocks_lookup facts taken (Do (Write draft) rest) rel mode asks = absurd asks
unlocks_lookup facts taken (Done told) rel mode asks = absurd asks
unlocks_lookup facts taken (Fails error) rel mode asks = absurd asks
unlocks_lookup facts taken (Absent name) rel mode asks = absurd asks

none_standing : (n : ℕ) (lists : List Written) → AllByRecursion (λ (list : Written). list.command < n) lists → has_write_from n lists ≡ false
none_standing n [] all = refl
none_standing n (w ∷ lists) all = λ i. false_from_ne_true (nat_le n w.command) (λ is. absurd (omega (arith, leb-true n w.command is, all.0))) i || none_standing n lists all.1 i

module _ (scenario : Scenario) (old : List Entry) (was : Backend) (waits : AwaitsEntry scenario old was) (played : IsPlayed scenario old) (courses : AllOnCourse scenario old) (rel : Oid) (mode : Mode) (next : IsUnlockNext was.progress rel mode) where
  abbrev facts : Facts
  facts = facts_of old was.progress.id

  abbrev s : Session
  s = waiting waits

  abbrev event : Event
  event = events.Unlock rel mode

  plays : MayPlayIn (next_oid old) facts (command_at was) s event
  plays = now_plays scenario old was waits next.command next.free.at event (ap (λ o. may_come (next_oid old) (facts_at was.progress) o (work_at was.progress) event) next.free.at ∙ next.may)

  asks : (owed_in facts next.command (work_of s) ≡ []) × IsUnlock facts was.progress.taken (plan_at was.progress.opens was.progress.exec) rel mode
  asks = subst (λ o. MayPlayIn (next_oid old) facts o s event) next.free.at plays

  abbrev lookup : IsLookup facts was.progress.taken (plan_at was.progress.opens was.progress.exec) rel mode
  lookup = unlocks_lookup facts was.progress.taken (plan_at was.progress.opens was.progress.exec) rel mode asks.1

  abbrev act : Act
  act = Lookup lookup.name mode

  acting : IsActing scenario old was next.command
  acting = record {
    at = next.free.at;
    unsettled = ap (λ p. is_settled (outcome_of p)) lookup.is;
    runs = entry_runs scenario old was waits courses next.command next.free.at next.free.first;
    owed = (ap (λ f. owed_after f.due) waits.rests.holds.facts) ∙ next.free.due;
    bare = owed_bare facts (command_at was) s was.frames next.command waits.fits.rebuilds asks.0;
  }

  -- it is held by a grant of the command
  granted : list_any (λ lock. is_own rel mode lock && (lock.command == was.progress.finished + 1)) was.progress.locks.items ≡ true
  granted = subst (λ n. list_any (λ lock. is_own rel mode lock && (lock.command == n + 1)) was.progress.locks.items ≡ true) waits.rests.holds.count
      (subst (TakesFit (number_of s) s.locks (Some rel)) lookup.is (subst (λ o. TakesFit (number_of s) s.locks o s.left) lookup.took waits.fits.takes))

  pub unlock_held : has_lock was.progress.locks.items rel mode ≡ true
  unlock_held = any-weaker (λ lock. is_own rel mode lock && (lock.command == was.progress.finished + 1)) (is_own rel mode) (λ lock is. (and_parts (is_own rel mode lock) _ is).0) was.progress.locks.items granted

  way : OnItsWay old was.progress.id s next.command
  way = on_its_way old was.progress.id s next.command act lookup.rest (follows scenario old was waits courses next.command next.free.at) lookup.is

  unwritten : has_written old was.progress.id (was.progress.finished + 1) ≡ false
  unwritten = subst (λ n. has_written old was.progress.id (n + 1) ≡ false) waits.rests.holds.count way.unwritten

  standing : has_write_from (was.progress.finished + 1) facts.lists ≡ false
  standing = none_standing (was.progress.finished + 1) facts.lists
      (lists_before_it was.progress.id old (was.progress.finished + 1) played.sound unwritten (subst (AllByRecursion (λ (list : Written). list.command ≤ was.progress.finished + 1)) (sym (ap (λ f. f.lists) waits.rests.holds.facts)) waits.rests.holds.order))

  grants : filter (λ g. g.backend == was.progress.id) (held_of old) ≡ map (grant_of was.progress.id) was.progress.locks.items
  grants = locks_are_held scenario old was.progress.id (EachEntry-weaker MayComeNext Follows (λ before e comes. comes.follows.life) old played.sound) ∙ ap (λ o. map (grant_of was.progress.id) (locks_of o)) (waiting_is scenario old was waits)

  allows : AllowsUnlock old was.progress.id (was.progress.finished + 1) rel mode
  allows = (lock_of_command was.progress.id (was.progress.finished + 1) rel mode (held_of old) was.progress.locks.items grants granted, standing)

  -- it may be entered
  pub unlock_call : MayCall scenario old (entry_of was.progress.id (was.progress.finished + 1) event)
  unlock_call = may_call scenario old was waits next.command next.free.at event (Acts acting.unsettled) refl allows

  not_taken_back : is_gone_due facts.due ≡ false
  not_taken_back = not_gone scenario old was waits next.command next.free.at (Acts acting.unsettled)

  before : LooksFit facts s was.looked was.frames was.told
  before = waits.fits.looks

  same : Some (begun (was.progress.finished + 1) facts.running) ≡ facts.running
  same = runs_on (was.progress.finished + 1) facts.running acting.runs

  -- no look was made that isn't used
  unlooked : {X : Type 0} → IsLookedFor facts was.frames s.taken s.left → X
  unlooked = no_look facts was.frames s.taken s.left (subst (λ p. lacks_scan facts p ≡ false) (sym lookup.is) (act_serves facts act lookup.rest (nothing_owed facts next.command s act lookup.rest lookup.is asks.0)))
      (unlock_found facts s.taken s.left rel lookup.took) (ap is_absent lookup.is)

  -- after it the backend agrees
  pub unlock_enters : (new : List Entry) (had has : ℕ → ℕ) (p : Progress) → HasEntered scenario old was.progress event waits.rests p → p.answer ≡ None
      → Appends old new had has (entry_of was.progress.id (was.progress.finished + 1) event) → Enters scenario old new had has was (record was { progress = p })
  unlock_enters new had has p goes none appends =
      own_enters scenario old new had has was (record was { progress = p }) event waits played courses (record { plays = plays; truly = tt; queue = tt }) goes
      (fits_at scenario old was event waits p goes was.looked was.frames was.told
      (inside_fits scenario old was waits courses next.command next.free.at later now was.looked was.frames was.told (record { blocks = refl; opens = refl; held = inl refl; finished = refl; blocked = refl; ended = refl; left = λ is there. refl })
      (record { enough = omega (arith, before.enough, ap looks_due acting.owed, started); within = omega (arith, before.within, ap looks_due acting.owed, started); once = omega (arith, before.once, started) })
      (same_fits facts later (command_at was) s now was.frames refl refl refl refl (sym not_taken_back) waits.fits.rebuilds)
      (λ made. unlooked (waits.fits.sought made)) tt))
      refl refl refl (λ stop. cc stop) none appends
    where
      later : Facts
      later = facts_by old was.progress.id (was.progress.finished + 1) event facts

      now : Session
      now = entered (facts_of (with_own old was.progress event) was.progress.id) (drop was.progress.finished was.progress.commands) (length old + 1) (was.progress.finished + 1) event s

      started : started_in (number_of now) later ≡ started_in (number_of s) facts
      started = ap (λ o. started_in (number_of s) (record facts { running = o })) same
