-- The fetch of messages that wait, or of a reset.
use Rattle.std.proofs.Common.{◌≡◌, ◌≢◌, ◌≤◌, ◌+◌, ◌-◌, ◌∙◌, ◌==◌, ◌&&◌, ℕ, Bool, true, false, ◌||◌, not, Option, Some, None, List, [], ◌∷◌, refl, sym, ap, subst, length, drop, is_some, arith, ◌++◌, ◌⊎◌, inl, inr, cond, filter, map}
use Rattle.std.specs.Option.{option_map_or}
use Rattle.std.proofs.Math.Bool.{and-false, or-true, or-false, and-true}
use Rattle.std.proofs.Math.Nat.{min-le_right}
use Rattle.std.proofs.lemmas.List.{length-take-le, length-drop}
use Rattle.std.proofs.lemmas.Bool.{lt-ltb, and_parts, both_ways, or_cases, eq-eqb, ltb-true}
use Rattle.base_types.specs.declared.fetched.Fetched.TheVariants as fetches
use Rattle.base_types.specs.declared.scan.Purpose.TheVariants as scans
use Rattle.event_kinds.specs.declared.entry.Event.TheVariants as events
use Rattle.ddl_effect.specs.Plans.{Plan, Done, Absent, Do, Lookup, Search, told_rests_on, Fails, Open}
use Rattle.ddl_effect.specs.Stages.{plan_at}
use Rattle.history_model.specs.Drawn.{next_oid}
use Rattle.history_model.specs.Lapped.{is_lapped}
use Rattle.history_model.specs.Lives.{life_by, last_event_of}
use Rattle.history_model.specs.declared.life.Life.TheVariants.{Alive}
use Rattle.history_model.specs.Log.{log_of, position_of, fetched_by}
use Rattle.history_model.specs.Transactions.{begun}
use Rattle.history_model.specs.Changing.{is_empty}
use Rattle.seg_calls.specs.Calls.{entry_of, due_to, MayCall, Appends, Fetches}
use Rattle.cacheless.specs.declared.progress.Due.{Due as DueNext}
use Rattle.cacheless.specs.declared.progress.Due.TheVariants as dues
use Rattle.cacheless.specs.Facts.{due_last, Facts, due_after, due_fetched, facts_of}
use Rattle.cacheless.specs.Holds.{HasEntered, with_own}
use Rattle.cacheless.specs.OnCourse.{is_absent, AllOnCourse}
use Rattle.cacheless.specs.Owed.{OwesFetch, owed_after, counts_full, scans_owed_in, started_in, missing, builds_missing, act_owed}
use Rattle.cacheless.specs.Plays.{MayPlayIn}
use Rattle.cacheless.specs.Session.{Session, Tally, number_of, Outcome, Well, Badly, Unsettled, outcome_of}
use Rattle.cacheless.specs.Sessions.{resumed, placed_at, entered}
use Rattle.cacheless.specs.State.{one_if, kept_at, nothing_kept, is_kept}
use Rattle.cacheless.specs.Suspects.{lacks}
use Rattle.cacheless.specs.Work.{work_of}
use Rattle.cacheless.proofs.FactsAfter.{facts_by}
use Rattle.cacheless.proofs.Entries.EnteredFetches.{is_kept-spared}
use Rattle.cacheless.proofs.Lacking.{lacks_more}
use Rattle.cacheless.specs.Awaiting.{answer_after}
use Rattle.backend_core.specs.Types.{Oid, Purpose, Command, Scenario, Entry, Event, Message, OwnLock, Progress, Backend, Opening, Frame}
use Rattle.backend_core.specs.Agrees.{IsPlayed, command_at, AwaitsEntry}
use Rattle.backend_core.specs.Fits.{looks_due, LooksFit, came_well, TakesFit, IsLookedFor, Lacks, Unfound, Said, lacks_scan, finds_no_name, Fits, FramesFit, IsUnheld, keeps_whole, looked_in, looked_on_top, told_owed, is_lost, is_gone_due}
use Rattle.backend_core.specs.Steps.{Enters, MakesEntry}
use Rattle.backend_core.specs.Noted.{noted_of, noted_given, noted_reset, IsNoted}
use Rattle.backend_core.specs.declared.next.Next.TheVariants as nexts
use Rattle.backend_core.specs.Words.{is_unfound, finds_none, has_begun, marks_build, told_after, has_error, looked_after, frames_given, frames_reset_of}
use Rattle.backend_core.proofs.Choosing.Chosen.{Busy, Due, may_call, one_at_most, started_still}
use Rattle.backend_core.proofs.Fitting.Entered.{fits_at}
use Rattle.backend_core.proofs.Fitting.FitsEntries.{StaysAt, fits_inside}
use Rattle.backend_core.proofs.Fitting.Sought.{takes_cleared, unfound_held, well_there}
use Rattle.backend_core.proofs.Entries.WhereLeft.{entered_here}
use Rattle.cacheless.proofs.Tests.{not_true}
use Rattle.backend_core.proofs.Own.{waiting, over, unlost, OwnEntry, own_enters, follows, own_makes}
use Rattle.inval_messages.specs.Messages.{is_spared}
use Rattle.backend_core.proofs.Stacking.Looked.{top_most, told_most, after_less, reset_less, look_more, look_top}
use Rattle.backend_core.proofs.Stacking.Stacks.{stack_look, look_empty}
use Rattle.backend_core.proofs.Stacking.Messages.{stack_after}
use Rattle.backend_core.proofs.Stacking.Rests.{stack_reset}
use Rattle.backend_core.specs.Frames.{IsStack, on_top, with_look, looked_if, frames_after, frames_fetched, frames_reset, unless, restarted, with_rest}
use Rattle.std.specs.List.{find, list_any, AllByRecursion}
use Rattle.base_types.specs.Scans.{is_build_scan, build_scans}
use Rattle.cacheless.proofs.Same.{builds_of}
use Rattle.cacheless.proofs.Reading.{facts_of-own}
use Rattle.history_model.proofs.Every.{any-left, any-right}
use Rattle.std.specs.Prelude.{nat_lt}
use Rattle.local_caches.specs.Kept.{Kept}
use Rattle.backend_core.proofs.Fitting.Over.{IsWellOnceOver, well_lost}

-- a backend whose fetch is due
record IsDue (seen : List Entry) (s : Backend) : Type 0 where
  command : Command
  at : command_at s ≡ Some command
  owed : owed_after (facts_of seen s.progress.id).due ≡ OwesFetch ∷ []
  runs : is_some (facts_of seen s.progress.id).running ≡ true
  busy : Busy (facts_of seen s.progress.id).due s.progress command

is_due : (scenario : Scenario) (seen : List Entry) (s : Backend) → AwaitsEntry scenario seen s → s.progress.due ≡ dues.Fetch → IsDue seen s
is_due scenario seen s waits due = by_command (command_at s) refl
  where
    owed : owed_after (facts_of seen s.progress.id).due ≡ OwesFetch ∷ []
    owed = (ap (λ f. owed_after f.due) waits.rests.holds.facts) ∙ ap owed_after due

    by_command : (o : Option Command) → command_at s ≡ o → IsDue seen s
    by_command (Some command) is = record { command = command; at = is; owed = owed; runs = waits.runs.accepts (ap is_empty owed); busy = Due (ap (λ d. is_empty (owed_after d)) due) }
    by_command None is = absurd (let none : OwesFetch ∷ [] ≡ [] = sym owed ∙ waits.fits.past is in cc none)

-- a fetch is owed after a look that said yes alone
fetch_due : (due : DueNext) → owed_after due ≡ OwesFetch ∷ [] → due ≡ dues.Fetch
fetch_due dues.Fetch is = refl
fetch_due due is = absurd (cc is)

fetch_owed : (last : Option Event) → owed_after (due_last last) ≡ OwesFetch ∷ [] → last ≡ Some (events.Look true)
fetch_owed (Some (events.Look true)) is = refl
fetch_owed (Some (events.Fetch count)) is = by_test (count == 32) is
  where
    by_test : (t : Bool) → owed_after (elim t as (λ x. DueNext) [ true ↦ dues.Look | false ↦ dues.Nothing ]) ≡ OwesFetch ∷ [] → Some (events.Fetch count) ≡ Some (events.Look true)
    by_test true same = absurd (cc)
    by_test false same = absurd (cc)
fetch_owed last is = absurd (cc)

-- so the fetch may be made
pub fetch_call : (scenario : Scenario) (seen : List Entry) (s : Backend) → AwaitsEntry scenario seen s → s.progress.due ≡ dues.Fetch → MayCall scenario seen (entry_of s.progress.id (s.progress.finished + 1) (events.Fetch (due_to seen s.progress.id)))
fetch_call scenario seen s waits due = let d : IsDue seen s = is_due scenario seen s waits due in
    may_call scenario seen s waits d.command d.at (events.Fetch (due_to seen s.progress.id)) d.busy refl (fetch_owed (last_event_of seen s.progress.id) d.owed, refl)

-- a lookup that found no relation is taken up again, and nothing else changes
record IsResumed (p : Plan) (s : Session) : Type 0 where
  blocks : (resumed p s).blocks ≡ s.blocks
  opens : (resumed p s).opens ≡ s.opens
  finished : (resumed p s).finished ≡ s.finished
  blocked : (resumed p s).blocked ≡ s.blocked
  ended : (resumed p s).ended ≡ s.ended
  left : is_absent p ≡ false → (resumed p s).left ≡ s.left
  taken : (resumed p s).taken ≡ s.taken
  opened : (resumed p s).opened ≡ s.opened

is_resumed : (p : Plan) (s : Session) → IsResumed p s
is_resumed (Absent name) s = record { blocks = refl; opens = refl; finished = refl; blocked = refl; ended = refl; left = λ present. absurd (cc present); taken = refl; opened = refl }
is_resumed p s = record { blocks = refl; opens = refl; finished = refl; blocked = refl; ended = refl; left = λ present. refl; taken = refl; opened = refl }

-- it took no lock
takes_resumed : (locks : List OwnLock) (p : Plan) (s : Session) → s.left ≡ p → TakesFit (number_of s) locks s.taken s.left → TakesFit (number_of (resumed p s)) locks (resumed p s).taken (resumed p s).left
takes_resumed locks (Absent name) s at takes = by_taken s.taken (subst (TakesFit (number_of s) locks s.taken) at takes)
  where
    by_taken : (o : Option Oid) → TakesFit (number_of s) locks o (Absent name) → TakesFit (number_of s) locks o s.sought
    by_taken None takes = tt
    by_taken (Some rel) takes = absurd takes
takes_resumed locks p s at takes = takes

-- the session after a fetch: one more fetch, which is full at most where it asks for a look
record IsFetched (s now : Session) (event : Event) : Type 0 where
  stays : StaysAt s now
  looks : now.tally.looks ≡ s.tally.looks
  scans : now.tally.scans ≡ s.tally.scans
  grants : now.tally.grants ≡ s.tally.grants
  fetches : now.tally.fetches ≡ s.tally.fetches + 1
  due : looks_due (owed_after (due_after event)) ≤ 1
  left : is_absent s.left ≡ false → now.left ≡ s.left
  taken : now.taken ≡ s.taken
  opened : now.opened ≡ s.opened
  takes : TakesFit (number_of s) s.locks s.taken s.left → TakesFit (number_of now) now.locks now.taken now.left

abbrev fetched_facts : Facts → Session → Event → Kept → Facts
fetched_facts facts s event kept = record facts { due = due_after event; running = Some (begun (number_of s) facts.running); kept = kept }

-- the look of the act may not count any more; or messages came since a lookup began
alone : (unfound marked looked told : Bool) (due : ℕ) → due ≤ 1 → due + one_if ((told || (looked && not marked)) && not unfound) + one_if looked ≤ 2 + one_if (looked && not unfound && not marked) + one_if told
alone unfound marked false told due most = omega (arith, most, one_at_most told, came told)
  where
    came : (t : Bool) → one_if ((t || false) && not unfound) ≤ one_if t
    came true = one_at_most (not unfound)
    came false = omega arith
alone true marked true told due most = omega (arith, most, ap one_if (and-false (told || (true && not marked))))
alone false true true told due most = omega (arith, most, ap one_if (and-true (told || false) ∙ or-false told))
alone false false true told due most = omega (arith, most, ap one_if (and-true (told || true)), one_at_most (told || true))

-- what a fetch makes of the looks and of the rebuilds
record IsToldOf (facts later : Facts) (o : Option Command) (s now : Session) (event : Event) (looked : Bool) (frames : List Frame) (told looked_now : Bool) (frames_now : List Frame) (told_now : Bool) : Type 0 where
  gained : ℕ
  less : one_if looked_now + looked_in frames_now ≤ one_if looked + looked_in frames + gained
  full : now.tally.full + gained ≤ s.tally.full + looks_due (owed_after (due_after event))
  most : looks_due (owed_after (due_after event)) + told_owed told_now frames_now + looked_on_top looked frames ≤ 2 + looked_on_top looked_now frames_now + told_owed told frames
  rebuilds : FramesFit later o now frames_now

-- what the choice keeps after it
fetch_fits : (facts : Facts) (o : Option Command) (s now : Session) (event : Event) (kept : Kept) (command : Command) (looked : Bool) (frames : List Frame) (told unfound marked : Bool) (frames_now : List Frame) (told_now : Bool) → ((scan : Purpose) → is_kept facts.kept scan ≡ false → is_kept kept scan ≡ false) → (is_absent s.left ≡ true → unfound ≡ true) → (finds_no_name facts s.taken s.left ≡ true → unfound ≡ true) → o ≡ Some command → Fits facts o s looked frames told → IsFetched s now event → is_some facts.running ≡ true
    → IsWellOnceOver s → owed_after facts.due ≡ OwesFetch ∷ [] → IsToldOf facts (fetched_facts facts s event kept) o s now event looked frames told (looked && not unfound && not marked) frames_now told_now → Fits (fetched_facts facts s event kept) o now (looked && not unfound && not marked) frames_now told_now
fetch_fits facts o s now event kept command looked frames told unfound marked frames_now told_now spares says finds at fits fetched runs goes owed tells = fits_inside later o s now (looked && not unfound && not marked) frames_now told_now command at fits.relations fetched.stays goes looks tells.rebuilds sought (fetched.takes fits.takes)
  where
    later : Facts
    later = fetched_facts facts s event kept

    before : LooksFit facts s looked frames told
    before = fits.looks

    started : started_in (number_of now) later ≡ started_in (number_of s) facts
    started = ap (λ n. started_in (n + 1) later) fetched.stays.finished ∙ started_still (number_of s) (number_of s) facts.running runs

    well : came_well s.left ≤ came_well now.left
    well = by_absent (is_absent s.left) refl
      where
        by_absent : (t : Bool) → is_absent s.left ≡ t → came_well s.left ≤ came_well now.left
        by_absent true is = omega (arith, well_there s.left is)
        by_absent false is = omega (arith, ap came_well (fetched.left is))

    looks : LooksFit later now (looked && not unfound && not marked) frames_now told_now
    looks = record {
      enough = omega (arith, before.enough, ap looks_due owed, started, fetched.looks, fetched.scans, fetched.grants, tells.full, tells.less);
      within = omega (arith, before.within, ap looks_due owed, started, fetched.looks, fetched.scans, fetched.grants, fetched.fetches, tells.most, well, ap one_if fetched.stays.ended);
      once = omega (arith, before.once, started, ap one_if fetched.stays.ended);
    }

    -- what a look was made for that counts still is lacking still
    sought : (looked && not unfound && not marked) ≡ true → IsLookedFor later frames_now now.taken now.left × IsUnheld now.opened now.left
    sought made = let parts = and_parts looked (not unfound) (and_parts (looked && not unfound) (not marked) made).0 in by_case parts.0 (not_true unfound parts.1) (fits.sought parts.0)
      where
        by_plan : (p : Plan) → lacks_scan facts p ≡ true → lacks_scan later p ≡ true
        by_plan (Do (Lookup name mode) rest) is = ap not (spares (scans.RelName name) (not_true (is_kept facts.kept (scans.RelName name)) is))
        by_plan (Do (Search scan) rest) is = ap not (spares scan (not_true (is_kept facts.kept scan) is))
        by_plan (Do (Open rel kind) rest) is = lacks_more (is_kept facts.kept) (is_kept kept) (record { rel = rel; kind = kind }) spares is
        by_plan (Done told) is = by_scan (told_rests_on told) is
          where
            by_scan : (o : Option Purpose) → option_map_or (λ scan. not (is_kept facts.kept scan)) o false ≡ true → option_map_or (λ scan. not (is_kept later.kept scan)) o false ≡ true
            by_scan None lacking = lacking
            by_scan (Some scan) lacking = ap not (spares scan (not_true (is_kept facts.kept scan) lacking))
        by_plan p is = absurd (cc is)

        there : (p : Plan) → lacks_scan facts p ≡ true → is_absent p ≡ false
        there (Absent name) is = absurd (cc is)
        there p is = refl

        by_case : looked ≡ true → unfound ≡ false → IsLookedFor facts frames s.taken s.left → IsLookedFor later frames_now now.taken now.left × IsUnheld now.opened now.left
        by_case was none (Lacks is) = (
          Lacks (subst (λ p. lacks_scan later p ≡ true) (sym (fetched.left (there s.left is))) (by_plan s.left is)),
          subst (λ held. IsUnheld held now.left) (sym fetched.opened) (subst (IsUnheld s.opened) (sym (fetched.left (there s.left is))) (fits.unheld was)),
        )
        by_case was none (Unfound is look bare) = absurd (both_ways _ none (finds is))
        by_case was none (Said is) = absurd (both_ways _ none (says is))

-- what an event has of a fetch
record BringsBack (scenario : Scenario) (old : List Entry) (was : Backend) (event : Event) (waits : AwaitsEntry scenario old was) : Type 0 where
  own : OwnEntry scenario old was event waits
  lives : life_by (was.progress.finished + 1) event ≡ Alive (was.progress.finished + 1)
  on : event ≢ events.Stop
  unanswered : (answer : Option (List ℕ)) → answer_after event answer ≡ None
  kept : Kept
  spares : (scan : Purpose) → is_kept (facts_of old was.progress.id).kept scan ≡ false → is_kept kept scan ≡ false
  facts : facts_by old was.progress.id (was.progress.finished + 1) event (facts_of old was.progress.id) ≡ fetched_facts (facts_of old was.progress.id) (waiting waits) event kept
  fetched : IsFetched (waiting waits) (entered (facts_of (with_own old was.progress event) was.progress.id) (drop was.progress.finished was.progress.commands) (length old + 1) (was.progress.finished + 1) event (waiting waits)) event

-- after either the backend agrees
fetch_agrees : (scenario : Scenario) (old new : List Entry) (had has : ℕ → ℕ) (was : Backend) (p : Progress) (event : Event) (unfound marked : Bool) (frames : List Frame) (waits : AwaitsEntry scenario old was) → unfound ≡ finds_none was.progress → IsPlayed scenario old → AllOnCourse scenario old → was.progress.due ≡ dues.Fetch → (brings : BringsBack scenario old was event waits)
    → IsToldOf (facts_of old was.progress.id) (fetched_facts (facts_of old was.progress.id) (waiting waits) event brings.kept) (command_at was) (waiting waits) (entered (facts_of (with_own old was.progress event) was.progress.id) (drop was.progress.finished was.progress.commands) (length old + 1) (was.progress.finished + 1) event (waiting waits)) event was.looked was.frames was.told (looked_after was unfound marked) frames (told_after was unfound marked)
    → HasEntered scenario old was.progress event waits.rests p → p.answer ≡ None → Appends old new had has (entry_of was.progress.id (was.progress.finished + 1) event)
    → Enters scenario old new had has was (record was { progress = p; looked = looked_after was unfound marked; frames = frames; told = told_after was unfound marked })
fetch_agrees scenario old new had has was p event unfound marked frames waits unfound_is played courses is_fetch brings tells goes none appends =
    own_enters scenario old new had has was (record was { progress = p; looked = looked_after was unfound marked; frames = frames; told = told_after was unfound marked }) event waits played courses brings.own goes
    (fits_at scenario old was event waits p goes (looked_after was unfound marked) frames (told_after was unfound marked) (subst (λ f. Fits f (command_at was) (entered (facts_of (with_own old was.progress event) b) (drop was.progress.finished was.progress.commands) (length old + 1) (was.progress.finished + 1) event s) (looked_after was unfound marked) frames (told_after was unfound marked)) (sym brings.facts)
    (fetch_fits (facts_of old b) (command_at was) s _ event brings.kept due.command was.looked was.frames was.told unfound marked frames (told_after was unfound marked) brings.spares (λ absent. unfound_is ∙ ap (λ t. t || is_unfound was.progress (plan_at was.progress.opens was.progress.exec)) absent) (λ finds. unfound_is ∙ ap (λ t. is_absent (plan_at was.progress.opens was.progress.exec) || t) (unfound_held (facts_of old b) was.progress (plan_at was.progress.opens was.progress.exec) waits.rests.holds.facts finds) ∙ or-true (is_absent (plan_at was.progress.opens was.progress.exec))) due.at waits.fits brings.fetched due.runs (over scenario old was waits courses due.command due.at) due.owed tells)))
    refl brings.lives refl brings.on (none ∙ sym (brings.unanswered was.progress.answer)) appends
  where
    b : ℕ
    b = was.progress.id

    s : Session
    s = waiting waits

    due : IsDue old was
    due = is_due scenario old was waits is_fetch

looks_fetched : (count : ℕ) → looks_due (owed_after (due_fetched count)) ≡ one_if (count == 32)
looks_fetched count = elim (count == 32) as (λ t. looks_due (owed_after (elim t as (λ x. DueNext) [ true ↦ dues.Look | false ↦ dues.Nothing ])) ≡ one_if t) [ true ↦ refl | false ↦ refl ]

fetched_stands : (count : ℕ) → is_gone_due (due_fetched count) ≡ false
fetched_stands count = elim (count == 32) as (λ t. is_gone_due (elim t as (λ x. DueNext) [ true ↦ dues.Look | false ↦ dues.Nothing ]) ≡ false) [ true ↦ refl | false ↦ refl ]

-- a scan for a descriptor is owed
abbrev owes_build_scan : Facts → Session → Bool
owes_build_scan facts s = list_any is_build_scan (scans_owed_in facts (work_of s))

full_most : (t counts : Bool) (tally : Tally) → (elim (t && counts) as (λ x. Tally) [ true ↦ record tally { full = tally.full + 1 } | false ↦ tally ]).full ≤ tally.full + one_if t
full_most true true tally = omega arith
full_most true false tally = omega arith
full_most false counts tally = omega arith

-- and none where a descriptor is owed scans
none_full : (t owes : Bool) → owes ≡ true → (tally : Tally) → (elim (t && not owes) as (λ x. Tally) [ true ↦ record tally { full = tally.full + 1 } | false ↦ tally ]).full ≡ tally.full
none_full t owes is tally = ap (λ u. (elim u as (λ x. Tally) [ true ↦ record tally { full = tally.full + 1 } | false ↦ tally ]).full) (ap (λ u. t && not u) is ∙ and-false t)

-- a full fetch counts in the tally alone
full_same : (t : Bool) (tally : Tally) (get : Tally → ℕ) → ((n : ℕ) → get (record tally { full = n }) ≡ get tally) → get (elim t as (λ x. Tally) [ true ↦ record tally { full = tally.full + 1 } | false ↦ tally ]) ≡ get tally
full_same true tally get same = same (tally.full + 1)
full_same false tally get same = refl

messages_bring : (scenario : Scenario) (old : List Entry) (was : Backend) (count : ℕ) (waits : AwaitsEntry scenario old was) → was.progress.due ≡ dues.Fetch → is_lapped scenario.size old was.progress.id ≡ false → BringsBack scenario old was (events.Fetch count) waits
messages_bring scenario old was count waits due served = record {
  own = record { plays = subst (λ o. MayPlayIn (next_oid old) (facts_of old was.progress.id) o s (events.Fetch count)) (sym (is_due scenario old was waits due).at) tt; truly = tt; queue = served };
  lives = refl;
  on = λ stop. cc stop;
  unanswered = λ answer. refl;
  kept = (facts_by old was.progress.id (was.progress.finished + 1) (events.Fetch count) (facts_of old was.progress.id)).kept;
  spares = λ scan none. is_kept-spared (fetched_by old was.progress.id count) (facts_of old was.progress.id).kept scan ∙ ap (λ t. is_spared scan (fetched_by old was.progress.id count) && t) none ∙ and-false (is_spared scan (fetched_by old was.progress.id count));
  facts = λ i. record (facts_by old was.progress.id (was.progress.finished + 1) (events.Fetch count) (facts_of old was.progress.id)) { running = Some (begun (sym waits.rests.holds.count i + 1) (facts_of old was.progress.id).running) };
  fetched = record {
    stays = let r = is_resumed s.left s in record { blocks = r.blocks; opens = r.opens; held = inl r.opened; finished = ap length r.finished; blocked = r.blocked; ended = r.ended; left = λ out present. r.left present };
    looks = full_same full more (λ t. t.looks) (λ n. refl);
    scans = full_same full more (λ t. t.scans) (λ n. refl);
    grants = full_same full more (λ t. t.grants) (λ n. refl);
    fetches = full_same full more (λ t. t.fetches) (λ n. refl);
    due = omega (arith, looks_fetched count, one_at_most (count == 32));
    left = (is_resumed s.left s).left;
    taken = (is_resumed s.left s).taken;
    opened = (is_resumed s.left s).opened;
    takes = λ takes. takes_cleared _ (number_of (resumed s.left s)) s.locks (resumed s.left s).taken (resumed s.left s).left (takes_resumed s.locks s.left s refl takes);
  };
}
  where
    s : Session
    s = waiting waits

    placed : Session
    placed = placed_at (length old + 1) (was.progress.finished + 1) (events.Fetch count) s

    more : Tally
    more = record s.tally { fetches = s.tally.fetches + 1 }

    full : Bool
    full = counts_full count (facts_of (with_own old was.progress (events.Fetch count)) was.progress.id) (work_of placed)

reset_brings : (scenario : Scenario) (old : List Entry) (was : Backend) (waits : AwaitsEntry scenario old was) → was.progress.due ≡ dues.Fetch → is_lapped scenario.size old was.progress.id ≡ true → BringsBack scenario old was events.FetchReset waits
reset_brings scenario old was waits due lapped = record {
  own = record { plays = subst (λ o. MayPlayIn (next_oid old) (facts_of old was.progress.id) o s events.FetchReset) (sym (is_due scenario old was waits due).at) tt; truly = tt; queue = lapped };
  lives = refl;
  on = λ stop. cc stop;
  unanswered = λ answer. refl;
  kept = (facts_by old was.progress.id (was.progress.finished + 1) events.FetchReset (facts_of old was.progress.id)).kept;
  spares = λ scan none. refl;
  facts = λ i. record (facts_by old was.progress.id (was.progress.finished + 1) events.FetchReset (facts_of old was.progress.id)) { running = Some (begun (sym waits.rests.holds.count i + 1) (facts_of old was.progress.id).running) };
  fetched = record {
    stays = let r = is_resumed s.left s in record { blocks = r.blocks; opens = r.opens; held = inl r.opened; finished = ap length r.finished; blocked = r.blocked; ended = r.ended; left = λ out present. r.left present };
    looks = refl;
    scans = refl;
    grants = refl;
    fetches = refl;
    due = omega arith;
    left = (is_resumed s.left s).left;
    taken = (is_resumed s.left s).taken;
    opened = (is_resumed s.left s).opened;
    takes = λ takes. takes_cleared _ (number_of (resumed s.left s)) s.locks (resumed s.left s).taken (resumed s.left s).left (takes_resumed s.locks s.left s refl takes);
  };
}
  where
    s : Session
    s = waiting waits

-- a command that goes on after a fetch has not failed: a lookup that found no relation is repeated
record IsGoing (p : Plan) : Type 0 where
  goes : outcome_of p ≡ Badly → ⊥
  errs : has_error p ≡ false

resumed_goes : (p : Plan) (s : Session) → s.left ≡ p → has_error p ≡ false → ((name : List ℕ) → p ≡ Absent name → IsGoing s.sought) → IsGoing (resumed p s).left
resumed_goes (Absent name) s at errs again = again name refl
resumed_goes (Fails error) s at errs again = absurd (cc errs)
resumed_goes (Done told) s at errs again = subst IsGoing (sym at) (record { goes = λ badly. cc badly; errs = refl })
resumed_goes (Do act rest) s at errs again = subst IsGoing (sym at) (record { goes = λ badly. cc badly; errs = refl })

-- one that has failed stays so
resumed_errs : (p : Plan) (s : Session) → s.left ≡ p → has_error p ≡ true → has_error (resumed p s).left ≡ true
resumed_errs (Fails error) s at errs = ap has_error at ∙ errs
resumed_errs p s at errs = absurd (cc errs)

-- the look of a fetch told that messages wait
module _ (scenario : Scenario) (old : List Entry) (was : Backend) (waits : AwaitsEntry scenario old was) (courses : AllOnCourse scenario old) (due : was.progress.due ≡ dues.Fetch) where
  abbrev facts : Facts
  facts = facts_of old was.progress.id

  abbrev s : Session
  s = waiting waits

  abbrev command : Command
  command = (is_due scenario old was waits due).command

  going_on : is_lost s ≡ false
  going_on = unlost scenario old was waits courses command (is_due scenario old was waits due).at

  stays_on : is_gone_due facts.due ≡ false
  stays_on = ap is_gone_due (fetch_due facts.due (is_due scenario old was waits due).owed)

  again : (name : List ℕ) → s.left ≡ Absent name → IsGoing s.sought
  again name is = let sought = (follows scenario old was waits courses command (is_due scenario old was waits due).at).sought name is in
      subst IsGoing (sym sought.looks) (record { goes = λ badly. cc badly; errs = refl })

  -- the rebuilds of a command that has failed
  erred_bare : has_error s.left ≡ true → was.frames ≡ []
  erred_bare errs = waits.fits.rebuilds.over (λ i. (not (stays_on i) && not (going_on i) && not (errs i)))

  -- and of one that hasn't
  erred_not : has_error s.left ≡ false → IsStack (is_kept facts.kept) was.progress.opened was.frames
  erred_not errs = waits.fits.rebuilds.stack (λ i. (not (stays_on i) && not (going_on i) && not (errs i)))

  -- after a fetch, by what it leaves
  fetched_rebuilds : (later : Facts) (now : Session) (frames : List Frame) → is_gone_due later.due ≡ false → now.ended ≡ s.ended → now.opened ≡ s.opened → now.left ≡ (resumed s.left s).left
      → (has_error s.left ≡ true → frames ≡ []) → (has_error s.left ≡ false → IsStack (is_kept later.kept) s.opened frames) → FramesFit later (command_at was) now frames
  fetched_rebuilds later now frames last ended opened left bare stack = by_error (has_error s.left) refl
    where
      past : command_at was ≡ None → frames ≡ []
      past none = absurd (let both : Some command ≡ None = sym (is_due scenario old was waits due).at ∙ none in cc both)

      by_error : (t : Bool) → has_error s.left ≡ t → FramesFit later (command_at was) now frames
      by_error true errs = record {
        stack = λ keeps. absurd (both_ways _ (ap (λ t. not (is_gone_due later.due) && not (is_lost now) && not t) (ap has_error left ∙ resumed_errs s.left s refl errs) ∙ and-false (not (is_gone_due later.due) && not (is_lost now))) keeps);
        over = λ over. bare errs;
        badly = λ is. bare errs;
        past = past;
      }
      by_error false errs = let goes = resumed_goes s.left s refl errs again in record {
        stack = λ keeps. subst (λ held. IsStack (is_kept later.kept) held frames) (sym opened) (stack errs);
        over = λ over. absurd (both_ways _ over (λ i. not (last i) && not (well_lost now (λ badly. goes.goes (sym (ap outcome_of left) ∙ badly)) i) && not ((ap has_error left ∙ goes.errs) i)));
        badly = λ is. absurd (goes.goes (sym (ap outcome_of left) ∙ is));
        past = past;
      }

-- a descriptor is owed scans where something is rebuilt
some_builds : (f : Purpose → Bool) (xs : List Purpose) → AllByRecursion (λ d. is_build_scan d ≡ true) xs → is_some (find f xs) ≡ true → list_any is_build_scan (filter f xs) ≡ true
some_builds f [] all is = absurd (cc is)
some_builds f (x ∷ xs) all is = by_test (f x) is (some_builds f xs all.1)
  where
    by_test : (t : Bool) → is_some (cond t (Some x) (find f xs)) ≡ true → (is_some (find f xs) ≡ true → list_any is_build_scan (filter f xs) ≡ true) → list_any is_build_scan (cond t (x ∷ filter f xs) (filter f xs)) ≡ true
    by_test true here more = ap (λ t. t || list_any is_build_scan (filter f xs)) all.0
    by_test false later more = more later

held_builds : (facts : Facts) (held : List Opening) → list_any (lacks (is_kept facts.kept)) held ≡ true → list_any is_build_scan (builds_missing facts.kept held) ≡ true
held_builds facts [] some = absurd (cc some)
held_builds facts (o ∷ held) some = by_side (or_cases (lacks (is_kept facts.kept) o) (list_any (lacks (is_kept facts.kept)) held) some) (held_builds facts held)
  where
    by_side : (lacks (is_kept facts.kept) o ≡ true) ⊎ (list_any (lacks (is_kept facts.kept)) held ≡ true) → (list_any (lacks (is_kept facts.kept)) held ≡ true → list_any is_build_scan (builds_missing facts.kept held) ≡ true) → list_any is_build_scan (builds_missing facts.kept (o ∷ held)) ≡ true
    by_side (inl here) more = any-left is_build_scan (missing facts.kept (build_scans o.kind o.rel)) (builds_missing facts.kept held) (some_builds (λ scan. not (is_kept facts.kept scan)) (build_scans o.kind o.rel) (builds_of o.kind o.rel) here)
    by_side (inr later) more = any-right is_build_scan (missing facts.kept (build_scans o.kind o.rel)) (builds_missing facts.kept held) (more later)

rebuilt_owes : (facts : Facts) (o : Option Command) (s : Session) (f : Frame) (frames : List Frame) → FramesFit facts o s (f ∷ frames) → owes_build_scan facts s ≡ true
rebuilt_owes facts o s f frames fits = by_outcome (outcome_of s.left) refl
  where
    lacking : list_any (lacks (is_kept facts.kept)) s.opened ≡ true
    lacking = by_keeps (keeps_whole facts s) refl
      where
        by_keeps : (t : Bool) → keeps_whole facts s ≡ t → list_any (lacks (is_kept facts.kept)) s.opened ≡ true
        by_keeps true keeps = (fits.stack keeps).each.0.among (lacks (is_kept facts.kept)) (fits.stack keeps).each.0.lacking
        by_keeps false over = absurd (let none : f ∷ frames ≡ [] = fits.over over in cc none)

    by_outcome : (x : Outcome) → outcome_of s.left ≡ x → list_any is_build_scan (elim x as (λ y. List Purpose) [ Badly ↦ [] | other ↦ builds_missing facts.kept s.opened ++ act_owed facts s.left ]) ≡ true
    by_outcome Badly is = absurd (let none : f ∷ frames ≡ [] = fits.badly is in cc none)
    by_outcome Well is = any-left is_build_scan (builds_missing facts.kept s.opened) (act_owed facts s.left) (held_builds facts s.opened lacking)
    by_outcome Unsettled is = any-left is_build_scan (builds_missing facts.kept s.opened) (act_owed facts s.left) (held_builds facts s.opened lacking)

-- a fetch gives as many messages as its entry says
fetched_count : (old : List Entry) (b count : ℕ) → count ≡ due_to old b → length (fetched_by old b count) ≡ count
fetched_count old b count due = length-take-le count (drop (position_of old b) (log_of old)) (omega (arith, due, min-le_right 32 (length (log_of old) - position_of old b), length-drop (position_of old b) (log_of old)))

given_count : (scenario : Scenario) (old new : List Entry) (had has : ℕ → ℕ) (was : Backend) (count : ℕ) (taken given : List Message) → Fetches scenario.size old new had has was.progress.id (was.progress.finished + 1) taken (fetches.Messages count) → given ≡ taken → count ≡ length given
given_count scenario old new had has was count taken given gives same = sym (ap length (same ∙ gives.messages) ∙ fetched_count old was.progress.id count gives.due)

-- the facts with its own entry
own_facts : (scenario : Scenario) (old : List Entry) (was : Backend) (event : Event) → AwaitsEntry scenario old was → facts_of (with_own old was.progress event) was.progress.id ≡ facts_by old was.progress.id (was.progress.finished + 1) event (facts_of old was.progress.id)
own_facts scenario old was event waits = facts_of-own old (entry_of was.progress.id (was.progress.finished + 1) event) was.progress.id (eq-eqb was.progress.id was.progress.id refl)

-- of the looks, where rebuilds are put on, or none is
told_looks : (looked looked_now told told_now full : Bool) (frames after : List Frame) (due : ℕ) → due ≡ one_if full → due + one_if told_now + one_if looked ≤ 2 + one_if looked_now + one_if told
    → due + told_owed told_now (looked_if (full && nat_lt (length frames) (length after)) after) + looked_on_top looked frames ≤ 2 + looked_on_top looked_now (looked_if (full && nat_lt (length frames) (length after)) after) + told_owed told frames
told_looks looked looked_now told told_now full [] [] due is plain = ap_both (look_empty (full && false))
  where
    ap_both : looked_if (full && false) [] ≡ [] → due + told_owed told_now (looked_if (full && false) []) + one_if looked ≤ 2 + looked_on_top looked_now (looked_if (full && false) []) + one_if told
    ap_both none = subst (λ l. due + told_owed told_now l + one_if looked ≤ 2 + looked_on_top looked_now l + one_if told) (sym none) plain
told_looks looked looked_now told told_now full [] (f ∷ after) due is plain =
    subst (λ t. due + told_owed told_now (looked_if (full && t) (f ∷ after)) + one_if looked ≤ 2 + looked_on_top looked_now (looked_if (full && t) (f ∷ after)) + one_if told) (sym (lt-ltb 0 (length (f ∷ after)) (omega arith))) (by_full full is)
  where
    by_full : (t : Bool) → due ≡ one_if t → due + told_owed told_now (looked_if (t && true) (f ∷ after)) + one_if looked ≤ 2 + looked_on_top looked_now (looked_if (t && true) (f ∷ after)) + one_if told
    by_full true one = omega (arith, one, told_most told_now (on_top with_look (f ∷ after)), one_at_most looked, look_top looked_now f after)
    by_full false none = omega (arith, none, one_at_most looked)
told_looks looked looked_now told told_now full (g ∷ frames) after due is plain = omega (arith, is, one_at_most full, told_most told_now (looked_if (full && nat_lt (length (g ∷ frames)) (length after)) after), top_most looked (g ∷ frames))

-- what a fetch of messages makes of the looks and of the rebuilds
messages_tell : (scenario : Scenario) (old : List Entry) (was : Backend) (messages : List Message) (unfound marked : Bool) (waits : AwaitsEntry scenario old was) → AllOnCourse scenario old → (due : was.progress.due ≡ dues.Fetch) (served : is_lapped scenario.size old was.progress.id ≡ false) → messages ≡ fetched_by old was.progress.id (length messages)
    → IsToldOf (facts_of old was.progress.id) (fetched_facts (facts_of old was.progress.id) (waiting waits) (events.Fetch (length messages)) (messages_bring scenario old was (length messages) waits due served).kept) (command_at was) (waiting waits) (entered (facts_of (with_own old was.progress (events.Fetch (length messages))) was.progress.id) (drop was.progress.finished was.progress.commands) (length old + 1) (was.progress.finished + 1) (events.Fetch (length messages)) (waiting waits)) (events.Fetch (length messages)) was.looked was.frames was.told (looked_after was unfound marked) (frames_given was messages) (told_after was unfound marked)
unfolding messages_bring
messages_tell scenario old was messages unfound marked waits courses due served are = by_error (has_error s.left) refl
  where
    s : Session
    s = waiting waits

    facts : Facts
    facts = facts_of old was.progress.id

    event : Event
    event = events.Fetch (length messages)

    later : Facts
    later = fetched_facts facts s event (messages_bring scenario old was (length messages) waits due served).kept

    entered_facts : Facts
    entered_facts = facts_of (with_own old was.progress event) was.progress.id

    placed : Session
    placed = placed_at (length old + 1) (was.progress.finished + 1) event s

    now : Session
    now = entered entered_facts (drop was.progress.finished was.progress.commands) (length old + 1) (was.progress.finished + 1) event s

    more : Tally
    more = record s.tally { fetches = s.tally.fetches + 1 }

    kept : Purpose → Bool
    kept = is_kept (kept_at was.progress)

    after : List Frame
    after = frames_after kept was.progress.opened messages was.frames

    pushes : Bool
    pushes = nat_lt (length was.frames) (length after)

    looked_less : one_if (looked_after was unfound marked) ≤ one_if was.looked
    looked_less = less_and was.looked (not unfound) (not marked)
      where
        less_and : (a b c : Bool) → one_if (a && b && c) ≤ one_if a
        less_and true b c = one_at_most (b && c)
        less_and false b c = omega arith

    rebuilds_of : (frames : List Frame) → (has_error s.left ≡ true → frames ≡ []) → (has_error s.left ≡ false → IsStack (is_kept later.kept) s.opened frames) → FramesFit later (command_at was) now frames
    rebuilds_of frames = fetched_rebuilds scenario old was waits courses due later now frames (fetched_stands (length messages)) (is_resumed s.left s).ended (is_resumed s.left s).opened refl

    tally_full : now.tally.full ≤ s.tally.full + one_if (length messages == 32)
    tally_full = full_most (length messages == 32) (not (owes_build_scan entered_facts placed)) more

    by_error : (t : Bool) → has_error s.left ≡ t → IsToldOf facts later (command_at was) s now event was.looked was.frames was.told (looked_after was unfound marked) (elim t as (λ x. List Frame) [ true ↦ was.frames | false ↦ frames_fetched kept was.progress.opened messages was.frames ]) (told_after was unfound marked)
    by_error true errs = let bare = erred_bare scenario old was waits courses due errs in record {
      gained = 0;
      less = omega (arith, looked_less);
      full = omega (arith, tally_full, looks_fetched (length messages));
      most = subst (λ l. looks_due (owed_after (due_after event)) + told_owed (told_after was unfound marked) l + looked_on_top was.looked l ≤ 2 + looked_on_top (looked_after was unfound marked) l + told_owed was.told l) (sym bare)
          (alone unfound marked was.looked was.told (looks_due (owed_after (due_after event))) (omega (arith, looks_fetched (length messages), one_at_most (length messages == 32))));
      rebuilds = rebuilds_of was.frames (λ is. bare) (λ is. absurd (both_ways _ is errs));
    }
    by_error false errs = record {
      gained = one_if ((length messages == 32) && pushes);
      less = omega (arith, looked_less, look_more ((length messages == 32) && pushes) after, after_less kept was.progress.opened messages was.frames);
      full = full_now;
      most = told_looks was.looked (looked_after was unfound marked) was.told (told_after was unfound marked) (length messages == 32) was.frames after (looks_due (owed_after (due_after event))) (looks_fetched (length messages))
          (alone unfound marked was.looked was.told (looks_due (owed_after (due_after event))) (omega (arith, looks_fetched (length messages), one_at_most (length messages == 32))));
      rebuilds = fits_now;
    }
      where
        stack_now : IsStack (is_kept later.kept) s.opened after
        stack_now = subst (λ has. IsStack has s.opened after) (λ i d. sym (is_kept-spared (fetched_by old was.progress.id (length messages)) facts.kept d) i) (subst (λ l. IsStack (λ d. is_spared d l && is_kept facts.kept d) s.opened after) are (stack_after kept (is_kept facts.kept) was.progress.opened messages was.frames (erred_not scenario old was waits courses due errs)))

        stack_fetched : (t : Bool) → IsStack (is_kept later.kept) s.opened (looked_if t after)
        stack_fetched true = stack_look (is_kept later.kept) s.opened after stack_now
        stack_fetched false = stack_now

        fits_now : FramesFit later (command_at was) now (frames_fetched kept was.progress.opened messages was.frames)
        fits_now = rebuilds_of (frames_fetched kept was.progress.opened messages was.frames) (λ is. absurd (both_ways _ errs is)) (λ is. stack_fetched ((length messages == 32) && pushes))

        -- where it puts a rebuild on, a full one asks for no look but that rebuild's
        fits_after : FramesFit later (command_at was) now after
        fits_after = rebuilds_of after (λ is. absurd (both_ways _ errs is)) (λ is. stack_now)

        owes : pushes ≡ true → owes_build_scan entered_facts placed ≡ true
        owes some = by_after after some fits_after
          where
            by_after : (l : List Frame) → nat_lt (length was.frames) (length l) ≡ true → FramesFit later (command_at was) now l → owes_build_scan entered_facts placed ≡ true
            by_after [] none fits = absurd (omega (arith, ltb-true (length was.frames) 0 none))
            by_after (f ∷ l) grown fits = subst (λ h. owes_build_scan h placed ≡ true) (sym (own_facts scenario old was event waits ∙ (messages_bring scenario old was (length messages) waits due served).facts)) (rebuilt_owes later (command_at was) now f l fits)

        full_now : now.tally.full + one_if ((length messages == 32) && pushes) ≤ s.tally.full + looks_due (owed_after (due_after event))
        full_now = by_pushes pushes refl
          where
            by_pushes : (t : Bool) → pushes ≡ t → now.tally.full + one_if ((length messages == 32) && t) ≤ s.tally.full + looks_due (owed_after (due_after event))
            by_pushes true some = omega (arith, looks_fetched (length messages), ap one_if (and-true (length messages == 32)), none_full (length messages == 32) (owes_build_scan entered_facts placed) (owes some) more)
            by_pushes false none = omega (arith, tally_full, looks_fetched (length messages), ap one_if (and-false (length messages == 32)))

-- and one of a reset
reset_tells : (scenario : Scenario) (old : List Entry) (was : Backend) (unfound marked : Bool) (waits : AwaitsEntry scenario old was) → AllOnCourse scenario old → (due : was.progress.due ≡ dues.Fetch) (lapped : is_lapped scenario.size old was.progress.id ≡ true)
    → IsToldOf (facts_of old was.progress.id) (fetched_facts (facts_of old was.progress.id) (waiting waits) events.FetchReset (reset_brings scenario old was waits due lapped).kept) (command_at was) (waiting waits) (entered (facts_of (with_own old was.progress events.FetchReset) was.progress.id) (drop was.progress.finished was.progress.commands) (length old + 1) (was.progress.finished + 1) events.FetchReset (waiting waits)) events.FetchReset was.looked was.frames was.told (looked_after was unfound marked) (frames_reset_of was was.progress.opened) (told_after was unfound marked)
unfolding reset_brings
reset_tells scenario old was unfound marked waits courses due lapped = record {
  gained = 0;
  less = omega (arith, looked_less, frames_less);
  full = omega arith;
  most = omega (arith, told_most (told_after was unfound marked) (frames_reset_of was was.progress.opened), top_most was.looked was.frames);
  rebuilds = fetched_rebuilds scenario old was waits courses due later now (frames_reset_of was was.progress.opened) refl (is_resumed s.left s).ended (is_resumed s.left s).opened refl
      (λ errs. ap (λ t. elim t as (λ x. List Frame) [ true ↦ was.frames | false ↦ frames_reset kept was.progress.opened was.frames ]) errs ∙ erred_bare scenario old was waits courses due errs)
      (λ errs. subst (IsStack (is_kept later.kept) s.opened) (sym (ap (λ t. elim t as (λ x. List Frame) [ true ↦ was.frames | false ↦ frames_reset kept was.progress.opened was.frames ]) errs)) (stack_reset kept (is_kept facts.kept) was.progress.opened was.frames (erred_not scenario old was waits courses due errs)));
}
  where
    s : Session
    s = waiting waits

    facts : Facts
    facts = facts_of old was.progress.id

    later : Facts
    later = fetched_facts facts s events.FetchReset (reset_brings scenario old was waits due lapped).kept

    now : Session
    now = entered (facts_of (with_own old was.progress events.FetchReset) was.progress.id) (drop was.progress.finished was.progress.commands) (length old + 1) (was.progress.finished + 1) events.FetchReset s

    kept : Purpose → Bool
    kept = is_kept (kept_at was.progress)

    looked_less : one_if (looked_after was unfound marked) ≤ one_if was.looked
    looked_less = less_and was.looked (not unfound) (not marked)
      where
        less_and : (a b c : Bool) → one_if (a && b && c) ≤ one_if a
        less_and true b c = one_at_most (b && c)
        less_and false b c = omega arith

    frames_less : looked_in (frames_reset_of was was.progress.opened) ≤ looked_in was.frames
    frames_less = by_error (has_error (plan_at was.progress.opens was.progress.exec))
      where
        by_error : (t : Bool) → looked_in (elim t as (λ x. List Frame) [ true ↦ was.frames | false ↦ frames_reset kept was.progress.opened was.frames ]) ≤ looked_in was.frames
        by_error true = omega arith
        by_error false = reset_less kept was.progress.opened was.frames

-- the messages of a fetch
pub messages_enter : (scenario : Scenario) (old new : List Entry) (had has : ℕ → ℕ) (was now : Backend) (count : ℕ) (taken given : List Message) (waits : AwaitsEntry scenario old was) → IsPlayed scenario old → AllOnCourse scenario old → was.progress.due ≡ dues.Fetch
    → Fetches scenario.size old new had has was.progress.id (was.progress.finished + 1) taken (fetches.Messages count) → given ≡ taken
    → (given ≡ fetched_by old was.progress.id (length given) → HasEntered scenario old was.progress (events.Fetch (length given)) waits.rests now.progress) → now.progress.answer ≡ None
    → now ≡ record was { progress = now.progress; looked = looked_after was (finds_none was.progress) (marks_build was.progress given); frames = frames_given was given; told = told_after was (finds_none was.progress) (marks_build was.progress given) } → Enters scenario old new had has was now
messages_enter scenario old new had has was now count taken given waits played courses due gives same goes none is =
    subst (Enters scenario old new had has was) (sym is)
    (fetch_agrees scenario old new had has was now.progress (events.Fetch (length given)) (finds_none was.progress) (marks_build was.progress given) (frames_given was given) waits refl played courses due (messages_bring scenario old was (length given) waits due gives.served)
    (messages_tell scenario old was given (finds_none was.progress) (marks_build was.progress given) waits courses due gives.served are) (goes are) none
    (subst (λ n. Appends old new had has (entry_of was.progress.id (was.progress.finished + 1) (events.Fetch n))) counts gives.appends))
  where
    counts : count ≡ length given
    counts = given_count scenario old new had has was count taken given gives same

    are : given ≡ fetched_by old was.progress.id (length given)
    are = same ∙ gives.messages ∙ ap (fetched_by old was.progress.id) counts

-- out of memory, its entry is made
pub messages_make : (scenario : Scenario) (old new : List Entry) (had has : ℕ → ℕ) (was : Backend) (count : ℕ) (taken : List Message) (waits : AwaitsEntry scenario old was) → IsPlayed scenario old → AllOnCourse scenario old → was.progress.due ≡ dues.Fetch
    → Fetches scenario.size old new had has was.progress.id (was.progress.finished + 1) taken (fetches.Messages count) → MakesEntry scenario old new had has was.progress.id
messages_make scenario old new had has was count taken waits played courses due gives = own_makes scenario old new had has was (events.Fetch count) waits played courses (messages_bring scenario old was count waits due gives.served).own gives.appends

-- a reset
pub reset_enters : (scenario : Scenario) (old new : List Entry) (had has : ℕ → ℕ) (was now : Backend) (given : List Message) (waits : AwaitsEntry scenario old was) → IsPlayed scenario old → AllOnCourse scenario old → was.progress.due ≡ dues.Fetch
    → Fetches scenario.size old new had has was.progress.id (was.progress.finished + 1) given fetches.Reset → HasEntered scenario old was.progress events.FetchReset waits.rests now.progress → now.progress.answer ≡ None
    → now ≡ record was { progress = now.progress; looked = looked_after was (finds_none was.progress) (has_begun was.progress); frames = frames_reset_of was now.progress.opened; told = told_after was (finds_none was.progress) (has_begun was.progress) } → Enters scenario old new had has was now
reset_enters scenario old new had has was now given waits played courses due gives goes none is =
    subst (Enters scenario old new had has was) (sym (is ∙ (λ i. record was { progress = now.progress; looked = looked_after was (finds_none was.progress) (has_begun was.progress); frames = frames_reset_of was (opened_same i); told = told_after was (finds_none was.progress) (has_begun was.progress) })))
    (fetch_agrees scenario old new had has was now.progress events.FetchReset (finds_none was.progress) (has_begun was.progress) (frames_reset_of was was.progress.opened) waits refl played courses due (reset_brings scenario old was waits due gives.lapped)
    (reset_tells scenario old was (finds_none was.progress) (has_begun was.progress) waits courses due gives.lapped) goes none gives.appends)
  where
    opened_same : now.progress.opened ≡ was.progress.opened
    opened_same = ap (λ (x : Session). x.opened) goes.session ∙ (is_resumed (waiting waits).left (waiting waits)).opened

pub reset_makes : (scenario : Scenario) (old new : List Entry) (had has : ℕ → ℕ) (was : Backend) (given : List Message) (waits : AwaitsEntry scenario old was) → IsPlayed scenario old → AllOnCourse scenario old → was.progress.due ≡ dues.Fetch
    → Fetches scenario.size old new had has was.progress.id (was.progress.finished + 1) given fetches.Reset → MakesEntry scenario old new had has was.progress.id
reset_makes scenario old new had has was given waits played courses due gives = own_makes scenario old new had has was events.FetchReset waits played courses (reset_brings scenario old was waits due gives.lapped).own gives.appends

-- the rebuilds of a reset, in both steps
pub reset_frames : (fails : Bool) (before kept : Kept) (held : List Opening) (frames : List Frame) → kept ≡ nothing_kept → unless fails (unless fails frames (map (restarted (is_kept before)) frames)) (with_rest (is_kept kept) held (unless fails frames (map (restarted (is_kept before)) frames))) ≡ unless fails frames (frames_reset (is_kept before) held frames)
reset_frames true before kept held frames none = refl
reset_frames false before kept held frames none = ap (λ k. with_rest (is_kept k) held (map (restarted (is_kept before)) frames)) none

-- what is noted with the messages
pub messages_noted : (scenario : Scenario) (old new : List Entry) (had has : ℕ → ℕ) (was now : Backend) (count : ℕ) (taken given : List Message) (waits : AwaitsEntry scenario old was) → Fetches scenario.size old new had has was.progress.id (was.progress.finished + 1) taken (fetches.Messages count) → given ≡ taken
    → (given ≡ fetched_by old was.progress.id (length given) → HasEntered scenario old was.progress (events.Fetch (length given)) waits.rests now.progress)
    → now ≡ record was { progress = now.progress; looked = looked_after was (finds_none was.progress) (marks_build was.progress given); frames = frames_given was given; told = told_after was (finds_none was.progress) (marks_build was.progress given) } → IsNoted scenario old new was nexts.Fetch now
messages_noted scenario old new had has was now count taken given waits gives same goes is = record {
  event = events.Fetch count;
  made = tt;
  entered = gives.appends.entries;
  goes = entered_here scenario old new was.progress now.progress (events.Fetch count) waits.rests (subst (λ n. HasEntered scenario old was.progress (events.Fetch n) waits.rests now.progress) (sym counts) (goes (same ∙ gives.messages ∙ ap (fetched_by old was.progress.id) counts))) gives.appends.entries;
  noted = ap noted_of is ∙ ap (noted_given was) (same ∙ gives.messages);
}
  where
    counts : count ≡ length given
    counts = given_count scenario old new had has was count taken given gives same

-- and with a reset
pub reset_noted : (scenario : Scenario) (old new : List Entry) (had has : ℕ → ℕ) (was now : Backend) (given : List Message) (waits : AwaitsEntry scenario old was) → Fetches scenario.size old new had has was.progress.id (was.progress.finished + 1) given fetches.Reset → HasEntered scenario old was.progress events.FetchReset waits.rests now.progress
    → now ≡ record was { progress = now.progress; looked = looked_after was (finds_none was.progress) (has_begun was.progress); frames = frames_reset_of was now.progress.opened; told = told_after was (finds_none was.progress) (has_begun was.progress) } → IsNoted scenario old new was nexts.Fetch now
reset_noted scenario old new had has was now given waits gives goes is = record {
  event = events.FetchReset;
  made = tt;
  entered = gives.appends.entries;
  goes = entered_here scenario old new was.progress now.progress events.FetchReset waits.rests goes gives.appends.entries;
  noted = ap noted_of is ∙ (λ i. record (noted_reset was) { frames = frames_reset_of was ((ap (λ (x : Session). x.opened) goes.session ∙ (is_resumed (waiting waits).left (waiting waits)).opened) i) });
}
