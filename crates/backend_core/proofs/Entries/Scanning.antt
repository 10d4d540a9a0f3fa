-- The scans of a backend.
use Rattle.std.proofs.Common.{inl, ◌≡◌, ◌≤◌, ◌+◌, ◌∙◌, ◌&&◌, ℕ, Bool, true, false, not, None, List, [], refl, sym, ap, subst, length, drop, arith, Some, ◌∷◌, ◌++◌, ◌||◌, cond, is_some}
use Rattle.std.proofs.lemmas.Bool.{both_ways, lt-ltb, and_parts}
use Rattle.base_types.specs.Scans.{same_scan, build_scans}
use Rattle.event_kinds.specs.declared.entry.Event.TheVariants as events
use Rattle.ddl_effect.specs.Plans.{Plan, Absent, Fails}
use Rattle.ddl_effect.specs.Stages.{plan_at}
use Rattle.local_caches.specs.Kept.{is_keyed, Kept}
use Rattle.history_model.specs.Drawn.{next_oid}
use Rattle.history_model.specs.Versions.{answer_of}
use Rattle.seg_calls.specs.Calls.{entry_of, MayRequest, Appends}
use Rattle.cacheless.specs.Facts.{Facts, facts_of}
use Rattle.cacheless.specs.Holds.{HasEntered, with_own}
use Rattle.cacheless.specs.May.{has_failed}
use Rattle.cacheless.specs.OnCourse.{AllOnCourse}
use Rattle.cacheless.specs.Work.{work_of}
use Rattle.cacheless.specs.Owed.{owed_after, started_in, has_looked_in}
use Rattle.cacheless.specs.Plays.{MayPlayIn}
use Rattle.cacheless.specs.Session.{Session, Badly, number_of, outcome_of}
use Rattle.cacheless.specs.Sessions.{entered}
use Rattle.cacheless.specs.State.{kept_at, kept_with, is_absent, one_if, is_kept}
use Rattle.cacheless.proofs.FactsAfter.{facts_by}
use Rattle.cacheless.proofs.OneOfKey.{one_of_key}
use Rattle.cacheless.proofs.Same.{next_is, next_same}
use Rattle.cacheless.proofs.Tests.{and_true, not_true}
use Rattle.backend_core.specs.Types.{Row, Purpose, Scenario, Entry, Event, Progress, Backend, Opening, Frame}
use Rattle.backend_core.specs.Agrees.{IsPlayed, command_at, AwaitsEntry}
use Rattle.backend_core.specs.Fits.{looks_due, LooksFit, Fits, IsLookedFor, Lacks, Unfound, Said, FramesFit, IsUnheld, looked_in, looked_on_top, told_owed}
use Rattle.backend_core.specs.Steps.{IsScanNext, MakesEntry, Enters, IsInTurn}
use Rattle.backend_core.specs.Words.{is_looked_for, has_error, frames_noted, frames_with_scan}
use Rattle.backend_core.proofs.Choosing.Running.{entry_runs}
use Rattle.backend_core.proofs.Choosing.Chosen.{may_request, standing}
use Rattle.backend_core.proofs.Fitting.Entered.{fits_at}
use Rattle.backend_core.proofs.Entries.Inside.{runs_on, inside_fits}
use Rattle.backend_core.proofs.Entries.Looking.{scan_busy, IsOnTop, on_top_of, on_some}
use Rattle.backend_core.proofs.Own.{waiting, unlost, OwnEntry, own_makes, own_enters}
use Rattle.backend_core.proofs.Fitting.Sought.{takes_cleared, built_leaves}
use Rattle.cacheless.proofs.ReadsBuilds.{stage_reads}
use Rattle.std.specs.List.{find}
use Rattle.backend_core.proofs.BuildsBegin.{AreBegun, builds_begin}
use Rattle.backend_core.proofs.Fitting.Rebuilding.{usable_is, top_rebuilt}
use Rattle.backend_core.proofs.Stacking.Looked.{in_push, top_most, told_push, told_most, scanned_less}
use Rattle.backend_core.proofs.Stacking.Stacks.{top_push}
use Rattle.backend_core.proofs.Stacking.Scanned.{scanned_push, stack_scanned, stack_other}
use Rattle.backend_core.proofs.Stacking.Lacking.{with_scan}
use Rattle.backend_core.specs.Frames.{top, scanned_on, frames_scanned, IsRebuilt, IsStack}
use Rattle.std.proofs.Math.Bool.{and-true, and-false}

-- the scan that comes next may be asked for
pub scan_request : (scenario : Scenario) (seen : List Entry) (s : Backend) (scan : Purpose) (rebuilds : Bool) → AwaitsEntry scenario seen s → IsScanNext s scan rebuilds → MayRequest scenario seen s.progress.id (s.progress.finished + 1)
scan_request scenario seen s scan rebuilds waits next = may_request scenario seen s waits next.command next.free.at (scan_busy scenario seen s scan rebuilds waits next)

looked_enough : (facts : Facts) (s : Session) (looked : Bool) (frames : List Frame) (told : Bool) → LooksFit facts s looked frames told → owed_after facts.due ≡ [] → 1 ≤ one_if looked + looked_in frames → has_looked_in facts (work_of s) ≡ true
looked_enough facts s looked frames told fits none some = lt-ltb (s.tally.scans + s.tally.grants + started_in (number_of s) facts + s.tally.full) s.tally.looks (omega (arith, fits.enough, ap looks_due none, some))

-- with the scan more is kept
pub kept_more : (scan : Purpose) (given : List Row) (at : ℕ) (kept : Kept) → is_kept (kept_with scan given at kept) ≡ with_scan scan (is_kept kept)
kept_more scan given at kept = λ i other. by_same (same_scan scan other) other i
  where
    by_same : (t : Bool) (other : Purpose) → is_some (cond t (Some (record { rows = given; at = at })) (kept other)) ≡ (t || is_kept kept other)
    by_same true other = refl
    by_same false other = refl

-- a look was made for it, and is used
record ScanCounts (looked : Bool) (frames : List Frame) (told looked_now : Bool) (frames_now : List Frame) : Type 0 where
  most : one_if looked_now + looked_in frames_now + 1 ≤ one_if looked + looked_in frames
  least : told_owed told frames_now + looked_on_top looked frames ≤ 1 + looked_on_top looked_now frames_now + told_owed told frames

counts_top : (has : Purpose → Bool) (held : List Opening) (looked told : Bool) (under : List Frame) (f : Frame) → f.looked ≡ true → ScanCounts looked (under ++ f ∷ []) told (looked && true) (scanned_on has held under f)
counts_top has held looked told under f made = record {
  most = omega (arith, ap one_if (and-true looked), scanned_less has held under f, in_push under f, ap one_if made);
  least = omega (arith, told_most told (scanned_on has held under f), told_push told under f, top_most looked (under ++ f ∷ []));
}

counts_act : (looked told : Bool) → looked ≡ true → ScanCounts looked [] told (looked && false) []
counts_act looked told made = record { most = omega (arith, ap one_if (and-false looked), ap one_if made); least = omega (arith, ap one_if made) }

-- where it asks for the row of a key it gives one at most
pub scan_one : (scenario : Scenario) (old : List Entry) (b : ℕ) (scan : Purpose) (rows : List Row) → IsPlayed scenario old → rows ≡ answer_of old b scan → is_keyed scan ≡ true → length rows ≤ 1
scan_one scenario old b scan rows played are keyed = subst (λ l. length l ≤ 1) (sym are) (one_of_key old b scan played.sound played.columns played.names keyed)

-- all that a scan rests on
module _ (scenario : Scenario) (old : List Entry) (was : Backend) (waits : AwaitsEntry scenario old was) (courses : AllOnCourse scenario old) (scan : Purpose) (rebuilds : Bool) (next : IsScanNext was scan rebuilds) (looked_for : is_looked_for rebuilds was ≡ true) (count : ℕ) where
  abbrev facts : Facts
  facts = facts_of old was.progress.id

  abbrev s : Session
  s = waiting waits

  abbrev event : Event
  event = events.Scan scan count

  abbrev later : Facts
  later = facts_by old was.progress.id (was.progress.finished + 1) event facts

  abbrev now : Session
  now = entered (facts_of (with_own old was.progress event) was.progress.id) (drop was.progress.finished was.progress.commands) (length old + 1) (was.progress.finished + 1) event s

  owed : owed_after facts.due ≡ []
  owed = (ap (λ f. owed_after f.due) waits.rests.holds.facts) ∙ next.free.due

  before : LooksFit facts s was.looked was.frames was.told
  before = waits.fits.looks

  -- the rebuilds after it
  abbrev frames_now : Bool → List Frame
  frames_now t = frames_noted t (with_scan scan (is_kept facts.kept)) was.progress.opened was.frames

  counts : ScanCounts was.looked was.frames was.told (was.looked && rebuilds) (frames_now rebuilds)
  counts = by_kind rebuilds next.turn looked_for
    where
      by_kind : (t : Bool) → IsInTurn t was scan → is_looked_for t was ≡ true → ScanCounts was.looked was.frames was.told (was.looked && t) (frames_now t)
      by_kind true turn made = let on = on_top_of was scan turn in
          subst (λ l. ScanCounts was.looked l was.told (was.looked && true) (frames_scanned (with_scan scan (is_kept facts.kept)) was.progress.opened l)) (sym on.parts.is)
          (subst (ScanCounts was.looked (on.parts.under ++ on.parts.one ∷ []) was.told (was.looked && true)) (sym (scanned_push (with_scan scan (is_kept facts.kept)) was.progress.opened on.parts.under on.parts.one))
          (counts_top (with_scan scan (is_kept facts.kept)) was.progress.opened was.looked was.told on.parts.under on.parts.one (sym on.looked ∙ made)))
      by_kind false turn made = subst (λ l. ScanCounts was.looked l was.told (was.looked && false) l) (sym turn.0) (counts_act was.looked was.told made)

  scan_own : OwnEntry scenario old was event waits
  scan_own = record {
    plays = subst (λ o. MayPlayIn (next_oid old) facts o s event) (sym next.free.at) (
      owed,
      next_same facts was.progress waits.rests.holds.rest scan waits.rests.holds.facts ∙ next.next,
      looked_enough facts s was.looked was.frames was.told before owed (omega (arith, counts.most)),
    );
    truly = tt;
    queue = tt;
  }

  -- out of memory, its entry is made
  pub scan_makes : (new : List Entry) (had has : ℕ → ℕ) → IsPlayed scenario old → Appends old new had has (entry_of was.progress.id (was.progress.finished + 1) event) → MakesEntry scenario old new had has was.progress.id
  scan_makes new had has played appends = own_makes scenario old new had has was event waits played courses scan_own appends

  same : later.running ≡ facts.running
  same = runs_on (was.progress.finished + 1) facts.running (entry_runs scenario old was waits courses next.command next.free.at next.free.first)

  looks_less : LooksFit later now (was.looked && rebuilds) (frames_now rebuilds) was.told
  looks_less = record {
    enough = omega (arith, before.enough, ap looks_due owed, started, counts.most);
    within = omega (arith, before.within, ap looks_due owed, started, counts.least);
    once = omega (arith, before.once, started);
  }
    where
      started : started_in (number_of now) later ≡ started_in (number_of s) facts
      started = ap (λ o. started_in (number_of s) (record facts { running = o })) same

  -- it has no failure to tell
  goes : has_failed was.progress ≡ false
  goes = not_true (has_failed was.progress) (and_true (not (has_failed was.progress)) _ (next_is scan was.progress ∙ next.next)).0

  failed_by : (p : Plan) → plan_at was.progress.opens was.progress.exec ≡ p → outcome_of p ≡ Badly → ⊥
  failed_by p at badly = both_ways _ goes (ap (λ q. elim (outcome_of q) as (λ x. Bool) [ Badly ↦ true | other ↦ false ]) at ∙ ap (λ o. elim o as (λ x. Bool) [ Badly ↦ true | other ↦ false ]) badly)

  present : is_absent (plan_at was.progress.opens was.progress.exec) ≡ false
  present = by_plan (plan_at was.progress.opens was.progress.exec) refl
    where
      by_plan : (p : Plan) → plan_at was.progress.opens was.progress.exec ≡ p → is_absent p ≡ false
      by_plan (Absent name) at = absurd (failed_by (Absent name) at refl)
      by_plan p at = refl

  no_error : has_error (plan_at was.progress.opens was.progress.exec) ≡ false
  no_error = by_plan (plan_at was.progress.opens was.progress.exec) refl
    where
      by_plan : (p : Plan) → plan_at was.progress.opens was.progress.exec ≡ p → has_error p ≡ false
      by_plan (Fails error) at = absurd (failed_by (Fails error) at refl)
      by_plan p at = refl

  -- what the rebuilds see to
  stack : IsStack (is_kept facts.kept) was.progress.opened was.frames
  stack = waits.fits.rebuilds.stack (λ i. not (standing scenario old was waits next.command next.free.at (scan_busy scenario old was scan rebuilds waits next) i) && not (unlost scenario old was waits courses next.command next.free.at i) && not (no_error i))

  -- its first missing scan, by the facts
  first_of : (on : IsOnTop was scan) → find (λ d. not (is_kept facts.kept d)) (build_scans on.parts.one.opening.kind on.parts.one.opening.rel) ≡ Some scan
  first_of on = ap (λ h. find (λ d. not (h d)) (build_scans on.parts.one.opening.kind on.parts.one.opening.rel)) (usable_is facts was.progress waits.rests.holds.facts) ∙ on.first

  stack_now : IsStack (with_scan scan (is_kept facts.kept)) was.progress.opened (frames_now rebuilds)
  stack_now = by_kind rebuilds next.turn
    where
      by_kind : (t : Bool) → IsInTurn t was scan → IsStack (with_scan scan (is_kept facts.kept)) was.progress.opened (frames_now t)
      by_kind true turn = let on = on_top_of was scan turn in
          subst (λ l. IsStack (with_scan scan (is_kept facts.kept)) was.progress.opened (frames_scanned (with_scan scan (is_kept facts.kept)) was.progress.opened l)) (sym on.parts.is)
          (subst (IsStack (with_scan scan (is_kept facts.kept)) was.progress.opened) (sym (scanned_push (with_scan scan (is_kept facts.kept)) was.progress.opened on.parts.under on.parts.one))
          (stack_scanned (is_kept facts.kept) was.progress.opened on.parts.under on.parts.one scan (first_of on) (subst (IsStack (is_kept facts.kept) was.progress.opened) on.parts.is stack)))
      by_kind false turn = subst (IsStack (with_scan scan (is_kept facts.kept)) was.progress.opened) (sym turn.0) (stack_other (is_kept facts.kept) was.progress.opened scan (subst (IsStack (is_kept facts.kept) was.progress.opened) turn.0 stack))

  kept_now : is_kept later.kept ≡ with_scan scan (is_kept facts.kept)
  kept_now = kept_more scan (answer_of old was.progress.id scan) (length old + 1) facts.kept

  rebuilds_now : FramesFit later (command_at was) now (frames_now rebuilds)
  rebuilds_now = record {
    stack = λ keeps. subst (λ has. IsStack has was.progress.opened (frames_now rebuilds)) (sym kept_now) stack_now;
    over = λ over. absurd (both_ways _ over (λ i. not false && not (unlost scenario old was waits courses next.command next.free.at i) && not (no_error i)));
    badly = λ is. absurd (failed_by (plan_at was.progress.opens was.progress.exec) refl is);
    past = λ none. absurd (let both : Some next.command ≡ None = sym next.free.at ∙ none in cc both);
  }

  scan_fits : AreBegun (is_kept facts.kept) → Fits later (command_at was) now (was.looked && rebuilds) (frames_now rebuilds) was.told
  scan_fits begun = inside_fits scenario old was waits courses next.command next.free.at later now (was.looked && rebuilds) (frames_now rebuilds) was.told (record { blocks = refl; opens = refl; held = inl refl; finished = refl; blocked = refl; ended = refl; left = λ is there. refl })
      looks_less rebuilds_now
      (λ made. sought rebuilds next.turn (and_parts was.looked rebuilds made)) (takes_cleared _ (number_of s) s.locks s.taken s.left waits.fits.takes)
    where
      -- what a look of the act was made for it lacks still, after a scan of a rebuild
      sought : (t : Bool) → IsInTurn t was scan → (was.looked ≡ true) × (t ≡ true) → IsLookedFor later (frames_now t) s.taken s.left × IsUnheld s.opened s.left
      sought false turn made = absurd (cc (made.1))
      sought true turn made = (by_case (waits.fits.sought made.0), waits.fits.unheld made.0)
        where
          on : IsOnTop was scan
          on = on_top_of was scan turn

          built : IsRebuilt (is_kept facts.kept) was.progress.opened on.parts.one
          built = top_rebuilt facts (command_at was) s was.frames on.parts.one waits.fits.rebuilds (ap top on.parts.is ∙ top_push on.parts.under on.parts.one)

          by_case : IsLookedFor facts was.frames s.taken s.left → IsLookedFor later (frames_now true) s.taken s.left
          by_case (Lacks lacks_it) = Lacks (built_leaves facts later scan was.progress.opened on.parts.one.opening s.left (stage_reads was.progress.opens was.progress.exec) begun (first_of on) built.among (waits.fits.unheld made.0) kept_now lacks_it)
          by_case (Unfound finds look bare) = absurd (on_some was scan on bare)
          by_case (Said absent) = absurd (both_ways _ present absent)

  -- so after it the backend agrees
  pub scan_enters : (new : List Entry) (had has : ℕ → ℕ) (p : Progress) (rows : List Row) (at : ℕ) → IsPlayed scenario old → HasEntered scenario old was.progress event waits.rests p
      → kept_at p ≡ kept_with scan rows at (kept_at was.progress) → p.answer ≡ None
      → Appends old new had has (entry_of was.progress.id (was.progress.finished + 1) event) → Enters scenario old new had has was (record was { progress = p; looked = was.looked && rebuilds; frames = frames_noted rebuilds (is_kept (kept_at p)) p.opened was.frames })
  scan_enters new had has p rows at played enters kept none appends = subst (λ l. Enters scenario old new had has was (record was { progress = p; looked = was.looked && rebuilds; frames = l })) (sym (frames_are p rows at enters kept))
      (own_enters scenario old new had has was (record was { progress = p; looked = was.looked && rebuilds; frames = frames_now rebuilds }) event waits played courses scan_own enters
      (fits_at scenario old was event waits p enters (was.looked && rebuilds) (frames_now rebuilds) was.told (scan_fits (builds_begin scenario old played.plays was.progress.id)))
      refl refl refl (λ stop. cc stop) none appends)
    where
      frames_are : (q : Progress) (given : List Row) (place : ℕ) → HasEntered scenario old was.progress event waits.rests q → kept_at q ≡ kept_with scan given place (kept_at was.progress) → frames_noted rebuilds (is_kept (kept_at q)) q.opened was.frames ≡ frames_now rebuilds
      frames_are q given place moved kept_is = (λ i. frames_noted rebuilds ((ap is_kept kept_is ∙ kept_more scan given place (kept_at was.progress) ∙ ap (with_scan scan) (sym (usable_is facts was.progress waits.rests.holds.facts))) i) (opened_same i) was.frames)
        where
          opened_same : q.opened ≡ was.progress.opened
          opened_same = ap (λ (x : Session). x.opened) moved.session

  -- the rebuilds then, by what was kept before
  pub scan_frames : (q : Progress) (given : List Row) (place : ℕ) → HasEntered scenario old was.progress event waits.rests q → kept_at q ≡ kept_with scan given place (kept_at was.progress) → frames_noted rebuilds (is_kept (kept_at q)) q.opened was.frames ≡ frames_with_scan rebuilds scan was
  scan_frames q given place moved kept_is = (λ i. frames_noted rebuilds ((ap is_kept kept_is ∙ kept_more scan given place (kept_at was.progress)) i) (ap (λ (x : Session). x.opened) moved.session i) was.frames)
