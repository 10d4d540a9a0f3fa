-- The locks of a transaction are released.
use Rattle.std.proofs.Common.{◌≡◌, ◌≤◌, ◌+◌, ◌∙◌, inl, inr, ℕ, Bool, true, false, Option, Some, None, List, [], refl, sym, ap, subst, length, map, is_some, ◌==◌, arith}
use Rattle.std.specs.Option.{option_map_or}
use Rattle.std.proofs.lemmas.Bool.{ne_eqb}
use Rattle.event_kinds.specs.declared.entry.Event.TheVariants as events
use Rattle.txn_blocks.specs.declared.transaction.RunningTransaction.{RunningTransaction as Running}
use Rattle.seg_calls.specs.Calls.{entry_of, Appends}
use Rattle.cacheless.specs.Ends.{Commits, TakesBack}
use Rattle.cacheless.specs.Facts.{Facts, facts_of}
use Rattle.cacheless.specs.Holds.{Rests, HasEntered}
use Rattle.cacheless.specs.May.{has_failed}
use Rattle.cacheless.specs.Owed.{started_in}
use Rattle.ddl_effect.specs.Opens.{opens_before}
use Rattle.ddl_effect.specs.Plans.{Plan, Done, Fails, Absent, Do, left_rests_on}
use Rattle.ddl_effect.specs.Stages.{plan_at}
use Rattle.cacheless.specs.OnCourse.{AllOnCourse}
use Rattle.cacheless.specs.Session.{Session, Well, opening_of, number_of, outcome_of, is_settled}
use Rattle.cacheless.specs.State.{kept_at, is_kept, one_if, is_out}
use Rattle.cacheless.specs.OwnTransaction.{end_by}
use Rattle.backend_core.specs.Types.{Command, Scenario, Entry, OwnLock, Opening, Progress, Backend, Frame}
use Rattle.backend_core.specs.Agrees.{IsPlayed, RunsFit, command_at, AwaitsEntry}
use Rattle.backend_core.specs.Fits.{looked_on_top, told_owed, LooksFit, Fits}
use Rattle.backend_core.specs.Frames.{unless, with_rest}
use Rattle.backend_core.specs.Noted.{noted_of, IsNoted}
use Rattle.backend_core.specs.declared.next.Next.TheVariants as nexts
use Rattle.backend_core.specs.Steps.{IsEndNext, MakesEntry, Enters}
use Rattle.backend_core.proofs.Entries.WhereLeft.{entered_here}
use Rattle.backend_core.proofs.Entries.EndEntries.{end_now, end_own, end_enters}
use Rattle.backend_core.proofs.Fitting.Released.{fails_at, frames_left, left_fits, left_unlooked, left_top, left_looks, plain_unlooked}
use Rattle.backend_core.proofs.Fitting.Rebuilding.{usable_is}
use Rattle.cacheless.proofs.FactsAfter.{facts_by}
use Rattle.cacheless.proofs.Allowed.EndsReleased.{EndsBy, LetsGo, AllSent, NoWrite, IsInner, Releases, Whole, Inner, comes_now, from_of, first_begun, commit_first, end_releases}
use Rattle.cacheless.proofs.Allowed.TransactionEnds.{ended_running, kept_running}
use Rattle.backend_core.proofs.Fitting.FitsEnds.{released_at, fits_released, back_plain}
use Rattle.backend_core.proofs.Own.{waiting, own_makes}

first_running : (own : Option Running) (n from : ℕ) → is_some own ≡ true → option_map_or (λ t. t.first) own n ≡ from → option_map_or (λ t. t.first) own 0 ≡ from
first_running None n from some is = absurd (cc some)
first_running (Some t) n from some is = is

module _ (scenario : Scenario) (old : List Entry) (was : Backend) (from : ℕ) (waits : AwaitsEntry scenario old was) (next : IsEndNext was (events.Release from)) where
  abbrev facts : Facts
  facts = facts_of old was.progress.id

  abbrev s : Session
  s = waiting waits

  now : EndsBy facts (command_at was) s (events.Release from)
  now = end_now scenario old was waits (events.Release from) refl next

  lets : LetsGo facts (end_by facts (command_at was) s) from
  lets = comes_now facts (end_by facts (command_at was) s) (events.Release from) now.comes

  -- what it releases
  part : Releases facts (command_at was) s from
  part = end_releases facts (command_at was) s from waits.runs now.going (from_of facts (end_by facts (command_at was) s) from lets)

  -- where that is all of its transaction, it is released from its first command on
  first_here : first_begun facts s ≡ from → option_map_or (λ (t : Running). t.first) facts.running (was.progress.finished + 1) ≡ from
  first_here is = ap (λ n. option_map_or (λ (t : Running). t.first) facts.running (n + 1)) (sym waits.rests.holds.count) ∙ is

  -- so is a commit
  first_committed : end_by facts (command_at was) s ≡ Commits from → option_map_or (λ (t : Running). t.first) facts.running (was.progress.finished + 1) ≡ from
  first_committed commits = first_here (commit_first facts (command_at was) s from waits.runs now.going commits)

  abbrev pub later : Facts
  later = facts_by old was.progress.id (was.progress.finished + 1) (events.Release from) facts

  -- what is held then
  abbrev pub held_now : List Opening
  held_now = map opening_of (opens_before from was.progress.opens)

  -- and rebuilt
  abbrev pub frames_now : List Frame
  frames_now = frames_left (is_kept facts.kept) (plan_at was.progress.opens was.progress.exec) held_now

  release_fits : (locks : List OwnLock) (at : ℕ) → Fits later (command_at was) (released_at facts later (command_at was) s was.looked was.frames was.told (events.Release from) locks at waits.fits now from) was.looked frames_now was.told
  release_fits locks at = by_part part
    where
      then : Session
      then = released_at facts later (command_at was) s was.looked was.frames was.told (events.Release from) locks at waits.fits now from

      before : LooksFit facts s was.looked [] was.told
      before = subst (λ l. LooksFit facts s was.looked l was.told) next.bare waits.fits.looks

      fits_here : (command_at was ≡ None → held_now ≡ []) → started_in (number_of s) later ≡ 0 → told_owed was.told frames_now + one_if was.looked + started_in (number_of s) facts ≤ one_if was.told + looked_on_top was.looked frames_now + 1 → Fits later (command_at was) then was.looked frames_now was.told
      fits_here past started top = fits_released facts later (command_at was) s was.looked was.frames was.told (events.Release from) locks at waits.fits now from frames_now refl waits.runs (from_of facts (end_by facts (command_at was) s) from lets) (λ scan none. none)
          (left_looks facts later s held_now locks at was.looked frames_now was.told before now.going now.after refl started (left_unlooked (is_kept facts.kept) s.left held_now) top)
          (left_fits later (command_at was) then now.out refl refl past)

      -- no look is made for what a command tells that takes an inner level back
      inner_unlooked : IsInner facts (command_at was) s from → fails_at s.left ≡ false → was.looked ≡ false
      inner_unlooked inner goes = by_looked was.looked refl
        where
          by_plan : (p : Plan) → is_settled (outcome_of p) ≡ true → fails_at p ≡ false → outcome_of p ≡ Well
          by_plan (Done told) out is = refl
          by_plan (Fails error) out is = absurd (cc is)
          by_plan (Absent name) out is = absurd (cc is)
          by_plan (Do act rest) out is = absurd (cc out)

          -- it isn't a commit, which would release its transaction
          back : LetsGo facts (end_by facts (command_at was) s) from → end_by facts (command_at was) s ≡ TakesBack from
          back (AllSent commits visible sent) = absurd (omega (arith, inner.above, first_running facts.running (was.progress.finished + 1) from inner.runs (first_committed commits)))
          back (NoWrite (inl commits) bare) = absurd (omega (arith, inner.above, first_running facts.running (was.progress.finished + 1) from inner.runs (first_committed commits)))
          back (NoWrite (inr takes) bare) = takes

          plain : (o : Option Command) → command_at was ≡ o → left_rests_on s.left ≡ []
          plain None none = absurd (inner.command none)
          plain (Some command) here = back_plain facts command s from (subst (λ o. RunsFit facts o s) here waits.runs) (ap (λ o. end_by facts o s) (sym here) ∙ back lets)

          by_looked : (t : Bool) → was.looked ≡ t → t ≡ false
          by_looked false is = refl
          by_looked true is = absurd (plain_unlooked facts was.frames s.taken s.left (by_plan s.left now.out goes) (plain (command_at was) refl) (waits.fits.sought is))

      by_part : Releases facts (command_at was) s from → Fits later (command_at was) then was.looked frames_now was.told
      by_part (Whole is none on) = fits_here (λ past. ap (map opening_of) none) (ap (λ r. option_map_or (λ (t : Running). elim (t.first == number_of s) as (λ x. ℕ) [ true ↦ 1 | false ↦ 0 ]) r 0) (ended_running facts.running (was.progress.finished + 1) from (first_here is)))
          (subst (λ l. told_owed was.told l + one_if was.looked + started_in (number_of s) facts ≤ one_if was.told + looked_on_top was.looked l + 1) (sym (bare_left none)) (omega (arith, before.once)))
        where
          bare_left : opens_before from s.opens ≡ [] → frames_now ≡ []
          bare_left without = ap (λ l. frames_left (is_kept facts.kept) s.left (map opening_of l)) without ∙ by_fails (fails_at s.left)
            where
              by_fails : (t : Bool) → unless t [] [] ≡ []
              by_fails true = refl
              by_fails false = refl
      by_part (Inner inner) = fits_here (λ none. absurd (inner.command none)) (ap (λ r. option_map_or (λ (t : Running). elim (t.first == number_of s) as (λ x. ℕ) [ true ↦ 1 | false ↦ 0 ]) r 0) (kept_running facts.running (was.progress.finished + 1) from inner.runs inner.above) ∙ started_before)
          (omega (arith, started_before, left_top (is_kept facts.kept) s.left held_now was.looked was.told (inner_unlooked inner)))
        where
          started_before : started_in (number_of s) facts ≡ 0
          started_before = by_own facts.running inner.above
            where
              by_own : (own : Option Running) → option_map_or (λ t. t.first) own 0 + 1 ≤ from → option_map_or (λ (t : Running). elim (t.first == number_of s) as (λ x. ℕ) [ true ↦ 1 | false ↦ 0 ]) own 0 ≡ 0
              by_own None above = refl
              by_own (Some t) above = ap (λ x. elim x as (λ y. ℕ) [ true ↦ 1 | false ↦ 0 ]) (ne_eqb t.first (number_of s) (λ is. absurd (omega (arith, is, above, inner.low))))

-- the state after it
pub release_enters : (scenario : Scenario) (old new : List Entry) (had has : ℕ → ℕ) (was : Backend) (from : ℕ) (p : Progress) (frames : List Frame) (waits : AwaitsEntry scenario old was) → IsPlayed scenario old → AllOnCourse scenario old → IsEndNext was (events.Release from)
    → HasEntered scenario old was.progress (events.Release from) waits.rests p → kept_at p ≡ kept_at was.progress → p.answer ≡ was.progress.answer → frames ≡ unless (has_failed p) was.frames (with_rest (is_kept (kept_at p)) p.opened was.frames)
    → Appends old new had has (entry_of was.progress.id (was.progress.finished + 1) (events.Release from)) → Enters scenario old new had has was (record was { progress = p; frames = frames })
release_enters scenario old new had has was from p frames waits played courses next goes kept same are appends =
    subst (λ l. Enters scenario old new had has was (record was { progress = p; frames = l })) (sym (are ∙ frames_are))
    (end_enters scenario old new had has was (events.Release from) p (frames_now scenario old was from waits next) waits refl played courses next goes same (release_fits scenario old was from waits next _ (length old + 1)) appends)
  where
    bare : was.frames ≡ []
    bare = next.bare

    usable : is_kept (kept_at p) ≡ is_kept (facts_of old was.progress.id).kept
    usable = ap is_kept kept ∙ sym (usable_is (facts_of old was.progress.id) was.progress waits.rests.holds.facts)

    frames_are : unless (has_failed p) was.frames (with_rest (is_kept (kept_at p)) p.opened was.frames) ≡ frames_now scenario old was from waits next
    frames_are = λ i. unless (fails_at (ap (λ (x : Session). x.left) goes.session i)) (bare i) (with_rest (usable i) (ap (λ (x : Session). x.opened) goes.session i) (bare i))

-- out of memory, its entry is made
pub release_makes : (scenario : Scenario) (old new : List Entry) (had has : ℕ → ℕ) (was : Backend) (from : ℕ) (waits : AwaitsEntry scenario old was) → IsPlayed scenario old → AllOnCourse scenario old → IsEndNext was (events.Release from)
    → Appends old new had has (entry_of was.progress.id (was.progress.finished + 1) (events.Release from)) → MakesEntry scenario old new had has was.progress.id
release_makes scenario old new had has was from waits played courses next appends = own_makes scenario old new had has was (events.Release from) waits played courses (end_own scenario old was waits (events.Release from) refl next) appends

-- what is noted with it
pub release_noted : (scenario : Scenario) (old new : List Entry) (had has : ℕ → ℕ) (was : Backend) (from : ℕ) (p : Progress) (frames : List Frame) (rests : Rests scenario old was.progress) → HasEntered scenario old was.progress (events.Release from) rests p → kept_at p ≡ kept_at was.progress
    → frames ≡ unless (has_failed p) was.frames (with_rest (is_kept (kept_at p)) p.opened was.frames) → Appends old new had has (entry_of was.progress.id (was.progress.finished + 1) (events.Release from)) → IsNoted scenario old new was (nexts.Release from) (record was { progress = p; frames = frames })
release_noted scenario old new had has was from p frames rests goes kept are appends = record {
  event = events.Release from;
  made = refl;
  entered = appends.entries;
  goes = entered_here scenario old new was.progress p (events.Release from) rests goes appends.entries;
  noted = ap (λ l. record (noted_of was) { frames = l }) (are ∙ (λ i. unless (fails_at (ap (λ (x : Session). x.left) goes.session i)) was.frames (with_rest (is_kept (kept i)) (ap (λ (x : Session). x.opened) goes.session i) was.frames)));
}

-- so it is where no memory is refused, for the rebuilds by what the code asks
pub rest_is : (p : Progress) (was frames : List Frame) (fails : Bool) (held : List Opening) → fails ≡ has_failed p → held ≡ p.opened → frames ≡ unless fails was (with_rest (is_kept (kept_at p)) held was) → frames ≡ unless (has_failed p) was (with_rest (is_kept (kept_at p)) p.opened was)
rest_is p was frames fails held fails_is held_is are = are ∙ (λ i. unless (fails_is i) was (with_rest (is_kept (kept_at p)) (held_is i) was))

-- before it its command has come out
pub release_out : (scenario : Scenario) (old : List Entry) (was : Backend) (from : ℕ) → AwaitsEntry scenario old was → IsEndNext was (events.Release from) → is_out was.progress ≡ true
release_out scenario old was from waits next = (now scenario old was from waits next).out
