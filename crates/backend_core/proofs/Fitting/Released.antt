-- What is rebuilt once a release is made: what is held still and lacks a scan, unless the command has failed.
use Rattle.std.proofs.Common.{◌≡◌, ◌≤◌, ◌+◌, ◌∙◌, ◌&&◌, ℕ, Bool, true, false, not, Option, Some, None, List, [], refl, sym, ap, subst, arith}
use Rattle.std.specs.List.{cons_option}
use Rattle.std.specs.Option.{option_map_or}
use Rattle.std.proofs.lemmas.Bool.{both_ways}
use Rattle.ddl_effect.specs.Plans.{Plan, Done, Fails, Absent, Do, left_rests_on, told_rests_on}
use Rattle.cacheless.specs.Facts.{Facts}
use Rattle.cacheless.specs.Owed.{owed_after, started_in}
use Rattle.cacheless.specs.Session.{Session, Well, Badly, number_of, outcome_of, is_settled}
use Rattle.cacheless.specs.State.{one_if, is_absent}
use Rattle.cacheless.specs.Types.{Oid}
use Rattle.backend_core.specs.Types.{Purpose, Command, Opening, OwnLock, Frame}
use Rattle.backend_core.specs.Fits.{looks_due, looked_in, looked_on_top, told_owed, LooksFit, FramesFit, IsLookedFor, Lacks, Unfound, Said, IsUnheld, is_gone_due}
use Rattle.backend_core.specs.Frames.{unless, with_new, least_left, with_rest}
use Rattle.backend_core.specs.Words.{has_error}
use Rattle.backend_core.proofs.Fitting.Rebuilding.{bare_fits}
use Rattle.backend_core.proofs.Stacking.Rests.{rest_stack}
use Rattle.local_caches.specs.Kept.{is_kept}

-- the command has failed
abbrev pub fails_at : Plan → Bool
fails_at plan = elim (outcome_of plan) [ Badly ↦ true | other ↦ false ]

-- the rebuilds that begin
abbrev pub frames_left : (Purpose → Bool) → Plan → List Opening → List Frame
frames_left has plan held = unless (fails_at plan) [] (with_rest has held [])

pub left_fits : (facts : Facts) (o : Option Command) (s : Session) → is_settled (outcome_of s.left) ≡ true → s.ended ≡ true → is_gone_due facts.due ≡ false → (o ≡ None → s.opened ≡ []) → FramesFit facts o s (frames_left (is_kept facts.kept) s.left s.opened)
left_fits facts o s out ended last bare = by_plan s.left refl out
  where
    failed : (p : Plan) → s.left ≡ p → fails_at p ≡ true → (not false && not (true && is_absent p) && not (has_error p)) ≡ false → FramesFit facts o s (frames_left (is_kept facts.kept) s.left s.opened)
    failed p at fails over = subst (FramesFit facts o s) (sym (ap (λ q. unless (fails_at q) [] (with_rest (is_kept facts.kept) s.opened [])) at ∙ ap (λ t. unless t [] (with_rest (is_kept facts.kept) s.opened [])) fails))
        (bare_fits facts o s (λ keeps. absurd (both_ways _ ((λ i. not (last i) && not (ended i && is_absent (at i)) && not (has_error (at i))) ∙ over) keeps)))

    by_plan : (p : Plan) → s.left ≡ p → is_settled (outcome_of p) ≡ true → FramesFit facts o s (frames_left (is_kept facts.kept) s.left s.opened)
    by_plan (Done told) at is = subst (FramesFit facts o s) (sym (ap (λ q. frames_left (is_kept facts.kept) q s.opened) at)) (record {
      stack = λ keeps. rest_stack (is_kept facts.kept) s.opened [] tt tt;
      over = λ over. absurd (both_ways _ over (λ i. not (last i) && not (ended i && is_absent (at i)) && not (has_error (at i))));
      badly = λ badly. absurd (let no : Well ≡ Badly = sym (ap outcome_of at) ∙ badly in cc no);
      past = λ none. ap (λ held. with_rest (is_kept facts.kept) held []) (bare none);
    })
    by_plan (Fails error) at is = failed (Fails error) at refl refl
    by_plan (Absent name) at is = failed (Absent name) at refl refl
    by_plan (Do act rest) at is = absurd (cc is)

-- no look is made for them yet
pub left_unlooked : (has : Purpose → Bool) (plan : Plan) (held : List Opening) → looked_in (frames_left has plan held) ≡ 0
left_unlooked has plan held = by_fails (fails_at plan)
  where
    by_least : (o : Option Opening) → looked_in (with_new o true []) ≡ 0
    by_least None = refl
    by_least (Some o) = refl

    by_fails : (t : Bool) → looked_in (unless t [] (with_rest has held [])) ≡ 0
    by_fails true = refl
    by_fails false = by_least (least_left has [] held)

-- of the looks, where none was made for the answer
pub left_top : (has : Purpose → Bool) (plan : Plan) (held : List Opening) (looked told : Bool) → (fails_at plan ≡ false → looked ≡ false) → told_owed told (frames_left has plan held) + one_if looked ≤ one_if told + looked_on_top looked (frames_left has plan held) + 1
left_top has plan held looked told unlooked = by_fails (fails_at plan) refl
  where
    by_least : (o : Option Opening) → looked ≡ false → told_owed told (with_new o true []) + one_if looked ≤ one_if told + looked_on_top looked (with_new o true []) + 1
    by_least None none = omega arith
    by_least (Some o) none = omega (arith, ap one_if none)

    by_fails : (t : Bool) → fails_at plan ≡ t → told_owed told (unless t [] (with_rest has held [])) + one_if looked ≤ one_if told + looked_on_top looked (unless t [] (with_rest has held [])) + 1
    by_fails true is = omega arith
    by_fails false is = by_least (least_left has [] held) (unlooked is)

-- so the looks are counted then: its transaction didn't start in it, or has ended
pub left_looks : (facts later : Facts) (s : Session) (opened : List Opening) (locks : List OwnLock) (at : ℕ) (looked : Bool) (frames : List Frame) (told : Bool) → LooksFit facts s looked [] told → s.ended ≡ false → owed_after facts.due ≡ [] → owed_after later.due ≡ [] → started_in (number_of s) later ≡ 0
    → looked_in frames ≡ 0 → told_owed told frames + one_if looked + started_in (number_of s) facts ≤ one_if told + looked_on_top looked frames + 1 → LooksFit later (record s { ended = true; opened = opened; locks = locks; last = at }) looked frames told
left_looks facts later s opened locks at looked frames told fits going due due_now none unlooked top = record {
  enough = omega (arith, fits.enough, none, unlooked, ap looks_due due, ap looks_due due_now);
  within = omega (arith, fits.within, none, top, ap one_if going, ap looks_due due, ap looks_due due_now);
  once = omega (arith, none);
}

-- a look is made for no answer that rests on no scan
pub plain_unlooked : (facts : Facts) (frames : List Frame) (taken : Option Oid) (p : Plan) → outcome_of p ≡ Well → left_rests_on p ≡ [] → IsLookedFor facts frames taken p → ⊥
plain_unlooked facts frames taken (Done told) well plain (Lacks is) = by_scan (told_rests_on told) plain is
  where
    by_scan : (o : Option Purpose) → cons_option o [] ≡ [] → option_map_or (λ scan. not (is_kept facts.kept scan)) o false ≡ true → ⊥
    by_scan None none lacks = cc lacks
    by_scan (Some scan) some lacks = cc some
plain_unlooked facts frames taken (Done told) well plain (Unfound is look bare) = cc is
plain_unlooked facts frames taken (Done told) well plain (Said is) = cc is
plain_unlooked facts frames taken p well plain looked = cc well

-- a command that has come out opens nothing
pub unheld_out : (held : List Opening) (p : Plan) → is_settled (outcome_of p) ≡ true → IsUnheld held p
unheld_out held (Do act rest) out = absurd (cc out)
unheld_out held p out = tt
