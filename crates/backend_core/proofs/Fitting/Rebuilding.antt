-- What the rebuilds see to, by the facts and the session.
use Rattle.std.proofs.Common.{◌≡◌, ◌∙◌, inl, inr, Bool, true, false, not, Option, Some, None, List, [], ◌∷◌, ◌++◌, ◌&&◌, ◌||◌, cond, refl, sym, ap, subst, map, filter, is_some, ◌⊎◌}
use Rattle.std.specs.List.{find, list_any, AllByRecursion}
use Rattle.std.proofs.lemmas.Bool.{both_ways, false_from_ne_true}
use Rattle.base_types.specs.Scans.{build_scans}
use Rattle.cacheless.specs.Facts.{Facts}
use Rattle.cacheless.specs.Holds.{FactsFit}
use Rattle.cacheless.specs.May.{lacks_opened}
use Rattle.cacheless.specs.Work.{work_of}
use Rattle.cacheless.specs.Owed.{OwesScan, owed_first_in, owed_after, missing, builds_missing, act_owed, scans_owed_in, owed_in}
use Rattle.cacheless.specs.Session.{Session, Outcome, Well, Badly, Unsettled, outcome_of}
use Rattle.cacheless.specs.State.{kept_at, is_kept, is_absent}
use Rattle.cacheless.specs.Suspects.{lacks}
use Rattle.cacheless.proofs.Plans.SilentActs.{both_empty}
use Rattle.backend_core.specs.Types.{Purpose, Command, Opening, Frame, Progress}
use Rattle.backend_core.specs.Fits.{keeps_whole, FramesFit, is_gone_due}
use Rattle.backend_core.specs.Words.{has_error}
use Rattle.backend_core.specs.Frames.{IsAmong, IsFound, IsStack, top, IsRebuilt, on_top, with_look}
use Rattle.backend_core.proofs.Stacking.Among.{found_any, any_among}
use Rattle.backend_core.proofs.Stacking.Stacks.{IsSplit, split, top_push, each_under, stack_look}

-- what is owed of no descriptor is kept of each
pub found_none : (f : Purpose → Bool) (xs : List Purpose) → filter f xs ≡ [] → is_some (find f xs) ≡ false
found_none f [] none = refl
found_none f (x ∷ xs) none = by_test (f x) none (found_none f xs)
  where
    by_test : (t : Bool) → cond t (x ∷ filter f xs) (filter f xs) ≡ [] → (filter f xs ≡ [] → is_some (find f xs) ≡ false) → is_some (cond t (Some x) (find f xs)) ≡ false
    by_test true some more = absurd (cc some)
    by_test false later more = more later

pub owed_whole : (facts : Facts) (held : List Opening) → builds_missing facts.kept held ≡ [] → list_any (lacks (is_kept facts.kept)) held ≡ false
owed_whole facts [] none = refl
owed_whole facts (o ∷ held) none = let both = both_empty (missing facts.kept (build_scans o.kind o.rel)) (builds_missing facts.kept held) none in
    (λ i. found_none (λ scan. not (is_kept facts.kept scan)) (build_scans o.kind o.rel) both.0 i || owed_whole facts held both.1 i)

-- where none of them lacks a scan each is whole
pub each_whole : (has : Purpose → Bool) (held : List Opening) (o : Opening) → list_any (lacks has) held ≡ false → IsAmong held o → lacks has o ≡ false
each_whole has held o none among = false_from_ne_true (lacks has o) (λ is. both_ways _ none (among (lacks has) is))

-- so there is no rebuild
pub stack_none : (has : Purpose → Bool) (held : List Opening) (frames : List Frame) → IsStack has held frames → list_any (lacks has) held ≡ false → frames ≡ []
stack_none has held [] stack none = refl
stack_none has held (f ∷ frames) stack none = absurd (both_ways _ (each_whole has held f.opening none stack.each.0.among) stack.each.0.lacking)

-- and where there is no rebuild none of them lacks a scan
pub none_lacks : (has : Purpose → Bool) (held : List Opening) → IsStack has held [] → list_any (lacks has) held ≡ false
none_lacks has held stack = false_from_ne_true (list_any (lacks has) held) (λ some. let w = any_among (lacks has) held some in by_found w.one w.is (stack.found w.one w.among))
  where
    by_found : (o : Opening) → lacks has o ≡ true → IsFound has [] o → ⊥
    by_found o lacking (inl whole) = both_ways _ whole lacking
    by_found o lacking (inr (inl on)) = cc on
    by_found o lacking (inr (inr on)) = cc on

-- there is no rebuild
pub bare_fits : (facts : Facts) (o : Option Command) (s : Session) → (keeps_whole facts s ≡ true → list_any (lacks (is_kept facts.kept)) s.opened ≡ false) → FramesFit facts o s []
bare_fits facts o s whole = record {
  stack = λ keeps. record { found = λ x among. inl (each_whole (is_kept facts.kept) s.opened x (whole keeps) among); each = tt; once = tt };
  over = λ ended. refl;
  badly = λ is. refl;
  past = λ none. refl;
}

-- there is none where no descriptor is owed a scan, or the command has failed
pub builds_bare : (facts : Facts) (o : Option Command) (s : Session) (frames : List Frame) → FramesFit facts o s frames → builds_missing facts.kept s.opened ≡ [] → frames ≡ []
builds_bare facts o s frames fits none = by_keeps (keeps_whole facts s) refl
  where
    by_keeps : (t : Bool) → keeps_whole facts s ≡ t → frames ≡ []
    by_keeps true keeps = stack_none (is_kept facts.kept) s.opened frames (fits.stack keeps) (owed_whole facts s.opened none)
    by_keeps false over = fits.over over

pub scans_bare : (facts : Facts) (o : Option Command) (s : Session) (frames : List Frame) → FramesFit facts o s frames → scans_owed_in facts (work_of s) ≡ [] → frames ≡ []
scans_bare facts o s frames fits none = by_outcome (outcome_of s.left) refl none
  where
    by_outcome : (x : Outcome) → outcome_of s.left ≡ x → elim x as (λ y. List Purpose) [ Badly ↦ [] | other ↦ builds_missing facts.kept s.opened ++ act_owed facts s.left ] ≡ [] → frames ≡ []
    by_outcome Badly is owed = fits.badly is
    by_outcome Well is owed = builds_bare facts o s frames fits (both_empty (builds_missing facts.kept s.opened) (act_owed facts s.left) owed).0
    by_outcome Unsettled is owed = builds_bare facts o s frames fits (both_empty (builds_missing facts.kept s.opened) (act_owed facts s.left) owed).0

no_scan : (scans : List Purpose) → map OwesScan scans ≡ [] → scans ≡ []
no_scan [] none = refl
no_scan (scan ∷ scans) none = absurd (cc none)

pub owed_bare : (facts : Facts) (o : Option Command) (s : Session) (frames : List Frame) (command : Command) → FramesFit facts o s frames → owed_in facts command (work_of s) ≡ [] → frames ≡ []
owed_bare facts o s frames command fits none = scans_bare facts o s frames fits (no_scan (scans_owed_in facts (work_of s)) (both_empty (owed_first_in facts command (work_of s) ++ owed_after facts.due) (map OwesScan (scans_owed_in facts (work_of s))) none).1)

-- what is kept goes on, where an entry leaves it
pub same_fits : (facts later : Facts) (o : Option Command) (s now : Session) (frames : List Frame) → is_kept later.kept ≡ is_kept facts.kept → now.opened ≡ s.opened → now.left ≡ s.left → now.ended ≡ s.ended → is_gone_due later.due ≡ is_gone_due facts.due → FramesFit facts o s frames → FramesFit later o now frames
same_fits facts later o s now frames usable opened left ended last fits = record {
  stack = λ keeps. subst (λ h. IsStack h now.opened frames) (sym usable) (subst (λ l. IsStack (is_kept facts.kept) l frames) (sym opened) (fits.stack (sym same ∙ keeps)));
  over = λ over. fits.over (sym same ∙ over);
  badly = λ is. fits.badly (ap outcome_of (sym left) ∙ is);
  past = fits.past;
}
  where
    same : keeps_whole later now ≡ keeps_whole facts s
    same = λ i. not (last i) && not (ended i && is_absent (left i)) && not (has_error (left i))

-- by what the code holds
pub usable_is : (facts : Facts) (s : Progress) → FactsFit facts s → is_kept facts.kept ≡ is_kept (kept_at s)
usable_is facts s fits = λ i scan. (ap (λ f. is_kept f.kept scan) fits) i

pub kept_lacks : (s : Progress) → lacks_opened (kept_at s) s.opened ≡ list_any (lacks (is_kept (kept_at s))) s.opened
kept_lacks s = found_any (lacks (is_kept (kept_at s))) s.opened

-- the rebuild on top is of a held descriptor that lacks a scan
pub top_rebuilt : (facts : Facts) (o : Option Command) (s : Session) (frames : List Frame) (f : Frame) → FramesFit facts o s frames → top frames ≡ Some f → IsRebuilt (is_kept facts.kept) s.opened f
top_rebuilt facts o s frames f fits on = by_split (split frames)
  where
    by_keeps : (g : IsSplit frames) → (t : Bool) → keeps_whole facts s ≡ t → IsRebuilt (is_kept facts.kept) s.opened f
    by_keeps g true keeps = let one : g.one ≡ f = (let both : Some g.one ≡ Some f = sym (ap top g.is ∙ top_push g.under g.one) ∙ on in cc both) in
        subst (IsRebuilt (is_kept facts.kept) s.opened) one (each_under (is_kept facts.kept) s.opened g.under g.one (subst (λ l. AllByRecursion (IsRebuilt (is_kept facts.kept) s.opened) l) g.is (fits.stack keeps).each)).1
    by_keeps g false over = absurd (let none : None ≡ Some f = sym (ap top (fits.over over)) ∙ on in cc none)

    by_split : (frames ≡ []) ⊎ IsSplit frames → IsRebuilt (is_kept facts.kept) s.opened f
    by_split (inl none) = absurd (let no_top : None ≡ Some f = sym (ap top none) ∙ on in cc no_top)
    by_split (inr g) = by_keeps g (keeps_whole facts s) refl

-- where nothing is owed, and the command hasn't failed, no descriptor is
pub owed_builds : (facts : Facts) (s : Session) (command : Command) → (outcome_of s.left ≡ Badly → ⊥) → owed_in facts command (work_of s) ≡ [] → builds_missing facts.kept s.opened ≡ []
owed_builds facts s command goes none = by_outcome (outcome_of s.left) refl (no_scan (scans_owed_in facts (work_of s)) (both_empty (owed_first_in facts command (work_of s) ++ owed_after facts.due) (map OwesScan (scans_owed_in facts (work_of s))) none).1)
  where
    by_outcome : (x : Outcome) → outcome_of s.left ≡ x → elim x as (λ y. List Purpose) [ Badly ↦ [] | other ↦ builds_missing facts.kept s.opened ++ act_owed facts s.left ] ≡ [] → builds_missing facts.kept s.opened ≡ []
    by_outcome Badly is owed = absurd (goes is)
    by_outcome Well is owed = (both_empty (builds_missing facts.kept s.opened) (act_owed facts s.left) owed).0
    by_outcome Unsettled is owed = (both_empty (builds_missing facts.kept s.opened) (act_owed facts s.left) owed).0

-- a look for the one on top changes nothing of it
pub look_fit : (facts : Facts) (o : Option Command) (s : Session) (frames : List Frame) → FramesFit facts o s frames → FramesFit facts o s (on_top with_look frames)
look_fit facts o s frames fits = record {
  stack = λ keeps. stack_look (is_kept facts.kept) s.opened frames (fits.stack keeps);
  over = λ over. ap (on_top with_look) (fits.over over);
  badly = λ is. ap (on_top with_look) (fits.badly is);
  past = λ none. ap (on_top with_look) (fits.past none);
}
