-- What a command reads of a descriptor that it has opened is kept, where no scan for its descriptors is missing.
use Rattle.std.proofs.Common.{◌≡◌, ◌∙◌, Bool, true, false, not, ◌||◌, List, [], ◌∷◌, refl, ap, cond}
use Rattle.std.specs.List.{list_any}
use Rattle.base_types.specs.Scans.{same_scan, build_scans}
use Rattle.base_types.proofs.SameScan.{same_scan-true}
use Rattle.cacheless.specs.OpenedReads.{is_of_opened}
use Rattle.cacheless.proofs.Plans.SilentActs.{both_empty}
use Rattle.cacheless.specs.State.{Kept, is_kept, missing, builds_missing}
use Rattle.cacheless.specs.Types.{Purpose, Opening}

-- where the scans of a descriptor are there, each is
kept_among : (kept : Kept) (scan : Purpose) (wanted : List Purpose) → missing kept wanted ≡ [] → list_any (same_scan scan) wanted ≡ true → is_kept kept scan ≡ true
kept_among kept scan [] none has = absurd (cc)
kept_among kept scan (first ∷ wanted) none has = by_same (kept_among kept scan wanted both.1) (same_scan scan first) refl has
  where
    by_kept : (t : Bool) → is_kept kept first ≡ t → cond (not t) (first ∷ missing kept wanted) (missing kept wanted) ≡ [] → (is_kept kept first ≡ true) × (missing kept wanted ≡ [])
    by_kept true is none = (is, none)
    by_kept false is none = absurd (cc)

    both : (is_kept kept first ≡ true) × (missing kept wanted ≡ [])
    both = by_kept (is_kept kept first) refl none

    by_same : (list_any (same_scan scan) wanted ≡ true → is_kept kept scan ≡ true) → (t : Bool) → same_scan scan first ≡ t → (t || list_any (same_scan scan) wanted) ≡ true → is_kept kept scan ≡ true
    by_same later true is any = ap (is_kept kept) (same_scan-true scan first is) ∙ both.0
    by_same later false is any = later any

-- where no scan is missing for the opened descriptors, what is read is kept
pub kept_opened : (kept : Kept) (scan : Purpose) (opened : List Opening) → builds_missing kept opened ≡ [] → is_of_opened scan opened ≡ true → is_kept kept scan ≡ true
kept_opened kept scan [] none has = absurd (cc)
kept_opened kept scan (o ∷ opened) none has = by_here (kept_opened kept scan opened both.1) (list_any (same_scan scan) (build_scans o.kind o.rel)) refl has
  where
    both : (missing kept (build_scans o.kind o.rel) ≡ []) × (builds_missing kept opened ≡ [])
    both = both_empty (missing kept (build_scans o.kind o.rel)) (builds_missing kept opened) none

    by_here : (is_of_opened scan opened ≡ true → is_kept kept scan ≡ true) → (t : Bool) → list_any (same_scan scan) (build_scans o.kind o.rel) ≡ t → (t || is_of_opened scan opened) ≡ true → is_kept kept scan ≡ true
    by_here later true is any = kept_among kept scan (build_scans o.kind o.rel) both.0 is
    by_here later false is any = later any
