-- Once the release of a command is made, it goes on only where it came out well.
use Rattle.std.proofs.Common.{◌≡◌, ◌∙◌, ◌&&◌, Bool, true, false, ap, refl}
use Rattle.std.proofs.Math.Bool.{and-false}
use Rattle.ddl_effect.specs.Plans.{Plan, Absent}
use Rattle.cacheless.specs.Session.{Session, Well, Badly, outcome_of}
use Rattle.cacheless.specs.State.{is_absent}
use Rattle.backend_core.specs.Fits.{is_lost}

-- a command that goes on after its release came out well
abbrev pub IsWellOnceOver : Session → Type 0
IsWellOnceOver s = s.ended ≡ true → outcome_of s.left ≡ Well

pub well_present : (p : Plan) → outcome_of p ≡ Well → is_absent p ≡ false
well_present (Absent name) well = absurd (cc well)
well_present p well = refl

-- so it isn't one that found no relation
pub well_unlost : (s : Session) → IsWellOnceOver s → is_lost s ≡ false
well_unlost s over = by_ended s.ended refl
  where
    by_ended : (t : Bool) → s.ended ≡ t → (t && is_absent s.left) ≡ false
    by_ended false going = refl
    by_ended true ended = well_present s.left (over ended)

-- nor is one that hasn't failed
pub well_lost : (s : Session) → (outcome_of s.left ≡ Badly → ⊥) → is_lost s ≡ false
well_lost s goes = ap (λ t. s.ended && t) (by_plan s.left refl) ∙ and-false s.ended
  where
    by_plan : (p : Plan) → s.left ≡ p → is_absent p ≡ false
    by_plan (Absent name) is = absurd (goes (ap outcome_of is))
    by_plan p is = refl

-- and one that hasn't come out well hasn't made it
pub well_going : (s : Session) → IsWellOnceOver s → (outcome_of s.left ≡ Well → ⊥) → s.ended ≡ false
well_going s over not_well = by_ended s.ended refl
  where
    by_ended : (t : Bool) → s.ended ≡ t → s.ended ≡ false
    by_ended false going = going
    by_ended true ended = absurd (not_well (over ended))
