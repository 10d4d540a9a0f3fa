-- What the choice keeps with an entry of a command that runs: a look, a fetch, a scan, a lock, a write, or one that is refused.
use Rattle.std.proofs.Common.{◌≡◌, ◌+◌, ◌∙◌, ◌⊎◌, inl, inr, map, Bool, true, false, Option, Some, None, sym, ap, subst, length, List}
use Rattle.std.proofs.lemmas.Bool.{both_ways}
use Rattle.cacheless.specs.Facts.{Facts}
use Rattle.cacheless.specs.Session.{Session, Well, opening_of, held_in, held_before, number_of, outcome_of, is_settled}
use Rattle.cacheless.specs.Settled.{opens_passed, opens_after}
use Rattle.cacheless.specs.State.{is_absent}
use Rattle.backend_core.specs.Types.{Command, Frame}
use Rattle.backend_core.specs.Fits.{LooksFit, FramesFit, IsUnheld, Fits, IsLookedFor, TakesFit, AreHeld, OpensFit}
use Rattle.backend_core.proofs.Fitting.Over.{IsWellOnceOver, well_present}

-- what such an entry leaves of the session
pub record StaysAt (s later : Session) : Type 0 where
  pub blocks : later.blocks ≡ s.blocks
  pub opens : later.opens ≡ s.opens
  pub held : (later.opened ≡ s.opened) ⊎ ((later.opened ≡ held_before s) × (s.ended ≡ false))
  pub finished : length later.finished ≡ length s.finished
  pub blocked : later.blocked ≡ s.blocked
  pub ended : later.ended ≡ s.ended
  pub left : is_settled (outcome_of s.left) ≡ true → is_absent s.left ≡ false → later.left ≡ s.left

-- where it has come out well its plan stays
plan_stays : (s now : Session) → StaysAt s now → outcome_of s.left ≡ Well → now.left ≡ s.left
plan_stays s now same well = same.left (ap is_settled well) (well_present s.left well)

-- what is held of the relations that are open goes on
opens_stay : (o : Option Command) (s now : Session) → StaysAt s now → IsWellOnceOver s → OpensFit o s → OpensFit o now
opens_stay o s now same over fits = record {
  held = λ on. subst (AreHeld now.opened) (λ i. held_in (sym same.blocks i).block (sym same.opens i)) (by_held same.held on);
  over = λ ended command at. by_over same.held (sym same.ended ∙ ended) command at;
}
  where
    by_held : (now.opened ≡ s.opened) ⊎ ((now.opened ≡ held_before s) × (s.ended ≡ false)) → now.ended ≡ false → AreHeld now.opened (held_before s)
    by_held (inl is) on = subst (λ held. AreHeld held (held_before s)) (sym is) (fits.held (sym same.ended ∙ on))
    by_held (inr (is, going)) on = subst (λ held. AreHeld held (held_before s)) (sym is) (λ p none. none)

    by_over : (now.opened ≡ s.opened) ⊎ ((now.opened ≡ held_before s) × (s.ended ≡ false)) → s.ended ≡ true → (command : Command) → o ≡ Some command → now.opened ≡ map opening_of (opens_after command now)
    by_over (inr (is, going)) ended command at = absurd (both_ways _ going ended)
    by_over (inl is) ended command at = is ∙ fits.over ended command at ∙ (λ i. map opening_of (opens_passed (sym (plan_stays s now same (over ended)) i) (sym same.finished i + 1) command (sym same.blocked i) (sym same.blocks i).levels (sym is i) (sym same.opens i)))

-- what the choice keeps
pub fits_inside : (later : Facts) (o : Option Command) (s now : Session) (looked : Bool) (frames : List Frame) (told : Bool) (command : Command) → o ≡ Some command → OpensFit o s → StaysAt s now → IsWellOnceOver s
    → LooksFit later now looked frames told → FramesFit later o now frames → (looked ≡ true → IsLookedFor later frames now.taken now.left × IsUnheld now.opened now.left) → TakesFit (number_of now) now.locks now.taken now.left → Fits later o now looked frames told
fits_inside later o s now looked frames told command at opens same over looks rebuilds sought takes = record {
  looks = looks;
  rebuilds = rebuilds;
  past = λ none. absurd (let both : Some command ≡ None = sym at ∙ none in cc both);
  relations = opens_stay o s now same over opens;
  sought = λ made. (sought made).0;
  takes = takes;
  unheld = λ made. (sought made).1;
}
