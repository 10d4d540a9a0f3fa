-- What `retain` leaves of a list.
use Rattle.std.proofs.Common.{◌≡◌, ◌∙◌, Bool, cond, List, [], ◌∷◌, filter, ap, subst}
use Rattle.std.specs.List.Retain.{RetainsInTurn}

-- a closure that answers as a test does, and changes neither itself nor an element, leaves what passes
pub retained : {F X : Type 0} (R : F → X → Bool → F → X → Type 0) (test : X → Bool) (f : F) → ((x : X) (b : Bool) (g : F) (y : X) → R f x b g y → (b ≡ test x) × (g ≡ f) × (y ≡ x)) → (xs ys : List X) → RetainsInTurn R f xs ys → ys ≡ filter test xs
retained R test f says [] ys turns = turns
retained R test f says (x ∷ xs) ys turns =
    let one = says x turns.0 turns.1 turns.2 turns.3 in
    let rest : turns.4 ≡ filter test xs = retained R test f says xs turns.4 (subst (λ g. RetainsInTurn R g xs turns.4) one.1 turns.5) in
    turns.6 ∙ ap (λ y. cond turns.0 (y ∷ turns.4) turns.4) one.2 ∙ ap (λ b. cond b (x ∷ turns.4) turns.4) one.0 ∙ ap (λ zs. cond (test x) (x ∷ zs) zs) rest
