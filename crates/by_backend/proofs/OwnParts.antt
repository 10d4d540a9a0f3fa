-- The commands of one backend among those of a script.
use Rattle.std.proofs.Common.{◌≡◌, ◌≤◌, ℕ, Bool, true, false, List, [], ◌∷◌, ◌==◌, refl, map, filter, length, arith}
use Rattle.base_types.specs.declared.command.Placed.{Placed}

-- the commands of a backend are no more than all
pub few_among : (b : ℕ) (placed : List Placed) → length (map (λ p. p.command) (filter (λ p. p.backend == b) placed)) ≤ length placed
few_among b [] = omega arith
few_among b (p ∷ placed) = by_owner (p.backend == b) refl (few_among b placed)
  where
    by_owner : (t : Bool) → (p.backend == b) ≡ t → length (map (λ q. q.command) (filter (λ q. q.backend == b) placed)) ≤ length placed → length (map (λ q. q.command) (filter (λ q. q.backend == b) (p ∷ placed))) ≤ length (p ∷ placed)
    by_owner true is rest = rw is (omega (arith, rest))
    by_owner false is rest = rw is (omega (arith, rest))
