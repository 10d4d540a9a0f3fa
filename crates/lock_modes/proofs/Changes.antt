-- The grants after one more change.
use Rattle.std.proofs.Common.{◌≡◌, List, [], ◌∷◌, ◌++◌}
use Rattle.std.proofs.lemmas.Grind.{fold-append}
use Rattle.lock_modes.specs.Types.{LockChange}
use Rattle.lock_modes.specs.Changes.{changed, held_after}

pub held_more : (changes : List LockChange) (change : LockChange) → held_after (changes ++ change ∷ []) ≡ changed change (held_after changes)
held_more changes change = fold-append (λ old c. changed c old) [] changes (change ∷ [])
