-- What becomes of the grants of a table.
use Rattle.std.specs.Prelude.{Bool, not, ℕ, List, [], ◌∷◌, ◌++◌, ◌==◌, ◌&&◌, nat_le, filter, fold}
use Rattle.lock_modes.specs.Types.{Grant, Released, LockChange}
use Rattle.lock_modes.specs.Grants.{is_lock}
use Rattle.lock_modes.specs.declared.change.Released.TheVariants as releases
use Rattle.lock_modes.specs.declared.change.LockChange.TheVariants as changes

-- a grant that is released
abbrev pub is_released : Released → Grant → Bool
is_released (releases.Lock b rel mode) g = is_lock b rel mode g
is_released (releases.From b from) g = (g.backend == b) && nat_le from g.command

-- a grant that isn't
abbrev pub is_kept : Released → Grant → Bool
is_kept released g = not (is_released released g)

-- a grant on the relation that is released
abbrev pub is_out : Released → ℕ → Grant → Bool
is_out released rel g = (g.rel.0 == rel) && is_released released g

-- the grants after a change
abbrev pub changed : LockChange → List Grant → List Grant
changed (changes.Grant g) old = old ++ g ∷ []
changed (changes.Release released) old = filter (is_kept released) old

-- the grants after changes, of which the oldest comes first
abbrev pub held_after : List LockChange → List Grant
held_after changes = fold (λ old change. changed change old) [] changes
