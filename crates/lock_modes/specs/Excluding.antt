-- Grants that exclude each other.
use Rattle.std.specs.Prelude.{not, false, List, [], ◌∷◌, ◌++◌, ◌≡◌, ◌==◌, ◌&&◌}
use Rattle.std.specs.List.{AllByRecursion}
use Rattle.base_types.specs.Modes.{conflicts}
use Rattle.base_types.specs.Scans.{same_oid}
use Rattle.lock_modes.specs.Types.{Grant}
use Rattle.lock_modes.specs.Grants.{is_lock}

-- one grant is given beside another: it isn't the same backend's of the same mode on the same relation, and not another backend's that conflicts
pub record IsApart (other g : Grant) : Type 0 where
  pub once : is_lock g.backend g.rel g.mode other ≡ false
  pub way : (not (other.backend == g.backend) && same_oid other.rel g.rel && conflicts g.mode other.mode) ≡ false

-- nobody is in the way of a grant, and its backend doesn't hold the mode
abbrev pub IsFree : List Grant → Grant → Type 0
IsFree held g = AllByRecursion (λ other. IsApart other g) held

-- so it is for each of these, given one after another
abbrev pub AreFree : List Grant → List Grant → Type 0
AreFree held [] = Unit {0}
AreFree held (g ∷ grants) = IsFree held g × AreFree (held ++ g ∷ []) grants

-- grants exclude each other: each of them is given beside all before it
abbrev pub DoExclude : List Grant → Type 0
DoExclude [] = Unit {0}
DoExclude (g ∷ later) = AllByRecursion (IsApart g) later × DoExclude later
