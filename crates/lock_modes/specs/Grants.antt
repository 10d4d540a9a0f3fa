-- Lists of grants, in the order in which they were given.
use Rattle.std.specs.Prelude.{ℕ, Bool, not, Option, List, ◌==◌, ◌&&◌, nat_le}
use Rattle.std.specs.List.{find, list_any}
use Rattle.base_types.specs.Modes.{same_mode, conflicts}
use Rattle.base_types.specs.Scans.{same_oid}
use Rattle.lock_modes.specs.Types.{Oid, Mode, Grant}

-- a grant of the mode on the relation to the backend
abbrev pub is_lock : ℕ → Oid → Mode → Grant → Bool
is_lock b rel mode g = (g.backend == b) && same_oid g.rel rel && same_mode g.mode mode

-- a backend holds a mode on a relation
abbrev pub holds : List Grant → ℕ → Oid → Mode → Bool
holds held b rel mode = list_any (is_lock b rel mode) held

-- the first grant of another backend on the relation that conflicts with the mode
abbrev pub first_conflict : List Grant → ℕ → Oid → Mode → Option Grant
first_conflict held b rel mode = find (λ g. not (g.backend == b) && same_oid g.rel rel && conflicts mode g.mode) held

-- a grant that a backend keeps when it releases what it was granted in commands of this number and above
abbrev pub stays : ℕ → ℕ → Grant → Bool
stays b from g = not ((g.backend == b) && nat_le from g.command)
