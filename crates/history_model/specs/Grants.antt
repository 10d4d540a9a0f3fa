-- The grants of locks.
use Rattle.std.specs.Prelude.{ℕ, not, List, [], ◌∷◌, ◌++◌, filter}
use Rattle.std.specs.List.{flat_map}
use Rattle.base_types.specs.declared.row.Row.TheVariants.{Class}
use Rattle.lock_modes.specs.Grants.{is_lock, stays}
use Rattle.history_model.specs.Types.{AccessExclusive, Grant, Item, Add, Event, LockOk, Unlock, Write, Release}

-- a new relation is locked by its writer
abbrev pub granted_by : ℕ → ℕ → Item → List Grant
granted_by b c (Add (Class oid name kind fill)) = record { backend = b; command = c; rel = oid; mode = AccessExclusive } ∷ []
granted_by b c item = []

-- the grants after an event
abbrev pub held_by : ℕ → ℕ → Event → List Grant → List Grant
held_by b c (LockOk rel mode) old = old ++ record { backend = b; command = c; rel = rel; mode = mode } ∷ []
held_by b c (Unlock rel mode) old = filter (λ g. not (is_lock b rel mode g)) old
held_by b c (Write xid items) old = old ++ flat_map (granted_by b c) items
held_by b c (Release from) old = filter (stays b from) old
held_by b c event old = old
