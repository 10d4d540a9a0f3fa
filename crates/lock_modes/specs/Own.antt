-- Lists of a backend's own locks, in the order in which they were granted.
use Rattle.std.specs.Prelude.{ℕ, Bool, true, List, ◌&&◌, map, filter}
use Rattle.std.specs.List.{list_any}
use Rattle.base_types.specs.Modes.{same_mode}
use Rattle.base_types.specs.Scans.{same_oid}
use Rattle.base_types.specs.declared.mode.Mode.TheVariants.{AccessExclusive}
use Rattle.lock_modes.specs.Types.{Oid, Mode, OwnLock}

-- a lock of the mode on the relation
abbrev pub is_own : Oid → Mode → OwnLock → Bool
is_own rel mode lock = same_oid lock.rel rel && same_mode lock.mode mode

-- the mode is held on the relation
abbrev pub has_lock : List OwnLock → Oid → Mode → Bool
has_lock locks rel mode = list_any (is_own rel mode) locks

-- the lock of a relation's creator, which is clear at once
abbrev pub new_lock : Oid → ℕ → OwnLock
new_lock rel command = record { rel = rel; mode = AccessExclusive; command = command; clear = true }

-- the lock, which is clear from now on
abbrev pub cleared : OwnLock → OwnLock
cleared lock = record lock { clear = true }

-- the modes that are held clear on a relation
abbrev pub clear_modes : List OwnLock → Oid → List Mode
clear_modes locks rel = map (λ lock. lock.mode) (filter (λ lock. lock.clear && same_oid lock.rel rel) locks)
