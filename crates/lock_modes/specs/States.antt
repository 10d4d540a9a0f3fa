-- Whether a backend's own locks are clear.
use Rattle.std.specs.Prelude.{Bool, Option, List, if◌then◌else◌}
use Rattle.std.specs.List.{find}
use Rattle.std.specs.Option.{option_map}
use Rattle.lock_modes.specs.Types.{Oid, Mode, OwnLock}
use Rattle.lock_modes.specs.Own.{is_own, cleared}

-- whether the mode is clear, if it is held on the relation
abbrev pub state_of : List OwnLock → Oid → Mode → Option Bool
state_of locks rel mode = option_map (λ lock. lock.clear) (find (is_own rel mode) locks)

-- a lock, which is clear from now on if it is of the mode on the relation
abbrev pub cleared_if : Oid → Mode → OwnLock → OwnLock
cleared_if rel mode lock = if is_own rel mode lock then cleared lock else lock
