-- The locks that a backend holds, and whether each is clear.
use Rattle.std.specs.Prelude.{ℕ, false, not, List, [], ◌∷◌, ◌++◌, nat_lt, filter}
use Rattle.std.specs.List.{flat_map}
use Rattle.base_types.specs.declared.row.Row.TheVariants.{Class}
use Rattle.event_kinds.specs.declared.entry.Event.TheVariants.{LockOk, Unlock, Write, Release}
use Rattle.event_kinds.specs.declared.entry.Item.TheVariants.{Add}
use Rattle.lock_modes.specs.declared.grant.Grant.{Grant}
use Rattle.lock_modes.specs.Own.{is_own, new_lock}
use Rattle.cacheless.specs.Types.{OwnLock, Item, Event}

-- the grant that a lock of a backend is
abbrev pub grant_of : ℕ → OwnLock → Grant
grant_of b lock = record { backend = b; command = lock.command; rel = lock.rel; mode = lock.mode }

-- the lock on a new relation, which is clear at once
abbrev pub locked_by : ℕ → Item → List OwnLock
locked_by command (Add (Class oid name kind fill)) = new_lock oid command ∷ []
locked_by command item = []

-- the locks after an event of the backend
abbrev pub locks_by : ℕ → Event → List OwnLock → List OwnLock
locks_by command (LockOk rel mode) old = old ++ record { rel = rel; mode = mode; command = command; clear = false } ∷ []
locks_by command (Write xid items) old = old ++ flat_map (locked_by command) items
locks_by command (Unlock rel mode) old = filter (λ lock. not (is_own rel mode lock)) old
locks_by command (Release from) old = filter (λ lock. nat_lt lock.command from) old
locks_by command event old = old
