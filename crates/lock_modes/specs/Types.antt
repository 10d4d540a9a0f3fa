-- The types by which the crate's other definitions name what they speak of.
pub use Rattle.base_types.specs.declared.ids.Oid.{Oid}
pub use Rattle.base_types.specs.declared.mode.Mode.{Mode}
pub use Rattle.lock_modes.specs.declared.grant.Grant.{Grant}
pub use Rattle.lock_modes.specs.declared.granted.Granted.{Granted}
pub use Rattle.lock_modes.specs.declared.granted.Granted.TheVariants.{New, Held}
pub use Rattle.lock_modes.specs.declared.granted.LockRefusal.{LockRefusal}
pub use Rattle.lock_modes.specs.declared.granted.LockRefusal.TheVariants.{Conflict, NoMemory}
pub use Rattle.lock_modes.specs.declared.own_lock.OwnLock.{OwnLock}
pub use Rattle.lock_modes.specs.declared.change.Released.{Released}
pub use Rattle.lock_modes.specs.declared.change.LockChange.{LockChange}
