-- The crate's own types, by which its other definitions name them.
pub use Rattle.base_types.specs.declared.ids.Oid.{Oid}
pub use Rattle.base_types.specs.declared.ids.Xid.{Xid}
pub use Rattle.base_types.specs.declared.row.Row.{Row}
pub use Rattle.base_types.specs.declared.row.Row.TheVariants.{Class}
pub use Rattle.base_types.specs.declared.row_key.RowKey.{RowKey}
pub use Rattle.base_types.specs.declared.scan.Purpose.TheVariants.{RelName}
pub use Rattle.event_kinds.specs.declared.entry.Entry.{Entry}
pub use Rattle.event_kinds.specs.declared.entry.Event.{Event}
pub use Rattle.event_kinds.specs.declared.entry.Event.TheVariants.{Start, Look, Fetch, FetchReset, LockOk, LockHeld, Unlock, Scan, Write, ClashRow, ClashRunning, Publish, Release, Gone, Stop}
pub use Rattle.event_kinds.specs.declared.entry.Item.{Item}
pub use Rattle.event_kinds.specs.declared.entry.Item.TheVariants.{Add, Put, Remove, Force}
pub use Rattle.row_visibility.specs.declared.version.Reader.{Reader}
pub use Rattle.lock_modes.specs.declared.grant.Grant.{Grant}
pub use Rattle.inval_messages.specs.declared.message.Message.{Message}
pub use Rattle.inval_messages.specs.Lists.{Written}
pub use Rattle.txn_blocks.specs.declared.transaction.RunningTransaction.{RunningTransaction}
pub use Rattle.history_model.specs.declared.life.Life.{Life}
pub use Rattle.history_model.specs.declared.life.Life.TheVariants.{Unstarted, Alive, Stopped}
