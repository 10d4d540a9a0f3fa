-- The crate's own types, by which its other definitions name them.
pub use Rattle.base_types.specs.declared.ids.Oid.{Oid}
pub use Rattle.base_types.specs.declared.ids.Xid.{Xid}
pub use Rattle.base_types.specs.declared.row.Row.{Row}
pub use Rattle.base_types.specs.declared.row_key.RowKey.{RowKey}
pub use Rattle.base_types.specs.declared.change.Change.{Change}
pub use Rattle.base_types.specs.declared.change.Change.TheVariants.{Insert, Replace, Delete}
pub use Rattle.base_types.specs.declared.scan.Purpose.{Purpose}
pub use Rattle.base_types.specs.declared.scan.Purpose.TheVariants.{RelName}
pub use Rattle.event_kinds.specs.declared.entry.Entry.{Entry}
pub use Rattle.event_kinds.specs.declared.entry.Event.{Event}
pub use Rattle.event_kinds.specs.declared.entry.Event.TheVariants.{Write, Visible, Gone}
pub use Rattle.event_kinds.specs.declared.entry.Item.{Item}
pub use Rattle.event_kinds.specs.declared.entry.Item.TheVariants.{Add, Put, Remove, Force}
pub use Rattle.row_visibility.specs.declared.clash.Clash.{Clash}
pub use Rattle.row_visibility.specs.declared.version.Reader.{Reader}
pub use Rattle.row_visibility.specs.declared.version.Stamp.{Stamp}
pub use Rattle.row_visibility.specs.declared.version.Version.{Version}
pub use Rattle.inval_messages.specs.declared.message.Message.{Message}
pub use Rattle.txn_blocks.specs.declared.transaction.RunningTransaction.{RunningTransaction}
