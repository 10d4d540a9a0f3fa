-- The types of this crate and of base_types, by which its other definitions name them.
pub use Rattle.base_types.specs.declared.ids.Oid.{Oid}
pub use Rattle.base_types.specs.declared.mode.Mode.{Mode}
pub use Rattle.base_types.specs.declared.kind.Kind.{Kind}
pub use Rattle.base_types.specs.declared.col_type.ColType.{ColType}
pub use Rattle.base_types.specs.declared.index_state.IndexState.{IndexState}
pub use Rattle.base_types.specs.declared.row.ConKind.{ConKind}
pub use Rattle.base_types.specs.declared.row.Row.{Row}
pub use Rattle.base_types.specs.declared.row_key.RowKey.{RowKey}
pub use Rattle.base_types.specs.declared.scan.Purpose.{Purpose}
pub use Rattle.base_types.specs.declared.name_fault.NameFault.{NameFault}
pub use Rattle.event_kinds.specs.declared.entry.Item.{Item}
pub use Rattle.event_kinds.specs.declared.entry.Event.{Event}
pub use Rattle.event_kinds.specs.declared.entry.Entry.{Entry}
pub use Rattle.event_kinds.specs.declared.entry.Line.{Line}
pub use Rattle.event_kinds.specs.declared.fault.EntryFault.{EntryFault}
