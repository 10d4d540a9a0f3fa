-- The crate's own types, by which its other definitions name them.
pub use Rattle.base_types.specs.declared.ids.Oid.{Oid}
pub use Rattle.base_types.specs.declared.ids.Xid.{Xid}
pub use Rattle.base_types.specs.declared.mode.Mode.{Mode}
pub use Rattle.base_types.specs.declared.mode.Mode.TheVariants.{AccessShare, RowShare, RowExclusive, ShareUpdateExclusive, Share, ShareRowExclusive, Exclusive, AccessExclusive}
pub use Rattle.base_types.specs.declared.kind.Kind.{Kind}
pub use Rattle.base_types.specs.declared.col_type.ColType.{ColType}
pub use Rattle.base_types.specs.declared.index_state.IndexState.{IndexState}
pub use Rattle.base_types.specs.declared.row.ConKind.{ConKind}
pub use Rattle.base_types.specs.declared.row.Row.{Row}
pub use Rattle.base_types.specs.declared.row_key.RowKey.{RowKey}
pub use Rattle.base_types.specs.declared.scan.Purpose.{Purpose}
pub use Rattle.base_types.specs.declared.field.Field.{Field}
