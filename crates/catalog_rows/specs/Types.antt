-- The types by which the crate's other definitions name what they speak of.
pub use Rattle.base_types.specs.declared.ids.Xid.{Xid}
pub use Rattle.base_types.specs.declared.ids.Oid.{Oid}
pub use Rattle.base_types.specs.declared.row.Row.{Row}
pub use Rattle.base_types.specs.declared.row_key.RowKey.{RowKey}
pub use Rattle.base_types.specs.declared.scan.Purpose.{Purpose}
pub use Rattle.base_types.specs.declared.change.Change.{Change}
pub use Rattle.base_types.specs.declared.change.Change.TheVariants.{Insert, Replace, Delete}
pub use Rattle.row_visibility.specs.declared.version.Stamp.{Stamp}
pub use Rattle.row_visibility.specs.declared.version.Version.{Version}
pub use Rattle.row_visibility.specs.declared.version.Reader.{Reader}
pub use Rattle.row_visibility.specs.declared.clash.Clash.{Clash}
