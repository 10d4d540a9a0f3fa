-- The types by which the crate's other definitions name what they speak of.
pub use Rattle.base_types.specs.declared.ids.Xid.{Xid}
pub use Rattle.row_visibility.specs.declared.version.Stamp.{Stamp}
pub use Rattle.row_visibility.specs.declared.version.Version.{Version}
pub use Rattle.row_visibility.specs.declared.version.Reader.{Reader}
pub use Rattle.row_visibility.specs.declared.seen.StampState.{StampState}
pub use Rattle.row_visibility.specs.declared.seen.StampState.TheVariants.{Running, Committed}
