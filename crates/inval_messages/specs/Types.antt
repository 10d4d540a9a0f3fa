-- The types by which the crate's other definitions name what they speak of.
pub use Rattle.base_types.specs.declared.ids.Oid.{Oid}
pub use Rattle.base_types.specs.declared.key.CacheId.{CacheId}
pub use Rattle.base_types.specs.declared.key.CacheId.TheVariants.{RelName, RelOid, AttName}
pub use Rattle.base_types.specs.declared.key.KeyPart.{KeyPart}
pub use Rattle.base_types.specs.declared.row.ConKind.{ConKind}
pub use Rattle.base_types.specs.declared.row.Row.{Row}
pub use Rattle.base_types.specs.declared.scan.Purpose.{Purpose}
pub use Rattle.inval_messages.specs.declared.message.Message.{Message}
pub use Rattle.inval_messages.specs.declared.message.Message.TheVariants.{Cat, Rel}
