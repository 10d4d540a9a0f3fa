-- The types by which the crate's other definitions name what they speak of.
pub use Rattle.base_types.specs.declared.ids.Oid.{Oid}
pub use Rattle.base_types.specs.declared.key.CacheId.{CacheId}
pub use Rattle.base_types.specs.declared.key.CacheId.TheVariants.{RelName, RelOid, AttName}
pub use Rattle.base_types.specs.declared.key.KeyPart.{KeyPart}
pub use Rattle.base_types.specs.declared.row.Row.{Row}
pub use Rattle.base_types.specs.declared.scan.Purpose.{Purpose}
pub use Rattle.inval_messages.specs.declared.message.Message.{Message}
pub use Rattle.inval_messages.specs.declared.message.Message.TheVariants.{Cat, Rel}
pub use Rattle.cat_cache.specs.declared.cat_cache.CatCache.{CatCache}
pub use Rattle.rel_cache.specs.declared.rel_cache.RelCache.{RelCache}
pub use Rattle.rel_cache.specs.Descriptors.{Held}
pub use Rattle.local_caches.specs.declared.home.Lookup.{Lookup}
pub use Rattle.local_caches.specs.declared.home.Home.{Home}
