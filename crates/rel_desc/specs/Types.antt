-- The types of this crate and of base_types, by which its other definitions name them.
pub use Rattle.base_types.specs.declared.field.Field.{Field}
pub use Rattle.base_types.specs.declared.ids.Oid.{Oid}
pub use Rattle.base_types.specs.declared.kind.Kind.{Kind}
pub use Rattle.base_types.specs.declared.row.Row.{Row}
pub use Rattle.base_types.specs.declared.scan.Purpose.{Purpose}
pub use Rattle.rel_desc.specs.declared.part.FieldValue.{FieldValue}
pub use Rattle.rel_desc.specs.declared.part.Part.{Part}
