-- The types by which the crate's other definitions name what they speak of.
pub use Rattle.base_types.specs.declared.ids.Oid.{Oid}
pub use Rattle.base_types.specs.declared.mode.Mode.{Mode}
pub use Rattle.base_types.specs.declared.mode.Mode.TheVariants.{AccessShare, ShareUpdateExclusive, Share, ShareRowExclusive, AccessExclusive}
pub use Rattle.base_types.specs.declared.kind.Kind.{Kind}
pub use Rattle.base_types.specs.declared.kind.Kind.TheVariants.{Table, Index}
pub use Rattle.base_types.specs.declared.field.Field.{Field}
pub use Rattle.base_types.specs.declared.col_type.ColType.{ColType}
pub use Rattle.base_types.specs.declared.row.Row.{Row}
pub use Rattle.base_types.specs.declared.change.Change.{Change}
pub use Rattle.base_types.specs.declared.change.Change.TheVariants.{Insert, Replace, Delete}
pub use Rattle.base_types.specs.declared.scan.Purpose.{Purpose}
pub use Rattle.base_types.specs.declared.command.Command.{Command}
pub use Rattle.base_types.specs.declared.command.NewColumn.{NewColumn}
pub use Rattle.base_types.specs.Scenario.{Scenario}
pub use Rattle.command_answers.specs.declared.error.CommandError.{CommandError}
pub use Rattle.ddl_effect.specs.declared.open_relation.OpenRelation.{OpenRelation}
pub use Rattle.ddl_effect.specs.declared.draft.Draft.{Draft}
pub use Rattle.ddl_effect.specs.declared.told.Told.{Told}
pub use Rattle.ddl_effect.specs.declared.foreign_key.ForeignKey.{ForeignKey}
pub use Rattle.ddl_effect.specs.declared.alteration.Alteration.{Alteration}
pub use Rattle.ddl_effect.specs.declared.want.Want.{Want}
pub use Rattle.ddl_effect.specs.declared.facts.Facts.{Facts}
pub use Rattle.ddl_effect.specs.declared.facts.EffectRefusal.{EffectRefusal}
