-- The types of this crate and of base_types, by which its other definitions name them.
pub use Rattle.base_types.specs.declared.col_type.ColType.{ColType}
pub use Rattle.base_types.specs.declared.ids.Oid.{Oid}
pub use Rattle.base_types.specs.declared.kind.Kind.{Kind}
pub use Rattle.command_answers.specs.declared.answer.Answer.{Answer}
pub use Rattle.command_answers.specs.declared.answer.Column.{Column}
pub use Rattle.command_answers.specs.declared.answer.Shown.{Shown}
pub use Rattle.command_answers.specs.declared.error.CommandError.{CommandError}
