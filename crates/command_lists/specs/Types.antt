-- The types by which the crate's other definitions name what they speak of.
pub use Rattle.inval_messages.specs.declared.message.Message.{Message}
pub use Rattle.inval_messages.specs.declared.message.Message.TheVariants.{Cat, Rel}
pub use Rattle.command_lists.specs.declared.start.Place.{Place}
pub use Rattle.command_lists.specs.declared.start.Start.{Start}
