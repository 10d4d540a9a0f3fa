-- The types by which the crate's other definitions name what they speak of.
pub use Rattle.base_types.specs.declared.command.Command.{Command}
pub use Rattle.command_answers.specs.declared.error.CommandError.{CommandError}
pub use Rattle.txn_blocks.specs.declared.cause.BlockCause.{BlockCause}
pub use Rattle.txn_blocks.specs.declared.blocks.State.{State}
pub use Rattle.txn_blocks.specs.declared.transaction.RunningTransaction.{RunningTransaction}
