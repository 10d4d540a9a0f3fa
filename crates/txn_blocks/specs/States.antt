-- Where a session is, and the error for the cause by which its blocks refuse a command.
use Rattle.command_answers.specs.declared.error.CommandError.TheVariants as errors
use Rattle.txn_blocks.specs.Blocks.{Block, Outside, Inside, Failed}
use Rattle.txn_blocks.specs.Types.{CommandError, BlockCause, State}
use Rattle.txn_blocks.specs.declared.cause.BlockCause.TheVariants as causes
use Rattle.txn_blocks.specs.declared.blocks.State.TheVariants as states

-- outside a block, in one, or in one that has failed
abbrev pub block_in : State → Block
block_in states.Outside = Outside
block_in states.Inside = Inside
block_in states.Failed = Failed

-- the error that is shown for a cause
abbrev pub error_of : BlockCause → CommandError
error_of causes.Failed = errors.BlockFailed
error_of causes.NoBlock = errors.NoBlock
error_of (causes.NoSavepoint name) = errors.NoSavepoint name
