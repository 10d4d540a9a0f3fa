-- What blocks come to, by computation.
use Rattle.std.proofs.Common.{◌≡◌, None, Some, refl}
use Rattle.base_types.specs.declared.command.Command.TheVariants as commands
use Rattle.command_answers.specs.declared.error.CommandError.TheVariants as errors
use Rattle.txn_blocks.specs.Blocks.{Failed, no_block, innermost, refused_in, blocks_well, blocks_badly}

-- a second `begin` does nothing
pub begun_twice : blocks_well 4 commands.Begin (blocks_well 2 commands.Begin no_block) ≡ blocks_well 2 commands.Begin no_block
begun_twice = refl

-- what a failed block takes back begins with its first command
pub failed_from_first : innermost 5 (blocks_badly (blocks_well 2 commands.Begin no_block)).levels ≡ 2
failed_from_first = refl

-- only the end of a failed block is admitted
pub failed_block_refuses : refused_in Failed commands.Begin ≡ Some errors.BlockFailed
failed_block_refuses = refl

pub failed_block_commits : refused_in Failed commands.Commit ≡ None
failed_block_commits = refl

-- outside a block `commit` and `rollback` do nothing
pub commit_outside : blocks_well 3 commands.Commit no_block ≡ no_block
commit_outside = refl
