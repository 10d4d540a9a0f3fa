use Rattle.txn_blocks.proofs.Levels.{innermost_lent}
use Rattle.txn_blocks.proofs.blocks.TxnBlocks.level_from.Goals as goal

pub returns-in-Some : goal.returns-in-Some
returns-in-Some c = innermost_lent c.args.c c.args.self.now.levels c.deref.result.now c.in-Some.level.now (search (c.deref.ensures.value, c.self.view_is)) c.in-Some.ensures.value
