use Rattle.std.proofs.Common.{get_or, ap, ◌∙◌}
use Rattle.txn_blocks.proofs.Levels.{first_lent}
use Rattle.txn_blocks.proofs.blocks.TxnBlocks.level_of.Goals as goal

pub returns-in-Some : goal.returns-in-Some
returns-in-Some c = first_lent c.args.c c.args.name.now c.args.self.now.levels c.deref.result.now c.in-Some.at c.index.result.now (search (c.deref.ensures.value, c.self.view_is)) c.in-Some.ensures.place c.in-Some.ensures.within (c.index.ensures ∙ ap (λ blocks. get_or blocks.levels c.in-Some.at c.index.result.now) c.self.view_is)
