use Rattle.std.proofs.Common.{◌∙◌, length, arith}
use Rattle.command_lists.specs.Lists.{all_lists}
use Rattle.history_ledger.proofs.Parts.{all_sent, some_left, not_past}
use Rattle.history_ledger.proofs.own.is_sent.Goals as goal

pub returns-then-published-cats : goal.returns-then-published-cats
returns-then-published-cats c = all_sent c.args.published (all_lists c.args.lists.now.lists) c.cats_from-cats.result.now c.rels_from.result.now c.cats_from-cats.ensures c.rels_from.ensures (omega (arith, c.if-published-cats.true))

pub returns-else-published-cats : goal.returns-else-published-cats
returns-else-published-cats c = not_past (length c.cats_from-cats.result.now) c.args.published c.if-published-cats.false ∙ some_left c.args.published (all_lists c.args.lists.now.lists) c.cats_from-cats.result.now c.cats_from-cats.ensures c.if-published-cats.false
