use Rattle.std.proofs.Common.{◌∙◌, arith}
use Rattle.command_lists.specs.Lists.{all_lists}
use Rattle.history_ledger.proofs.Parts.{unsent_first, unsent_second}
use Rattle.history_ledger.proofs.own.unsent_after.Goals as goal

pub returns-then-published-cats-clause-rest : goal.returns-then-published-cats-clause-rest
returns-then-published-cats-clause-rest c = c.rest_of.ensures ∙ unsent_first c.args.published (all_lists c.args.lists.now.lists) c.cats_from-cats.result.now c.cats_from-cats.ensures (omega (arith, c.if-published-cats.true))

pub returns-else-published-cats-clause-rest : goal.returns-else-published-cats-clause-rest
returns-else-published-cats-clause-rest c = c.rest_of-else-published-cats.ensures ∙ unsent_second c.args.published (all_lists c.args.lists.now.lists) c.cats_from-cats.result.now c.rels_from-rels.result.now c.cats_from-cats.ensures c.rels_from-rels.ensures (omega (arith, c.if-published-cats.false))
