use Rattle.cacheless.proofs.Written.Unsent.{rest_second}
use Rattle.cacheless.proofs.ending.rest_of.Goals as goal

pub returns-else-published-cats-clause-rest : goal.returns-else-published-cats-clause-rest
returns-else-published-cats-clause-rest c = rest_second c.args.published c.min.result c.args.cats.now c.args.rels.now c.if-published-cats.false c.min.ensures
