use Rattle.std.proofs.Common.{◌∙◌, ap}
use Rattle.inval_messages.specs.Lists.{rest_of_parts}
use Rattle.cacheless.specs.State.{published_at}
use Rattle.cacheless.proofs.Written.Unsent.{unpublished_is}
use Rattle.cacheless.proofs.progress.Progress.unpublished.Goals as goal

pub returns-clause-next : goal.returns-clause-next
returns-clause-next c = unpublished_is c.args.self.now (published_at c.args.self.now) c.cats_from.result.now c.rels_from.result.now _ _ c.cats_from.ensures c.rels_from.ensures (c.rest_of-rest.ensures.rest ∙ ap (λ n. rest_of_parts n c.cats_from.result.now c.rels_from.result.now) c.published.ensures) c.min.ensures
