use Rattle.std.proofs.Common.{◌∙◌, []}
use Rattle.history_model.proofs.ListSteps.{map_next}
use Rattle.cacheless.specs.Types.{OpenRelation}
use Rattle.cacheless.proofs.opens.relations_of.Goals as goal

pub loop-o-preserved : goal.loop-o-preserved
loop-o-preserved c = c.in_ok-push.ensures.ok ∙ map_next (λ (o : OpenRelation). o.rel) [] c.args.opens.now c.loop-o.o-index c.o-item.result _ c.loop-o.rels c.loop-o-test.true c.o-item.is c.loop-o.invariant
