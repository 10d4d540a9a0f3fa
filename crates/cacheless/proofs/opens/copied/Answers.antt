use Rattle.std.proofs.Common.{◌∙◌}
use Rattle.history_model.proofs.ListSteps.{take_next}
use Rattle.cacheless.proofs.opens.copied.Goals as goal

pub loop-o-preserved : goal.loop-o-preserved
loop-o-preserved c = c.in_ok-push.ensures.ok ∙ take_next c.args.opens.now c.loop-o.o-index c.o-item.result _ c.loop-o.copy c.loop-o-test.true c.o-item.is c.loop-o.invariant
