use Rattle.std.proofs.Common.{◌∙◌, []}
use Rattle.history_model.proofs.ListSteps.{map_next}
use Rattle.cacheless.specs.Session.{opening_of}
use Rattle.cacheless.proofs.opens.openings_of.Goals as goal

pub loop-o-preserved : goal.loop-o-preserved
loop-o-preserved c = c.in_ok-push.ensures.ok ∙ map_next opening_of [] c.args.opens.now c.loop-o.o-index c.o-item.result _ c.loop-o.openings c.loop-o-test.true c.o-item.is c.loop-o.invariant
