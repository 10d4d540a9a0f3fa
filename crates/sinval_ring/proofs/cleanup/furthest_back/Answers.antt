use Rattle.std.proofs.Common.{◌∙◌, sym}
use Rattle.sinval_ring.proofs.Sweeping.{called_next}
use Rattle.sinval_ring.proofs.cleanup.furthest_back.Goals as goal

pub loop-i-preserved : goal.loop-i-preserved
loop-i-preserved c = called_next _ _ c.args.readers.now c.loop-i.i _ c.loop-i-test.true c.loop-i.invariant ∙ sym c.after-call.ensures
