use Rattle.std.proofs.Common.{◌∙◌}
use Rattle.shared_seg.proofs.Queue.{waits_same}
use Rattle.shared_seg.proofs.shared.SharedSeg.waits.Goals as goal

pub returns : goal.returns
returns c = rw (← c.self.view_is) (c.has.ensures ∙ waits_same _ _ _ c.args.b c.self.invariant.queued)
