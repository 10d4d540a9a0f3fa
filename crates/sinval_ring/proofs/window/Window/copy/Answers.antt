use Rattle.std.proofs.Common.{◌-◌, sym}
use Rattle.sinval_ring.proofs.Windows.{copied_next}
use Rattle.sinval_ring.proofs.window.Window.copy.Goals as goal

pub loop-i-preserved : goal.loop-i-preserved
loop-i-preserved c = copied_next c.self.inside.buffer.items c.loop-i.into.items c.push.new.self.items (c.len.result - c.args.behind) c.loop-i.i c.in-Some.message.now c.loop-i.invariant (sym (rw c.in-Some.is at c.get.ensures)) c.push.ensures.items
