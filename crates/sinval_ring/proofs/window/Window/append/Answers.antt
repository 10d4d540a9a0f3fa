use Rattle.sinval_ring.proofs.Windows.{window_keeps}
use Rattle.sinval_ring.proofs.window.Window.append.Goals as goal

pub invariant_of-self : goal.invariant_of-self
invariant_of-self c = window_keeps c.self.inside.buffer c.extend_from_slice.new.self c.self.inside.log.items _ c.args.messages.now c.self.invariant c.extend_from_slice.ensures c.extend.ensures
