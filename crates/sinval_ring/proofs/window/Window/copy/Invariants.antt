use Rattle.std.proofs.Common.{◌≡◌, take, drop}
use Rattle.sinval_ring.proofs.window.Window.copy.Given as goal

abbrev pub invariant-loop-i : goal.invariant-loop-i
invariant-loop-i l = l.into.items ≡ take l.i (drop l.from l.self-inside.buffer.items)
