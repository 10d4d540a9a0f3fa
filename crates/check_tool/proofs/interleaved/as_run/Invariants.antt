use Rattle.std.proofs.Common.{take}
use Rattle.check_tool.proofs.Interleavings.{AreTold}
use Rattle.check_tool.proofs.interleaved.as_run.Given as goal

abbrev pub invariant-loop-e : goal.invariant-loop-e
invariant-loop-e l = AreTold l.script (take l.e-index l.entries) l.stopped.items
