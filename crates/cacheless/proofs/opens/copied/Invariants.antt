use Rattle.std.proofs.Common.{◌≡◌, take}
use Rattle.cacheless.proofs.opens.copied.Given as goal

abbrev pub invariant-loop-o : goal.invariant-loop-o
invariant-loop-o l = l.copy ≡ take l.o-index l.opens
