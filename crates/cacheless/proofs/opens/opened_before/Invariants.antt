use Rattle.std.proofs.Common.{◌≡◌, take}
use Rattle.ddl_effect.specs.Opens.{opens_before}
use Rattle.cacheless.proofs.opens.opened_before.Given as goal

abbrev pub invariant-loop-o : goal.invariant-loop-o
invariant-loop-o l = l.left ≡ opens_before l.fn.from (take l.o-index l.opens)
