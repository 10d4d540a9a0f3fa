use Rattle.std.proofs.Common.{◌≡◌, map, take}
use Rattle.cacheless.specs.Session.{opening_of}
use Rattle.cacheless.proofs.opens.openings_of.Given as goal

abbrev pub invariant-loop-o : goal.invariant-loop-o
invariant-loop-o l = l.openings ≡ map opening_of (take l.o-index l.opens)
