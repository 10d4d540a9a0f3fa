use Rattle.std.proofs.Common.{◌≡◌, map, take}
use Rattle.cacheless.specs.Types.{OpenRelation}
use Rattle.cacheless.proofs.opens.relations_of.Given as goal

abbrev pub invariant-loop-o : goal.invariant-loop-o
invariant-loop-o l = l.rels ≡ map (λ (o : OpenRelation). o.rel) (take l.o-index l.opens)
