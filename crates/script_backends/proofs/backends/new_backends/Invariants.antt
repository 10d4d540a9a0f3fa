use Rattle.script_backends.proofs.NewBackends.{Begins}
use Rattle.by_backend.proofs.LeftLists.{AreLeft}
use Rattle.script_backends.proofs.backends.new_backends.Given as goal

abbrev pub invariant-loop-number : goal.invariant-loop-number
invariant-loop-number l = record {
  begins : Begins l.script l.backends.items l.number;
  left : AreLeft l.script l.number l.lists.items;
}
