use Rattle.std.proofs.Common.{◌≡◌, ◌++◌, replicate, vec_capacity}
use Rattle.sinval_ring.specs.Readers.{Inactive}
use Rattle.sinval_ring.proofs.ring.add_inactive.Given as goal

abbrev pub invariant-loop-i : goal.invariant-loop-i
invariant-loop-i l = record {
  readers : l.readers.items ≡ l.fn.readers.items ++ replicate l.i Inactive;
  room : vec_capacity l.readers ≡ vec_capacity l.fn.readers;
}
