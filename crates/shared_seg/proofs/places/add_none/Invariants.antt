use Rattle.std.proofs.Common.{◌≡◌, ◌++◌, replicate, vec_capacity}
use Rattle.shared_seg.proofs.places.add_none.Given as goal

abbrev pub invariant-loop-place : goal.invariant-loop-place
invariant-loop-place l = record {
  places : l.promised.items ≡ l.fn.promised.items ++ replicate l.place 0;
  room : vec_capacity l.promised ≡ vec_capacity l.fn.promised;
}
