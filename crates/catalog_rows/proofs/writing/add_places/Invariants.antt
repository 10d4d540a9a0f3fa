use Rattle.std.proofs.Common.{◌≡◌, ◌++◌, false, replicate, vec_capacity}
use Rattle.catalog_rows.proofs.writing.add_places.Given as goal

abbrev pub invariant-loop-place : goal.invariant-loop-place
invariant-loop-place l = record {
  places : l.committed.items ≡ l.fn.committed.items ++ replicate l.place false;
  room : vec_capacity l.committed ≡ vec_capacity l.fn.committed;
}
