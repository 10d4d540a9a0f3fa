use Rattle.std.proofs.Common.{◌≡◌, drop, length, map}
use Rattle.history_model.specs.Covered.{counted_for, same_rows}
use Rattle.segment_rows.proofs.covering.same_rows.Given as goal

abbrev pub invariant-loop-at : goal.invariant-loop-at
invariant-loop-at l = record {
  long : length l.given ≡ length l.others;
  rest : same_rows (map (counted_for l.scan) (drop l.at l.given)) (map (counted_for l.scan) (drop l.at l.others)) ≡ same_rows (map (counted_for l.scan) l.given) (map (counted_for l.scan) l.others);
}
