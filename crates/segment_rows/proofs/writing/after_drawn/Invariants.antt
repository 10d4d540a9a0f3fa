use Rattle.std.proofs.Common.{◌≡◌, ◌+◌, true, length, drop}
use Rattle.std.specs.List.{flat_map}
use Rattle.history_model.specs.Drawn.{drawn_by}
use Rattle.history_model.specs.Changing.{are_from}
use Rattle.segment_rows.proofs.writing.after_drawn.Given as goal

abbrev pub invariant-loop-item : goal.invariant-loop-item
invariant-loop-item l = record {
  rest : are_from l.after (flat_map drawn_by (drop l.item-index l.items)) ≡ true;
  count : l.after + length (flat_map drawn_by (drop l.item-index l.items)) ≡ l.fn.next + length (flat_map drawn_by l.items);
}
