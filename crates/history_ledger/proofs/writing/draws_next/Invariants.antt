use Rattle.std.proofs.Common.{◌≡◌, ◌≤◌, ◌+◌, drop}
use Rattle.std.specs.List.{flat_map}
use Rattle.history_model.specs.Drawn.{drawn_by}
use Rattle.history_model.specs.Changing.{are_from}
use Rattle.history_ledger.proofs.writing.draws_next.Given as goal

abbrev pub invariant-loop-item : goal.invariant-loop-item
invariant-loop-item l = record {
  rest : are_from l.next (flat_map drawn_by (drop l.item-index l.items)) ≡ are_from l.fn.next (flat_map drawn_by l.items);
  low : l.next ≤ l.fn.next + l.item-index;
}
