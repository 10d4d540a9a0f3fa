use Rattle.std.proofs.Common.{◌≡◌, fold, take}
use Rattle.base_types.specs.Scans.{goes_before, IsInOrder}
use Rattle.segment_rows.specs.Words.{given_after}
use Rattle.segment_rows.proofs.covering.change_rows.Given as goal

abbrev pub invariant-loop-item : goal.invariant-loop-item
invariant-loop-item l = record {
  order : IsInOrder (goes_before l.scan) l.rows.items;
  is : l.rows.items ≡ fold (given_after l.scan) l.fn.rows.items (take l.item-index l.items);
}
