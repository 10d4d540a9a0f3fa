use Rattle.std.proofs.Common.{◌≡◌, ◌++◌, length, take, drop, fold}
use Rattle.catalog_rows.specs.Slots.{new_slots, after_slots}
use Rattle.catalog_rows.specs.Index.{IsIndexed, IsCurrent, AreNoted}
use Rattle.catalog_rows.proofs.writing.end_each.Given as goal

abbrev pub invariant-loop-change : goal.invariant-loop-change
invariant-loop-change l = record {
  count : l.count ≡ length (fold (after_slots l.committed l.stamp) (take l.first l.fn.slots) (take l.change-index l.changes));
  slots : l.slots ≡ fold (after_slots l.committed l.stamp) (take l.first l.fn.slots) (take l.change-index l.changes) ++ new_slots l.stamp (drop l.change-index l.changes);
  indexed : IsIndexed l.slots l.lists;
  current : IsCurrent l.committed l.slots l.lists.indexes;
  noted : AreNoted l.committed l.stamp (drop l.change-index l.changes) l.slots l.lists;
}
