use Rattle.std.proofs.Common.{◌≡◌, ◌++◌, take}
use Rattle.catalog_rows.specs.Index.{IsIndexed, StaysCurrent, AreNoted}
use Rattle.catalog_rows.specs.Slots.{new_slots}
use Rattle.catalog_rows.proofs.growing.grow_each.Given as goal

abbrev pub invariant-loop-change : goal.invariant-loop-change
invariant-loop-change l = record {
  indexed : IsIndexed l.slots.items l.lists;
  current : StaysCurrent l.fn.slots.items l.fn.lists.indexes l.slots.items l.lists.indexes;
  slots : l.slots.items ≡ l.fn.slots.items ++ new_slots l.stamp (take l.change-index l.changes);
  noted : AreNoted l.committed l.stamp (take l.change-index l.changes) l.slots.items l.lists;
}
