use Rattle.std.proofs.Common.{◌≡◌, ◌-◌, take, vec_len}
use Rattle.catalog_rows.specs.Index.{IsIndexed, StaysCurrent}
use Rattle.catalog_rows.proofs.growing.take_off.Given as goal

abbrev pub invariant-loop-turn : goal.invariant-loop-turn
invariant-loop-turn l = record {
  indexed : IsIndexed l.slots.items l.lists;
  current : StaysCurrent l.fn.slots.items l.fn.lists.indexes l.slots.items l.lists.indexes;
  slots : l.slots.items ≡ take (vec_len l.fn.slots - l.turn) l.fn.slots.items;
}
