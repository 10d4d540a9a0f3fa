use Rattle.std.proofs.Common.{None, ◌∷◌, take}
use Rattle.catalog_rows.specs.Store.{is_ended, end_if}
use Rattle.catalog_rows.specs.Slots.{Settles, slot_changed}
use Rattle.catalog_rows.proofs.writing.end_listed.Given as goal

abbrev pub invariant-loop-number : goal.invariant-loop-number
invariant-loop-number l = Settles (slot_changed (end_if (is_ended l.committed l.stamp l.change) l.stamp)) (take l.number-index l.list) (None ∷ l.fn.slots) (None ∷ l.slots)
