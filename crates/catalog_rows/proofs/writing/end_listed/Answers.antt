use Rattle.std.proofs.Common.{None, ◌∷◌, get_or, refl}
use Rattle.catalog_rows.specs.Store.{is_ended, end_if}
use Rattle.catalog_rows.specs.Slots.{slot_changed}
use Rattle.catalog_rows.proofs.SlotLists.{list_next}
use Rattle.catalog_rows.proofs.writing.end_listed.Goals as goal

pub loop-number-preserved : goal.loop-number-preserved
loop-number-preserved c =
    list_next (slot_changed (end_if (is_ended c.args.committed.now c.args.stamp c.args.change.now) c.args.stamp)) c.args.list.now c.loop-number.number-index (get_or c.args.list.now c.loop-number.number-index 0) 0
    (None ∷ c.args.slots.now) (None ∷ c.loop-number.slots) (None ∷ c.end_one.new.slots) c.loop-number-test.true refl c.loop-number.invariant c.end_one.ensures
