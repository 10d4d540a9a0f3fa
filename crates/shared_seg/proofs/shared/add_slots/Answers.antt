use Rattle.std.proofs.Common.{◌∙◌}
use Rattle.history_model.proofs.ListSteps.{filled_next}
use Rattle.shared_seg.proofs.shared.add_slots.Goals as goal

pub loop-slot-preserved : goal.loop-slot-preserved
loop-slot-preserved c = record { slots = c.push_reserved.ensures.items ∙ filled_next _ c.loop-slot.slot _ _ c.loop-slot.invariant.slots; room = c.push_reserved.ensures.capacity ∙ c.loop-slot.invariant.room }
