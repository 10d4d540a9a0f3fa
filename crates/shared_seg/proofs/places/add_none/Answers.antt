use Rattle.std.proofs.Common.{◌∙◌}
use Rattle.history_model.proofs.ListSteps.{filled_next}
use Rattle.shared_seg.proofs.places.add_none.Goals as goal

pub loop-place-preserved : goal.loop-place-preserved
loop-place-preserved c = record { places = c.push_reserved.ensures.items ∙ filled_next _ c.loop-place.place _ _ c.loop-place.invariant.places; room = c.push_reserved.ensures.capacity ∙ c.loop-place.invariant.room }
