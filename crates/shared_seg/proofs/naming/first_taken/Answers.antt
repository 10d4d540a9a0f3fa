use Rattle.shared_seg.proofs.NewNames.{taken_at}
use Rattle.shared_seg.proofs.naming.first_taken.Goals as goal

pub returns-in-Some : goal.returns-in-Some
returns-in-Some c = taken_at _ _ _ c.loop-item.item-index c.item-item.result _ c.loop-item-test.true c.item-item.is c.loop-item.invariant c.in-Some.ensures
