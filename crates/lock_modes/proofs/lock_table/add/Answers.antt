use Rattle.lock_modes.proofs.Room.{room_taken}
use Rattle.lock_modes.proofs.Adding.{held_next, holds_next}
use Rattle.lock_modes.proofs.lock_table.add.Goals as goal

pub loop-grant-preserved : goal.loop-grant-preserved
loop-grant-preserved c = record {
  all = held_next _ _ _ _ _ _ c.loop-grant-test.true c.loop-grant.invariant.all c.note.ensures;
  holds = holds_next c.loop-grant.by_rel c.loop-grant.by_backend _ _ _ _ _ c.push.ensures.grants c.push-in-loop-grant.ensures.grants c.note.ensures c.loop-grant.invariant.holds;
  room = room_taken _ _ _ _ _ _ _ _ c.push.ensures.room c.push-in-loop-grant.ensures.room c.loop-grant.invariant.room;
}
