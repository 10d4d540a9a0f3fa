use Rattle.std.proofs.Common.{◌∙◌, arith}
use Rattle.lock_modes.proofs.Room.{room_next}
use Rattle.lock_modes.proofs.lock_table.reserve.Goals as goal

pub loop-grant-preserved : goal.loop-grant-preserved
loop-grant-preserved c = record {
  rels = λ rel. c.reserve.ensures.same rel ∙ c.loop-grant.invariant.rels rel;
  backends = λ b. c.reserve-in-loop-grant.ensures.same b ∙ c.loop-grant.invariant.backends b;
  more_rels = λ rel. let old = c.loop-grant.invariant.more_rels rel in let more = c.reserve.ensures.more rel in omega (arith, old, more);
  more_backends = λ b. let old = c.loop-grant.invariant.more_backends b in let more = c.reserve-in-loop-grant.ensures.more b in omega (arith, old, more);
  room = room_next _ _ _ _ _ _ _ _ c.reserve.ensures.more c.reserve-in-loop-grant.ensures.more c.loop-grant-test.true c.in_ok-reserve.ensures.ok c.in_ok-reserve-2.ensures.ok c.loop-grant.invariant.room;
}
