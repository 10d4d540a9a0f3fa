use Rattle.std.proofs.Common.{arith}
use Rattle.catalog_rows.proofs.FirstSlots.{one_off}
use Rattle.catalog_rows.proofs.growing.take_off.Goals as goal

pub loop-turn-preserved : goal.loop-turn-preserved
loop-turn-preserved c = record {
  indexed = c.take_last.ensures.indexed;
  current = λ committed current. c.take_last.ensures.current committed (c.loop-turn.invariant.current committed current);
  slots = one_off _ c.loop-turn.turn _ c.args.slots.now.items c.loop-turn.slots.items c.take_last.new.slots.items (omega (arith, c.args.slots.now.ok)) (omega (arith, c.loop-turn.slots.ok)) c.loop-turn.invariant.slots c.take_last.ensures.slots;
}
