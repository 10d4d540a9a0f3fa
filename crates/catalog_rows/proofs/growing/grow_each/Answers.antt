use Rattle.std.proofs.Common.{◌∙◌, arith}
use Rattle.catalog_rows.proofs.FirstSlots.{first_kept}
use Rattle.catalog_rows.proofs.Grown.{grown_slots, grown_noted}
use Rattle.catalog_rows.proofs.growing.grow_each.Goals as goal

pub loop-change-preserved : goal.loop-change-preserved
loop-change-preserved c = record {
  indexed = c.in_ok-grow_by.ensures.indexed;
  current = λ committed current. c.in_ok-grow_by.ensures.current committed (c.loop-change.invariant.current committed current);
  slots = grown_slots c.args.stamp c.args.changes.now c.loop-change.change-index c.change-item.result c.args.slots.now.items c.loop-change.slots.items c.grow_by.new.slots.items c.loop-change-test.true c.change-item.is c.loop-change.invariant.slots
      c.in_ok-grow_by.ensures.ok;
  noted = grown_noted c.args.committed.now c.args.stamp c.args.changes.now c.loop-change.change-index c.change-item.result c.loop-change.slots.items c.grow_by.new.slots.items c.loop-change.lists c.grow_by.new.lists c.loop-change-test.true c.change-item.is
      c.loop-change.invariant.noted c.in_ok-grow_by.ensures.ok c.in_ok-grow_by.ensures.indexed c.in_ok-grow_by.ensures.own c.in_ok-grow_by.ensures.noted;
}

pub grow_by-requires-clause-current : goal.grow_by-requires-clause-current
grow_by-requires-clause-current c = c.loop-change.invariant.current c.args.committed.now c.requires.current

pub returns-in_err-grow_by-clause-current : goal.returns-in_err-grow_by-clause-current
returns-in_err-grow_by-clause-current c = λ committed current. c.grow_by.ensures.current committed (c.loop-change.invariant.current committed current)

pub returns-in_err-grow_by-clause-before : goal.returns-in_err-grow_by-clause-before
returns-in_err-grow_by-clause-before c = first_kept _ c.args.slots.now.items _ c.grow_by.new.slots.items (omega (arith, c.args.slots.now.ok)) (c.in_err-grow_by.ensures.err ∙ c.loop-change.invariant.slots)

pub returns-clause-before : goal.returns-clause-before
returns-clause-before c = first_kept _ c.args.slots.now.items _ c.loop-change.slots.items (omega (arith, c.args.slots.now.ok)) c.loop-change.invariant.slots
