use Rattle.std.proofs.Common.{rules, arith, []}
use Rattle.std.specs.List.{flat_map}
use Rattle.history_model.specs.Drawn.{made_by}
use Rattle.history_model.proofs.ListSteps.{flat_map_next, all_done}
use Rattle.history_ledger.proofs.changing.relations_made.Goals as goal

pub loop-item-preserved : goal.loop-item-preserved
loop-item-preserved c =
    let next = flat_map_next made_by [] c.args.items.now c.loop-item.item-index c.item-item.result _ _ c.loop-item-test.true c.item-item.is c.loop-item.invariant in
    search (rules, next)

pub returns : goal.returns
returns c = all_done (flat_map made_by) c.args.items.now c.loop-item.item-index c.loop-item.made.items (omega (arith, c.loop-item-test.false)) c.loop-item.invariant
