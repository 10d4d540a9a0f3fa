use Rattle.std.proofs.Common.{◌∙◌, fold, sym, subst, arith}
use Rattle.base_types.specs.Scans.{goes_before, IsInOrder}
use Rattle.history_model.proofs.ListSteps.{all_done}
use Rattle.segment_rows.specs.Words.{given_after}
use Rattle.segment_rows.proofs.ScanChanges.{in_order_after, given_next}
use Rattle.segment_rows.proofs.covering.change_rows.Goals as goal

pub loop-item-preserved : goal.loop-item-preserved
loop-item-preserved c = record {
  order = subst (IsInOrder (goes_before c.args.scan.now)) (sym c.in_ok-change_row.ensures) (in_order_after c.args.scan.now c.loop-item.rows.items c.item-item.result c.loop-item.invariant.order);
  is = c.in_ok-change_row.ensures ∙ given_next c.args.scan.now c.args.rows.now.items c.loop-item.rows.items c.args.items.now c.loop-item.item-index c.item-item.result _ c.loop-item-test.true c.item-item.is c.loop-item.invariant.is;
}

pub returns : goal.returns
returns c = all_done (fold (given_after c.args.scan.now) c.args.rows.now.items) c.args.items.now c.loop-item.item-index _ (omega (arith, c.loop-item-test.false)) c.loop-item.invariant.is
