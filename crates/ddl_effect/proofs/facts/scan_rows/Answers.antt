use Rattle.std.proofs.Common.{take, sym, subst}
use Rattle.base_types.specs.Scans.{goes_before, IsInOrder}
use Rattle.base_types.proofs.ScanOrder.{scan_of-answers}
use Rattle.ddl_effect.proofs.facts.scan_rows.Goals as goal

pub put_in_order-requires : goal.put_in_order-requires
put_in_order-requires c = subst (IsInOrder (goes_before c.args.scan.now)) (sym c.loop-row.invariant) (scan_of-answers c.args.scan.now (take c.loop-row.row-index c.args.rows.now)).order
