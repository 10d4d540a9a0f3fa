use Rattle.std.proofs.Common.{sym, subst}
use Rattle.base_types.specs.Scans.{goes_before, IsInOrder}
use Rattle.base_types.proofs.ScanOrder.{scan_of-answers}
use Rattle.catalog_rows.specs.Store.{rows_seen}
use Rattle.segment_rows.proofs.covering.keeps_answer.Goals as goal

pub change_rows-requires : goal.change_rows-requires
change_rows-requires c = subst (IsInOrder (goes_before c.args.scan.now)) (sym c.in_ok-after.ensures) (scan_of-answers c.args.scan.now (rows_seen c.args.store.now c.args.reader)).order
