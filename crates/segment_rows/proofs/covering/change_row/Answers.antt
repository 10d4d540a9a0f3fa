use Rattle.std.proofs.Common.{not, sym, subst}
use Rattle.base_types.specs.Scans.{goes_before, IsInOrder}
use Rattle.segment_rows.specs.Words.{ends_row}
use Rattle.segment_rows.proofs.ScanChanges.{in_order_filtered}
use Rattle.segment_rows.proofs.covering.change_row.Goals as goal

pub put_added-requires : goal.put_added-requires
put_added-requires c = subst (IsInOrder (goes_before c.args.scan.now)) (sym c.drop_ended.ensures) (in_order_filtered (goes_before c.args.scan.now) (λ row. not (ends_row c.args.item.now row)) c.args.rows.now.items c.requires)
