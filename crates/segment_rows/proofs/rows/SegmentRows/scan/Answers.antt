use Rattle.std.proofs.Common.{◌∙◌, ap}
use Rattle.catalog_rows.specs.Store.{rows_of_scan}
use Rattle.segment_rows.specs.Kept.{RowsHeld}
use Rattle.segment_rows.proofs.Kept.{if_ok_same, scan_same}
use Rattle.segment_rows.proofs.rows.SegmentRows.scan.Goals as goal

pub returns-clause-answer : goal.returns-clause-answer
returns-clause-answer c = λ s b k own.
    if_ok_same c.scan.result _ _ c.scan.ensures ((λ i. rows_of_scan (ap (λ (r : RowsHeld). r.store) c.self.view_is i) c.args.purpose.now (c.reader.ensures i)) ∙ scan_same s c.args.self.now b c.args.own c.args.purpose.now k own)
