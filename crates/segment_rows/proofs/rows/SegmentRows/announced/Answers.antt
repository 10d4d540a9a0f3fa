use Rattle.std.proofs.Common.{◌∙◌, ap}
use Rattle.std.specs.List.{flat_map}
use Rattle.segment_rows.specs.Kept.{RowsHeld}
use Rattle.segment_rows.specs.Words.{messages_at}
use Rattle.segment_rows.proofs.Kept.{if_ok_same, written_same}
use Rattle.segment_rows.proofs.rows.SegmentRows.announced.Goals as goal

pub returns-clause-written : goal.returns-clause-written
returns-clause-written c = λ s b k own.
    if_ok_same c.announced.result _ _ c.announced.ensures ((λ i. flat_map (messages_at (ap (λ (r : RowsHeld). r.store) c.self.view_is i) (c.reader.ensures i)) c.args.items.now) ∙ written_same s c.args.self.now b c.args.own c.args.items.now k own)
