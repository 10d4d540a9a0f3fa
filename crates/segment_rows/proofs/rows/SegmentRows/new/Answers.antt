use Rattle.std.proofs.Common.{refl}
use Rattle.segment_rows.proofs.Kept.{rows_start}
use Rattle.segment_rows.proofs.rows.SegmentRows.new.Goals as goal

pub returns : goal.returns
returns c = rows_start _ c.new.ensures refl refl
