use Rattle.std.proofs.Common.{◌∙◌, sym}
use Rattle.sinval_ring.proofs.Sweeping.{swept_next, unswept_next}
use Rattle.sinval_ring.proofs.cleanup.sweep.Goals as goal
use Rattle.sinval_ring.proofs.cleanup.sweep.Goals.{then-is_below, else-is_below}

pub loop-reader-preserved : goal.loop-reader-preserved
loop-reader-preserved c =
    elim c.if-is_below.branch [
      | then-is_below w ↦ w.readers-is ∙ swept_next c.args.low c.args.readers.now c.loop-reader.readers c.loop-reader.reader-index _ c.loop-reader-test.true c.loop-reader.invariant (sym c.is_below.ensures ∙ w.if-is_below.true)
      | else-is_below w ↦ w.readers-is ∙ unswept_next c.args.low c.args.readers.now c.loop-reader.readers c.loop-reader.reader-index _ c.loop-reader-test.true c.loop-reader.invariant (sym c.is_below.ensures ∙ w.if-is_below.false)
    ]
