use Rattle.std.proofs.Common.{◌∙◌, ◌<◌, set, ap, sym, subst}
use Rattle.std.proofs.lemmas.List.Edits.{map_over_more}
use Rattle.std.proofs.lemmas.List.{get_or_default}
use Rattle.sinval_ring.specs.Readers.{counted}
use Rattle.sinval_ring.proofs.cleanup.move_back.Goals as goal

pub loop-reader-preserved : goal.loop-reader-preserved
loop-reader-preserved c =
    ap (set c.loop-reader.readers c.loop-reader.reader-index) c.moved_back.ensures
    ∙ map_over_more (counted c.args.by) c.args.readers.now c.loop-reader.readers c.loop-reader.reader-index _ c.loop-reader-test.true c.loop-reader.invariant (get_or_default c.loop-reader.readers c.loop-reader.reader-index _ _ (subst (λ n. c.loop-reader.reader-index < n) (sym c.loop-reader.auto.readers) c.loop-reader-test.true))
