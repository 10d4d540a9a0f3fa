use Rattle.local_caches.specs.Caches.{kept_of}
use Rattle.local_caches.specs.Kept.{is_kept}
use Rattle.backend_core.specs.Frames.{told_if}
use Rattle.backend_core.proofs.Stacking.Stacks.{changed_more}
use Rattle.backend_core.proofs.rebuilds.tell_each_frame.Goals as goal

pub loop-frame-preserved : goal.loop-frame-preserved
loop-frame-preserved c = changed_more (told_if (is_kept (kept_of c.args.caches.now)) c.args.rel) _ _ _ _ _ c.loop-frame-test.true c.loop-frame.auto.frames c.loop-frame.invariant c.tell.ensures
