use Rattle.std.proofs.Common.{arith}
use Rattle.cacheless.specs.State.{kept_at, is_kept}
use Rattle.backend_core.proofs.Stacking.Messages.{told_more}
use Rattle.backend_core.proofs.frames.Frames.tell_each.Goals as goal

pub loop-message-preserved : goal.loop-message-preserved
loop-message-preserved c = told_more (is_kept (kept_at c.args.progress.now)) c.args.progress.now.opened _ c.args.messages.now c.loop-message.message-index _ c.args.self.now _ _ (omega (arith, c.loop-message-test.true)) c.as_slice.ensures c.loop-message.invariant c.in_ok-hear.ensures
