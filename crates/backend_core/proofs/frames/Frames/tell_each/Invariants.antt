use Rattle.std.proofs.Common.{◌≡◌, take}
use Rattle.cacheless.specs.State.{kept_at, is_kept}
use Rattle.backend_core.specs.Frames.{frames_after}
use Rattle.backend_core.proofs.frames.Frames.tell_each.Given as goal

abbrev pub invariant-loop-message : goal.invariant-loop-message
invariant-loop-message l = l.self ≡ frames_after (is_kept (kept_at l.progress)) l.progress.opened (take l.message-index l.messages) l.fn.self
