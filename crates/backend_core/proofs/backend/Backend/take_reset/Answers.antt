use Rattle.std.proofs.Common.{◌≡◌, ◌∙◌}
use Rattle.cacheless.specs.State.{kept_at, is_kept}
use Rattle.backend_core.specs.Words.{finds_none, has_begun, looked_after, told_after}
use Rattle.backend_core.specs.Frames.{unless, with_rest, frames_reset}
use Rattle.backend_core.proofs.Entries.Inside.{then_so}
use Rattle.backend_core.proofs.Entries.Fetching.{reset_frames}
use Rattle.backend_core.proofs.backend.Backend.take_reset.Goals as goal

pub returns-clause-is : goal.returns-clause-is
returns-clause-is c =
    let looked : c.looked_after-self.result ≡ looked_after c.args.self.now (finds_none c.args.self.now.progress) (has_begun c.args.self.now.progress) = c.looked_after-self.ensures ∙ (λ i. looked_after c.args.self.now (c.finds_none-unfound.ensures i) (c.has_begun_build-marked.ensures i)) in
    let told : c.told_after-self.result ≡ told_after c.args.self.now (finds_none c.args.self.now.progress) (has_begun c.args.self.now.progress) = c.told_after-self.ensures ∙ (λ i. told_after c.args.self.now (c.finds_none-unfound.ensures i) (c.has_begun_build-marked.ensures i)) in
    let kept = is_kept (kept_at c.enter_reset.new.self) in
    let frames_are = (λ i. unless c.has_error-fails.result (c.restart.ensures i) (with_rest kept c.enter_reset.new.self.opened (c.restart.ensures i)))
    ∙ reset_frames c.has_error-fails.result (kept_at c.args.self.now.progress) (kept_at c.enter_reset.new.self) c.enter_reset.new.self.opened c.args.self.now.frames c.enter_reset.ensures.kept
    ∙ (λ i. unless (c.has_error-fails.ensures i) c.args.self.now.frames (frames_reset (is_kept (kept_at c.args.self.now.progress)) c.enter_reset.new.self.opened c.args.self.now.frames)) in
    then_so c.reset.result (λ frames i. record c.args.self.now { progress = c.enter_reset.new.self; looked = looked i; frames = (frames ∙ frames_are) i; told = told i }) c.reset.ensures
