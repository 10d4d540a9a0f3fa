use Rattle.std.proofs.Common.{◌∙◌}
use Rattle.cacheless.specs.State.{kept_at, is_kept}
use Rattle.backend_core.proofs.Stacking.Least.{noted_least}
use Rattle.backend_core.proofs.frames.Frames.least_left.Goals as goal

pub returns-in-Some : goal.returns-in-Some
returns-in-Some c = c.first_of.ensures ∙ noted_least (is_kept (kept_at c.args.progress.now)) c.args.self.now c.args.progress.now.opened c.in-Some.found.now (c.in-Some.ensures _ _ c.args.progress.now.known)
