use Rattle.std.proofs.Common.{◌∙◌}
use Rattle.cacheless.specs.State.{kept_at}
use Rattle.cacheless.proofs.Lacking.{first_alike}
use Rattle.cacheless.proofs.progress.Progress.is_next_build.Goals as goal

pub returns-in-Some : goal.returns-in-Some
returns-in-Some c = c.is_first_of.ensures ∙ first_alike c.args.scan.now (kept_at c.args.self.now) c.args.self.now.opened c.in-Some.found.now (c.in-Some.ensures _ _ c.args.self.now.known)
