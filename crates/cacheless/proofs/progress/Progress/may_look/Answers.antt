use Rattle.cacheless.proofs.Same.{look_is}
use Rattle.cacheless.proofs.progress.Progress.may_look.Goals as goal

pub returns-in_default : goal.returns-in_default
returns-in_default c = look_is c.args.self.now c.in_default.not-Fetch
