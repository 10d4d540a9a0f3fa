use Rattle.std.proofs.Common.{◌∙◌}
use Rattle.cacheless.proofs.Same.{next_is}
use Rattle.cacheless.proofs.progress.Progress.is_next.Goals as goal

pub returns : goal.returns
returns c = c.is_first_lacked.ensures ∙ next_is c.args.scan.now c.args.self.now
