use Rattle.std.proofs.Common.{◌∙◌}
use Rattle.cacheless.proofs.Same.{accepting_is}
use Rattle.cacheless.proofs.progress.Progress.is_accepting.Goals as goal

pub returns : goal.returns
returns c = c.lets_accept.ensures ∙ accepting_is c.args.command.now c.args.self.now
