use Rattle.std.proofs.Common.{◌∙◌}
use Rattle.cacheless.proofs.Same.{free_is}
use Rattle.cacheless.proofs.progress.Progress.owes_nothing.Goals as goal

pub returns : goal.returns
returns c = c.lacks_nothing.ensures ∙ free_is c.args.command.now c.args.self.now
