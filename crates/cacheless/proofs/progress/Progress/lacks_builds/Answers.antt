use Rattle.std.proofs.Common.{◌∙◌}
use Rattle.cacheless.proofs.Same.{lacks_builds_is}
use Rattle.cacheless.proofs.progress.Progress.lacks_builds.Goals as goal

pub returns : goal.returns
returns c = c.lacks_serving.ensures ∙ lacks_builds_is c.args.self.now
