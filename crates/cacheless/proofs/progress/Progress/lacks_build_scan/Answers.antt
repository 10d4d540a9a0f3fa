use Rattle.std.proofs.Common.{◌∙◌}
use Rattle.cacheless.proofs.Same.{lacks_build_scan_is}
use Rattle.cacheless.proofs.progress.Progress.lacks_build_scan.Goals as goal

pub returns : goal.returns
returns c = c.lacks_a_build.ensures ∙ lacks_build_scan_is c.args.self.now
