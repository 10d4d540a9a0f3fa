use Rattle.std.proofs.Common.{◌∙◌, ap, sym}
use Rattle.cacheless.specs.Told.{tells_of_scans}
use Rattle.cacheless.proofs.progress.Progress.tells_of_scans.Goals as goal

pub returns-in-Some : goal.returns-in-Some
returns-in-Some c = c.is_of_scans.ensures ∙ sym (ap tells_of_scans (c.in-Some.ensures c.args.self.now.opens))

pub returns-in-None : goal.returns-in-None
returns-in-None c = sym (ap tells_of_scans (c.in-None.ensures c.args.self.now.opens))
