use Rattle.cacheless.specs.Holds.{HasStarted}
use Rattle.cacheless.proofs.Lacking.{with_known}
use Rattle.cacheless.proofs.Entries.EnteredLooks.{started, start_starts}
use Rattle.cacheless.proofs.progress.Progress.enter_start.Goals as goal

pub returns-clause-holds : goal.returns-clause-holds
returns-clause-holds c = λ scenario seen waits. with_known (HasStarted scenario seen c.args.self.now) (started c.args.self.now) _ (start_starts scenario seen c.args.self.now waits)
