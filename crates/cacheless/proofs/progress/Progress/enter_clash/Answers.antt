use Rattle.std.proofs.Common.{ap}
use Rattle.cacheless.proofs.Entries.EntryCodes.{clash_code}
use Rattle.cacheless.proofs.progress.Progress.enter_clash.Goals as goal

pub returns-clause-holds : goal.returns-clause-holds
returns-clause-holds c = clash_code _ _ _ _ _ c.clash_error.ensures c.fail.ensures

pub returns-clause-same : goal.returns-clause-same
returns-clause-same c = ap (λ p. p.commands) c.fail.ensures.is
