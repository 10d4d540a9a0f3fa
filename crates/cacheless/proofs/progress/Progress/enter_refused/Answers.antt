use Rattle.std.proofs.Common.{ap}
use Rattle.cacheless.proofs.Entries.EntryCodes.{refused_code}
use Rattle.cacheless.proofs.progress.Progress.enter_refused.Goals as goal

pub returns-clause-holds : goal.returns-clause-holds
returns-clause-holds c = refused_code _ _ _ _ _ _ c.fail.ensures

pub returns-clause-same : goal.returns-clause-same
returns-clause-same c = ap (λ p. p.commands) c.fail.ensures.is
