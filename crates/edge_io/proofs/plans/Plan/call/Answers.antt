use Rattle.std.proofs.Common.{ap}
use Rattle.edge_io.proofs.FaultCounts.{failed}
use Rattle.edge_io.proofs.plans.Plan.call.Goals as goal

pub returns-then-failing-clause-cause : goal.returns-then-failing-clause-cause
returns-then-failing-clause-cause c = failed _ _ _ (ap (λ p. p.faults) c.self.view_is) _ c.fault.ensures.cause
