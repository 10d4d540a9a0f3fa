use Rattle.std.proofs.Common.{◌∙◌, ap}
use Rattle.edge_io.specs.InMemory.{wanted}
use Rattle.edge_io.proofs.FaultCounts.{failed, stayed}
use Rattle.edge_io.proofs.memory_sinks.MemorySinkSink.write.Goals as goal

pub returns-then-self-len-clause-cause : goal.returns-then-self-len-clause-cause
returns-then-self-len-clause-cause c = failed _ _ _ (c.in_ok-call.ensures.cause.steady ∙ ap (λ s. s.calls.faults) c.self.view_is) _ c.fault.ensures.cause

pub returns-clause-cause : goal.returns-clause-cause
returns-clause-cause c = stayed _ _ _ (ap (λ s. s.calls.faults) c.self.view_is) _ c.in_ok-call.ensures.cause.steady

pub returns-clause-ok : goal.returns-clause-ok
returns-clause-ok c = c.min-count.ensures ∙ ap (λ s. wanted s c.args.from.now) c.self.view_is
