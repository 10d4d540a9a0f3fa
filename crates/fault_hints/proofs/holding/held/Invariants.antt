use Rattle.std.proofs.Common.{take}
use Rattle.history_ledger.specs.Held.{Reads}
use Rattle.fault_hints.proofs.holding.held.Given as goal

abbrev pub invariant-loop-e : goal.invariant-loop-e
invariant-loop-e l = Reads (take l.e-index l.entries) l.ledger
