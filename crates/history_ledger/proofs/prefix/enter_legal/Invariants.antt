use Rattle.std.proofs.Common.{take}
use Rattle.history_ledger.specs.Held.{Reads}
use Rattle.history_ledger.proofs.MayFollow.{IsQueued}
use Rattle.history_ledger.proofs.prefix.enter_legal.Given as goal

abbrev pub invariant-loop-at : goal.invariant-loop-at
invariant-loop-at l = record {
  reads : Reads (take l.at l.entries) l.ledger;
  queued : IsQueued l.size (take l.at l.entries);
}
