use Rattle.std.proofs.Common.{take}
use Rattle.history_lines.specs.Stands.{Follows}
use Rattle.history_lines.proofs.answering.lines.Given as goal

abbrev pub invariant-loop-at : goal.invariant-loop-at
invariant-loop-at l = Follows l.script (take l.at l.entries) l.held.ledger l.held.sessions.items
