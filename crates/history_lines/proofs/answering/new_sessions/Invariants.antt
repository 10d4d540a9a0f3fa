use Rattle.by_backend.proofs.LeftLists.{AreLeft}
use Rattle.history_lines.proofs.NewSessions.{Begins}
use Rattle.history_lines.proofs.answering.new_sessions.Given as goal

abbrev pub invariant-loop-number : goal.invariant-loop-number
invariant-loop-number l = record {
  begins : Begins l.script l.sessions.items l.number;
  left : AreLeft l.script l.number l.lists.items;
}
