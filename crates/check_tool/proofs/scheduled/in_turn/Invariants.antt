use Rattle.std.proofs.Common.{take}
use Rattle.check_tool.proofs.Schedule.{Follows}
use Rattle.check_tool.proofs.scheduled.in_turn.Given as goal

abbrev pub invariant-loop-at : goal.invariant-loop-at
invariant-loop-at l = Follows l.script (take l.at l.entries) l.stopped.items
