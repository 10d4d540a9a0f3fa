use Rattle.check_tool.proofs.Schedule.{IsFirstOf}
use Rattle.check_tool.proofs.stopped.first_running.Given as goal

abbrev pub invariant-loop-i : goal.invariant-loop-i
invariant-loop-i l = IsFirstOf l.stopped l.i
