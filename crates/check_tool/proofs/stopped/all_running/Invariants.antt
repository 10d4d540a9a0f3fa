use Rattle.std.proofs.Common.{◌≡◌, false, replicate}
use Rattle.check_tool.proofs.stopped.all_running.Given as goal

abbrev pub invariant-loop-number : goal.invariant-loop-number
invariant-loop-number l = l.stopped.items ≡ replicate l._number false
