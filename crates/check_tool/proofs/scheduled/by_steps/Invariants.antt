use Rattle.std.proofs.Common.{take}
use Rattle.check_tool.proofs.Schedule.{Follows, HasTaken}
use Rattle.check_tool.proofs.scheduled.by_steps.Given as goal

abbrev pub invariant-loop-at : goal.invariant-loop-at
invariant-loop-at l = record {
  held : Follows l.script (take l.at l.entries) l.stopped.items;
  taken : HasTaken l.script (take l.at l.entries) l.steps.items l.taken;
}
