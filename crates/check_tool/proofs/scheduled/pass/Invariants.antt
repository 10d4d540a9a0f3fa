use Rattle.std.proofs.Common.{◌≡◌, ◌≤◌, ◌-◌, length, drop, List}
use Rattle.cacheless.specs.Schedule.{pass_stopped}
use Rattle.check_tool.specs.Types.{Entry}
use Rattle.check_tool.specs.Turning.{TellStopped}
use Rattle.check_tool.proofs.scheduled.pass.Given as goal

abbrev pub invariant-steps : goal.invariant-steps
invariant-steps l = record {
  within : l.at ≤ length l.steps;
  passed : (seen : List Entry) → TellStopped seen l.stopped → pass_stopped seen (drop l.fn.from l.steps) ≡ pass_stopped seen (drop l.at l.steps);
}

abbrev pub decreases-steps : goal.decreases-steps
decreases-steps l = length l.steps - l.at
