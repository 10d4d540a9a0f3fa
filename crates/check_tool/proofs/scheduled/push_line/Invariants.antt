use Rattle.std.proofs.Common.{◌≡◌, ◌++◌, take}
use Rattle.base_types.specs.Scenario.{turns_of}
use Rattle.check_tool.proofs.scheduled.push_line.Given as goal

abbrev pub invariant-loop-turns : goal.invariant-loop-turns
invariant-loop-turns l = l.steps.items ≡ l.initial.steps.items ++ turns_of (take l.turns-index l.line)
