use Rattle.std.proofs.Common.{◌≡◌, take}
use Rattle.std.specs.List.{flat_map}
use Rattle.base_types.specs.Scenario.{turns_of}
use Rattle.check_tool.proofs.scheduled.all_steps.Given as goal

abbrev pub invariant-loop-line : goal.invariant-loop-line
invariant-loop-line l = l.steps.items ≡ flat_map turns_of (take l.line-index l.lines)
