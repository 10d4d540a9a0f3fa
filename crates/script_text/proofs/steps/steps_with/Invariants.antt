use Rattle.std.proofs.Common.{◌≡◌, ◌≤◌, ◌+◌, take}
use Rattle.base_types.specs.Scenario.{step_count}
use Rattle.script_text.proofs.steps.steps_with.Given as goal

abbrev pub invariant-loop-item : goal.invariant-loop-item
invariant-loop-item l = record {
  value : l.total ≡ l.before + step_count (take l.item-index l.turns);
  most : l.total ≤ 1000000;
}
