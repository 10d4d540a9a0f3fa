use Rattle.std.proofs.Common.{◌≡◌, ◌≤◌, true, false, length}
use Rattle.std.specs.List.{AllByRecursion}
use Rattle.base_types.specs.Scenario.{AreTurns}
use Rattle.script_text.specs.LineForms.{all_turns, none_left}
use Rattle.script_text.proofs.ItemByItem.{with_items}
use Rattle.script_text.proofs.steps.all_turns.Given as goal

abbrev pub invariant-items : goal.invariant-items
invariant-items l = record {
  read : with_items l.turns (all_turns l.backends l.tokens) ≡ all_turns l.backends l.fn.tokens;
  turns : AllByRecursion (AreTurns l.backends) l.turns;
  some : none_left l.fn.tokens ≡ false → none_left l.tokens ≡ true → 1 ≤ length l.turns;
}

abbrev pub decreases-items : goal.decreases-items
decreases-items l = length l.tokens
