use Rattle.std.proofs.Common.{◌≡◌, ◌++◌, replicate}
use Rattle.check_tool.proofs.scheduled.push_turns.Given as goal

abbrev pub invariant-loop-step : goal.invariant-loop-step
invariant-loop-step l = l.steps.items ≡ l.initial.steps.items ++ replicate l._step l.turns.backend
