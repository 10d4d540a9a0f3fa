use Rattle.turn_table.specs.Passes.{IsPassOf}
use Rattle.catsync_tests.proofs.turns.meet.Given as goal

abbrev pub invariant-loop : goal.invariant-loop
invariant-loop g l = IsPassOf l.table l.pass
