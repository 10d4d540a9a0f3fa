use Rattle.std.proofs.Common.{◌≡◌}
use Rattle.turn_table.specs.Passes.{IsPassOf}
use Rattle.catsync_tests.proofs.turns.act_all.Given as goal

abbrev pub invariant-loop-seat : goal.invariant-loop-seat
invariant-loop-seat g l = IsPassOf l.table l.first × IsPassOf l.table l.second × (l.first.number ≡ l.initial.first.number) × (l.second.number ≡ l.initial.second.number)
