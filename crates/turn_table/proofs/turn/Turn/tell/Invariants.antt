use Rattle.std.proofs.Common.{◌+◌, ◌-◌, ◌<◌, ◌≤◌}
use Rattle.turn_table.specs.Passes.{words_of, IsSameTurn}
use Rattle.turn_table.proofs.Telling.{Telling}
use Rattle.turn_table.proofs.turn.Turn.tell.Given as goal

abbrev pub invariant-loop-seat : goal.invariant-loop-seat
invariant-loop-seat g l =
    let V = g.V.Turned in let w = l.self in let o = l.initial.self in
    IsSameTurn o w × (0 < l.seat) × (l.seat ≤ l.seats + 1) × Telling V.waiting l.seats l.seat (V.history o.opened.value) (V.history o.value) (words_of w)

abbrev pub decreases-loop-seat : goal.decreases-loop-seat
decreases-loop-seat g l = l.seats + 1 - l.seat
