use Rattle.std.proofs.Common.{◌≡◌, [], length}
use Rattle.std.specs.List.{All}
use Rattle.edge_io.proofs.gates.open_gates.Given as goal

abbrev pub invariant-opening : goal.invariant-opening
invariant-opening l = record { count : length l.gates.items ≡ l._number; unasked : All (λ g. g.asked.items ≡ []) l.gates.items }
