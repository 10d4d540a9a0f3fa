use Rattle.std.proofs.Common.{◌≡◌, ◌≤◌, ◌+◌, ◌++◌, map, vec_len, vec_capacity}
use Rattle.std.specs.List.{AllByRecursion}
use Rattle.thread_run.specs.Seats.{AllPairs, MaySit, IsSeated, from_last, number_of}
use Rattle.thread_run.proofs.seats.seat_all.Given as goal

abbrev pub invariant-loop-pass : goal.invariant-loop-pass
invariant-loop-pass g l = record {
  may : AllPairs (MaySit l.table) l.passes.items l.backends.items;
  as_many : vec_len l.backends ≡ vec_len l.passes;
  enough : vec_len l.passes ≤ vec_len l.gates;
  seated : AllByRecursion (IsSeated l.table) l.seats.items;
  count : vec_len l.passes + vec_len l.seats ≡ vec_len l.fn.passes;
  spare : vec_len l.passes + vec_len l.seats ≤ vec_capacity l.seats;
  passes : vec_len l.passes + vec_len l.seats ≤ vec_capacity l.passes;
  backends : vec_len l.backends + vec_len l.seats ≤ vec_capacity l.backends;
  gates : vec_len l.gates + vec_len l.seats ≤ vec_capacity l.gates;
  numbers_are : map (λ p. p.number) l.passes.items ++ from_last number_of l.seats.items ≡ map (λ p. p.number) l.fn.passes.items;
  gates_are : l.gates.items ++ from_last (λ s. s.gate) l.seats.items ≡ l.fn.gates.items;
}

abbrev pub decreases-loop-pass : goal.decreases-loop-pass
decreases-loop-pass g l = vec_len l.passes
