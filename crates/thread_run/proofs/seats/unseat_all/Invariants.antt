use Rattle.std.proofs.Common.{◌≡◌, ◌≤◌, ◌+◌, ◌++◌, map, vec_len, vec_capacity, OnOk}
use Rattle.std.specs.List.{AllByRecursion}
use Rattle.thread_run.specs.Seats.{AllPairs, HasDone, HasWorked, from_last, number_of, first_end, end_of}
use Rattle.thread_run.proofs.seats.unseat_all.Given as goal

abbrev pub invariant-loop-seat : goal.invariant-loop-seat
invariant-loop-seat g l = record {
  worked : AllByRecursion (HasWorked l.table) l.seats.items;
  ended : first_end l.ended (end_of l.seats.items) ≡ end_of l.fn.seats.items;
  done : OnOk l.ended (AllPairs (HasDone l.table) l.passes.items l.backends.items);
  passes : vec_len l.passes + vec_len l.seats ≤ vec_capacity l.passes;
  backends : vec_len l.backends + vec_len l.seats ≤ vec_capacity l.backends;
  gates : vec_len l.gates + vec_len l.seats ≤ vec_capacity l.gates;
  numbers_are : map (λ p. p.number) l.passes.items ++ from_last number_of l.seats.items ≡ from_last number_of l.fn.seats.items;
  gates_are : l.gates.items ++ from_last (λ s. s.gate) l.seats.items ≡ l.fn.gates.items ++ from_last (λ s. s.gate) l.fn.seats.items;
}

abbrev pub decreases-loop-seat : goal.decreases-loop-seat
decreases-loop-seat g l = vec_len l.seats
