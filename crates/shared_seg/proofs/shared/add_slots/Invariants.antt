use Rattle.std.proofs.Common.{◌≡◌, ◌++◌, None, replicate, vec_capacity}
use Rattle.shared_seg.proofs.shared.add_slots.Given as goal

abbrev pub invariant-loop-slot : goal.invariant-loop-slot
invariant-loop-slot l = record {
  slots : l.transactions.items ≡ l.fn.transactions.items ++ replicate l.slot None;
  room : vec_capacity l.transactions ≡ vec_capacity l.fn.transactions;
}
