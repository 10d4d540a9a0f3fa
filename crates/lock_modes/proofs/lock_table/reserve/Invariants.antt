use Rattle.std.proofs.Common.{◌≡◌, ◌≤◌, ℕ, length}
use Rattle.lock_modes.specs.GrantLists.{grants_at, room_at}
use Rattle.lock_modes.specs.Kept.{HasRoom}
use Rattle.lock_modes.proofs.lock_table.reserve.Given as goal

abbrev pub invariant-loop-grant : goal.invariant-loop-grant
invariant-loop-grant l = record {
  rels : (rel : ℕ) → grants_at l.by_rel rel ≡ grants_at l.fn.by_rel rel;
  backends : (b : ℕ) → grants_at l.by_backend b ≡ grants_at l.fn.by_backend b;
  more_rels : (rel : ℕ) → room_at l.fn.by_rel rel ≤ room_at l.by_rel rel;
  more_backends : (b : ℕ) → room_at l.fn.by_backend b ≤ room_at l.by_backend b;
  room : HasRoom l.by_rel l.by_backend l.grants l.grant-index (length l.grants);
}
