use Rattle.std.proofs.Common.{◌≡◌, ◌-◌, ◌++◌, length, take}
use Rattle.lock_modes.specs.Changes.{held_after}
use Rattle.lock_modes.specs.Kept.{Holds, HasRoom}
use Rattle.lock_modes.proofs.lock_table.add.Given as goal

abbrev pub invariant-loop-grant : goal.invariant-loop-grant
invariant-loop-grant l = record {
  all : held_after l.changes.items ≡ held_after l.fn.changes.items ++ take l.grant-index l.grants;
  holds : Holds l.by_rel l.by_backend (held_after l.changes.items);
  room : HasRoom l.by_rel l.by_backend l.grants (length l.grants) (length l.grants - l.grant-index);
}
