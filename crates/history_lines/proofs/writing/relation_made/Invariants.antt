use Rattle.std.proofs.Common.{◌≡◌, ℕ, [], take}
use Rattle.std.specs.List.{flat_map}
use Rattle.cacheless.specs.Locks.{locked_by}
use Rattle.history_lines.proofs.writing.relation_made.Given as goal

abbrev pub invariant-loop-item : goal.invariant-loop-item
invariant-loop-item l = (command : ℕ) → flat_map (locked_by command) (take l.item-index l.items) ≡ []
