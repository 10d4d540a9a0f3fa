use Rattle.std.proofs.Common.{◌≡◌, take}
use Rattle.std.specs.List.{flat_map}
use Rattle.history_model.specs.Drawn.{made_by}
use Rattle.history_ledger.proofs.changing.relations_made.Given as goal

abbrev pub invariant-loop-item : goal.invariant-loop-item
invariant-loop-item l = l.made.items ≡ flat_map made_by (take l.item-index l.items)
