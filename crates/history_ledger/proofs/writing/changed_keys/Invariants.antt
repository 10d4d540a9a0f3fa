use Rattle.std.proofs.Common.{◌≡◌, take}
use Rattle.std.specs.List.{flat_map}
use Rattle.history_model.specs.Changing.{changed_key}
use Rattle.history_ledger.proofs.writing.changed_keys.Given as goal

abbrev pub invariant-loop-item : goal.invariant-loop-item
invariant-loop-item l = l.keys.items ≡ flat_map changed_key (take l.item-index l.items)
