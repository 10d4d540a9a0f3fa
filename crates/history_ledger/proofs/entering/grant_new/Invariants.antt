use Rattle.std.proofs.Common.{◌≡◌, ◌++◌, take}
use Rattle.std.specs.List.{flat_map}
use Rattle.history_model.specs.Held.{granted_by}
use Rattle.history_ledger.proofs.entering.grant_new.Given as goal

abbrev pub invariant-loop-item : goal.invariant-loop-item
invariant-loop-item l = l.locks ≡ l.fn.locks ++ flat_map (granted_by l.b l.c) (take l.item-index l.items)
