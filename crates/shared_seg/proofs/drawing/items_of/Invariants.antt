use Rattle.std.proofs.Common.{◌≡◌, ◌++◌, map, take}
use Rattle.event_kinds.specs.declared.entry.Item.TheVariants.{Force}
use Rattle.history_model.specs.Changes.{item_of}
use Rattle.shared_seg.proofs.drawing.items_of.Given as goal

abbrev pub invariant-loop-change : goal.invariant-loop-change
invariant-loop-change l = l.items.items ≡ map item_of (take l.change-index l.changes)

abbrev pub invariant-loop-rel : goal.invariant-loop-rel
invariant-loop-rel l = l.items.items ≡ map item_of l.changes ++ map Force (take l.rel-index l.forced)
