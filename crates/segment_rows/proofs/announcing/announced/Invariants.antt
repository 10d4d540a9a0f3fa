use Rattle.std.proofs.Common.{◌≡◌, take}
use Rattle.std.specs.List.{flat_map}
use Rattle.segment_rows.specs.Words.{messages_at}
use Rattle.segment_rows.proofs.announcing.announced.Given as goal

abbrev pub invariant-loop-item : goal.invariant-loop-item
invariant-loop-item l = l.messages.items ≡ flat_map (messages_at l.store l.reader) (take l.item-index l.items)
