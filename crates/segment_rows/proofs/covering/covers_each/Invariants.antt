use Rattle.std.proofs.Common.{◌≡◌, drop}
use Rattle.std.specs.List.{list_all}
use Rattle.segment_rows.specs.Words.{covers_item}
use Rattle.segment_rows.proofs.covering.covers_each.Given as goal

abbrev pub invariant-loop-item : goal.invariant-loop-item
invariant-loop-item l = list_all (covers_item l.store l.reader l.messages l.items) (drop l.item-index l.items) ≡ list_all (covers_item l.store l.reader l.messages l.items) l.items
