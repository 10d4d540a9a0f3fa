use Rattle.std.proofs.Common.{◌≡◌, take}
use Rattle.segment_rows.specs.Words.{changes_in}
use Rattle.segment_rows.proofs.writing.changes_in.Given as goal

abbrev pub invariant-loop-item : goal.invariant-loop-item
invariant-loop-item l = l.changes.items ≡ changes_in (take l.item-index l.items)
