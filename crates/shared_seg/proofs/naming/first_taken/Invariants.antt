use Rattle.std.proofs.Common.{take}
use Rattle.shared_seg.specs.Naming.{NamesFree}
use Rattle.shared_seg.proofs.naming.first_taken.Given as goal

abbrev pub invariant-loop-item : goal.invariant-loop-item
invariant-loop-item l = NamesFree l.rows.store l.own (take l.item-index l.items)
