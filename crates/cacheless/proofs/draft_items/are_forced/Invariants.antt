use Rattle.std.proofs.Common.{◌≡◌, drop}
use Rattle.cacheless.specs.SameItems.{forced_match}
use Rattle.cacheless.proofs.draft_items.are_forced.Given as goal

abbrev pub invariant-loop-i : goal.invariant-loop-i
invariant-loop-i l = forced_match l.items l.forced ≡ forced_match (drop l.i l.items) (drop l.i l.forced)
