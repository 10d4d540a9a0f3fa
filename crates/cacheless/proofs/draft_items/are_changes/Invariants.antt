use Rattle.std.proofs.Common.{◌≡◌, drop}
use Rattle.cacheless.specs.SameItems.{changes_match}
use Rattle.cacheless.proofs.draft_items.are_changes.Given as goal

abbrev pub invariant-loop-i : goal.invariant-loop-i
invariant-loop-i l = changes_match l.next l.new_oids l.items l.changes ≡ changes_match l.next l.new_oids (drop l.i l.items) (drop l.i l.changes)
