use Rattle.std.proofs.Common.{◌≡◌, ◌≤◌, None, length, drop}
use Rattle.txn_blocks.specs.Blocks.{place_of as latest_of}
use Rattle.txn_blocks.proofs.blocks.place_of.Given as goal

abbrev pub invariant-loop-at : goal.invariant-loop-at
invariant-loop-at l = (l.at ≤ length l.fn.levels) × (latest_of l.fn.name (drop l.at l.fn.levels) ≡ None)

abbrev pub decreases-loop-at : goal.decreases-loop-at
decreases-loop-at l = l.at
