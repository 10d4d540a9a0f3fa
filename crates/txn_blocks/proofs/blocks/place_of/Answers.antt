use Rattle.std.proofs.Common.{◌-◌, arith}
use Rattle.txn_blocks.proofs.Levels.{found_before}
use Rattle.txn_blocks.proofs.blocks.place_of.Goals as goal

pub returns-then-is_savepoint : goal.returns-then-is_savepoint
returns-then-is_savepoint c = record { place = found_before c.args.name.now c.args.levels.now c.loop-at.at (c.loop-at.at - 1) c.index-levels-at.result (omega arith) c.loop-at.invariant.0 c.index-levels-at.is c.if-is_savepoint.ensures c.loop-at.invariant.1; within = search arith }
