use Rattle.std.proofs.Common.{◌∙◌, ap, slice_set}
use Rattle.lock_modes.specs.States.{cleared_if}
use Rattle.lock_modes.proofs.Marks.{marks_more}
use Rattle.lock_modes.proofs.own_locks.clear_each.Goals as goal

pub loop-lock-preserved : goal.loop-lock-preserved
loop-lock-preserved c = ap (slice_set c.loop-lock.locks c.loop-lock.lock-index) c.clear_if.ensures ∙ marks_more (cleared_if c.args.rel c.args.mode) _ _ _ _ c.loop-lock-test.true c.loop-lock.auto.locks c.loop-lock.invariant
