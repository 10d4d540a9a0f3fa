use Rattle.lock_modes.specs.Own.{cleared}
use Rattle.lock_modes.proofs.Marks.{marks_more}
use Rattle.lock_modes.proofs.own_locks.clear_every.Goals as goal

pub loop-lock-preserved : goal.loop-lock-preserved
loop-lock-preserved c = marks_more cleared _ _ _ _ c.loop-lock-test.true c.loop-lock.auto.locks c.loop-lock.invariant
