use Rattle.std.proofs.Common.{◌≡◌, ◌++◌, map, take, drop}
use Rattle.lock_modes.specs.States.{cleared_if}
use Rattle.lock_modes.proofs.own_locks.clear_each.Given as goal

abbrev pub invariant-loop-lock : goal.invariant-loop-lock
invariant-loop-lock l = l.locks ≡ map (cleared_if l.rel l.mode) (take l.lock-index l.fn.locks) ++ drop l.lock-index l.fn.locks
