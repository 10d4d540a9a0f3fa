use Rattle.std.proofs.Common.{◌≡◌, ◌++◌, map, take, drop}
use Rattle.lock_modes.specs.Own.{cleared}
use Rattle.lock_modes.proofs.own_locks.clear_every.Given as goal

abbrev pub invariant-loop-lock : goal.invariant-loop-lock
invariant-loop-lock l = l.locks ≡ map cleared (take l.lock-index l.fn.locks) ++ drop l.lock-index l.fn.locks
