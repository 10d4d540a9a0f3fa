use Rattle.std.proofs.Common.{◌≡◌, None, take}
use Rattle.sinval_ring.specs.Cleanups.{called_from}
use Rattle.sinval_ring.proofs.cleanup.furthest_back.Given as goal

abbrev pub invariant-loop-i : goal.invariant-loop-i
invariant-loop-i l = called_from 0 (record { backend = None; below = l.bound }) (take l.i l.readers) ≡ l.call
