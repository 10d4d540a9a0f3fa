use Rattle.std.proofs.Common.{◌≡◌, take}
use Rattle.sinval_ring.specs.Cleanups.{least_of}
use Rattle.sinval_ring.proofs.cleanup.least_position.Given as goal

abbrev pub invariant-loop-reader : goal.invariant-loop-reader
invariant-loop-reader l = l.least ≡ least_of l.end (take l.reader-index l.readers)
