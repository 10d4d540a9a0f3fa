use Rattle.std.proofs.Common.{◌≡◌, ◌++◌, map, take, drop}
use Rattle.sinval_ring.specs.Cleanups.{swept}
use Rattle.sinval_ring.proofs.cleanup.sweep.Given as goal

abbrev pub invariant-loop-reader : goal.invariant-loop-reader
invariant-loop-reader l = l.readers ≡ map (swept l.low) (take l.reader-index l.fn.readers) ++ drop l.reader-index l.fn.readers
