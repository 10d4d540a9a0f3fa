use Rattle.std.proofs.Common.{◌≡◌, ◌++◌, map, take, drop}
use Rattle.sinval_ring.specs.Readers.{counted}
use Rattle.sinval_ring.proofs.cleanup.move_back.Given as goal

abbrev pub invariant-loop-reader : goal.invariant-loop-reader
invariant-loop-reader l = l.readers ≡ map (counted l.by) (take l.reader-index l.fn.readers) ++ drop l.reader-index l.fn.readers
