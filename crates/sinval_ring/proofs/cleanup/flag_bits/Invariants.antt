use Rattle.std.proofs.Common.{◌≡◌, map, take}
use Rattle.sinval_ring.specs.Readers.{is_below}
use Rattle.sinval_ring.specs.Cleanups.{bits_of}
use Rattle.sinval_ring.proofs.cleanup.flag_bits.Given as goal

abbrev pub invariant-loop-i : goal.invariant-loop-i
invariant-loop-i l = l.bits ≡ bits_of (map (is_below l.low) (take l.i l.readers))
