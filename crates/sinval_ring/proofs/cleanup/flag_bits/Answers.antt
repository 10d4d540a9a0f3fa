use Rattle.std.proofs.Common.{arith}
use Rattle.sinval_ring.specs.Readers.{Inactive}
use Rattle.sinval_ring.proofs.Sweeping.{bits_next, bits_fit}
use Rattle.sinval_ring.proofs.cleanup.flag_bits.Goals as goal
use Rattle.sinval_ring.proofs.cleanup.flag_bits.Goals.{then-is_below, else-is_below}

pub overflow_add-bits : goal.overflow_add-bits
overflow_add-bits c = let fits = bits_fit c.args.low c.loop-i.bits c.args.readers.now c.loop-i.i c.loop-i-test.true c.requires c.loop-i.invariant in omega (arith, fits)

pub loop-i-preserved : goal.loop-i-preserved
loop-i-preserved c =
    let fits = bits_fit c.args.low c.loop-i.bits c.args.readers.now c.loop-i.i c.loop-i-test.true c.requires c.loop-i.invariant in
    let next = bits_next c.args.low c.loop-i.bits c.args.readers.now c.loop-i.i Inactive c.loop-i-test.true c.loop-i.invariant in
    elim c.if-is_below.branch [ then-is_below w ↦ grind (arith, next, fits, c.is_below.ensures) | else-is_below w ↦ grind (arith, next, fits, c.is_below.ensures) ]
