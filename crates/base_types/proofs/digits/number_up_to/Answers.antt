use Rattle.std.proofs.Common.{arith}
use Rattle.base_types.proofs.DroppedNumbers.{over}
use Rattle.base_types.proofs.digits.number_up_to.Goals as goal

pub returns-then-number-from-clause-none : goal.returns-then-number-from-clause-none
returns-then-number-from-clause-none c =
    over c.args.most c.args.digits.now c.loop-byte.byte-index c.loop-byte.number c.loop-byte-test.true c.loop-byte.invariant.same
    (omega (arith, c.if-number-from.true, c.saturating_sub.ensures, c.from.ensures, c.from-in-loop-byte.ensures))
