use Rattle.std.proofs.Common.{◌∙◌, sym, arith}
use Rattle.base_types.proofs.DroppedNumbers.{long_enough, shown}
use Rattle.base_types.proofs.dropped.shown_number.Goals as goal

pub returns-then-text-clause-none : goal.returns-then-text-clause-none
returns-then-text-clause-none c = λ m d. omega (arith, long_enough m c.args.text.now d)

pub returns-clause-same : goal.returns-clause-same
returns-clause-same c = λ m d. sym (c.in_ok-number.ensures.some.0 ∙ shown m c.args.text.now d)

pub returns-in_err-number-clause-none : goal.returns-in_err-number-clause-none
returns-in_err-number-clause-none c =
    rw c.from_residual.ensures (λ m d. omega (arith, c.in_err-number.ensures.none, shown m c.args.text.now d, d.most, c.from.ensures))
