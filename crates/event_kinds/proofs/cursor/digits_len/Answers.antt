use Rattle.std.proofs.Common.{◌≡◌, ◌≤◌, false, length, get_or, sym, arith}
use Rattle.std.proofs.lemmas.List.Sums.{prefix_len_is}
use Rattle.base_types.specs.Names.{is_digit}
use Rattle.event_kinds.proofs.cursor.digits_len.Goals as goal

pub returns-then-not-is_digit-clause-text : goal.returns-then-not-is_digit-clause-text
returns-then-not-is_digit-clause-text c =
    let refused : is_digit (get_or c.args.bytes.now c.loop-i.i 0) ≡ false = grind (arith, c.is_digit.ensures, c.if-not-is_digit.true) in
    sym (prefix_len_is is_digit c.args.bytes.now c.loop-i.i 0 (omega arith) c.loop-i.invariant (λ within. refused))

pub returns-clause-text : goal.returns-clause-text
returns-clause-text c =
    let all : length c.args.bytes.now ≤ c.loop-i.i = omega arith in
    sym (prefix_len_is is_digit c.args.bytes.now (length c.args.bytes.now) 0 (omega arith) (λ k below. c.loop-i.invariant k (omega arith)) (λ within. absurd (omega arith)))
