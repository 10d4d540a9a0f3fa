use Rattle.std.proofs.Common.{◌≡◌, ◌≤◌, false, length, get_or, sym, arith}
use Rattle.std.proofs.lemmas.List.Sums.{prefix_len_is}
use Rattle.event_kinds.specs.Reading.{in_token}
use Rattle.event_kinds.proofs.cursor.token_len.Goals as goal

pub returns-then-not-is_token_byte-clause-text : goal.returns-then-not-is_token_byte-clause-text
returns-then-not-is_token_byte-clause-text c =
    let refused : in_token (get_or c.args.bytes.now c.loop-i.i 0) ≡ false = grind (arith, c.is_token_byte.ensures, c.if-not-is_token_byte.true) in
    sym (prefix_len_is in_token c.args.bytes.now c.loop-i.i 0 (omega arith) c.loop-i.invariant (λ within. refused))

pub returns-clause-text : goal.returns-clause-text
returns-clause-text c =
    let all : length c.args.bytes.now ≤ c.loop-i.i = omega arith in
    sym (prefix_len_is in_token c.args.bytes.now (length c.args.bytes.now) 0 (omega arith) (λ k below. c.loop-i.invariant k (omega arith)) (λ within. absurd (omega arith)))
