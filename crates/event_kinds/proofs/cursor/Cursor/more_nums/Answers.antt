use Rattle.std.proofs.Common.{[], ◌∷◌, length, codes, ap, sym, refl, ◌∙◌, Some, arith}
use Rattle.std.proofs.lemmas.List.{length-append}
use Rattle.event_kinds.specs.Readers.{more_at, with_front}
use Rattle.event_kinds.specs.Reading.{digits_at}
use Rattle.event_kinds.proofs.Loops.{loop_stops, loop_fails, loop_goes_on, loop_ends, not_eaten, eaten}
use Rattle.event_kinds.proofs.cursor.Cursor.more_nums.Goals as goal

pub returns-then-is_none : goal.returns-then-is_none
returns-then-is_none c =
    let whole = with_front (c.args.first ∷ []) (more_at (codes "+") digits_at 31 c.args.self.now) in
    let missing = not_eaten _ _ c.eat.result c.is_none.result c.eat.ensures c.is_none.ensures c.if-is_none.true in
    loop_stops (codes "+") digits_at 31 c.turns._turn c.turns.nums c.turns.self whole (omega arith) missing.0 c.turns.invariant.same ∙ ap (λ rest. Some (c.turns.nums, rest)) (sym missing.1)

pub returns-in_err-num : goal.returns-in_err-num
returns-in_err-num c =
    let whole = with_front (c.args.first ∷ []) (more_at (codes "+") digits_at 31 c.args.self.now) in
    let found = eaten _ _ c.eat.result c.is_none.result c.eat.ensures c.is_none.ensures c.if-is_none.false in
    let nothing = loop_fails (codes "+") digits_at 31 c.turns._turn c.turns.nums c.turns.self c.eat.new.self whole (omega arith) found c.in_err-num.ensures c.turns.invariant.same in
    rw (nothing, c.from_residual.ensures) refl

pub turns-preserved : goal.turns-preserved
turns-preserved c =
    let whole = with_front (c.args.first ∷ []) (more_at (codes "+") digits_at 31 c.args.self.now) in
    let found = eaten _ _ c.eat.result c.is_none.result c.eat.ensures c.is_none.ensures c.if-is_none.false in
    let more = loop_goes_on (codes "+") digits_at 31 c.turns._turn c.turns.nums c.turns.self c.eat.new.self c.digits.new.self c.in_ok-num.num whole (omega arith) found c.in_ok-num.ensures c.turns.invariant.same in
    record {
      few = ap length c.with_num-nums.ensures ∙ omega (arith, length-append c.turns.nums (c.in_ok-num.num ∷ []), c.turns.invariant.few);
      same = rw c.with_num-nums.ensures more;
    }

pub returns : goal.returns
returns c =
    let whole = with_front (c.args.first ∷ []) (more_at (codes "+") digits_at 31 c.args.self.now) in
    loop_ends (codes "+") digits_at 31 c.turns._turn c.turns.nums c.turns.self whole (λ less. absurd (omega arith)) c.turns.invariant.same
