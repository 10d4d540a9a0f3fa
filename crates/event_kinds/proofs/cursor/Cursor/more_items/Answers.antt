use Rattle.std.proofs.Common.{◌≡◌, ◌-◌, length, codes, Some, ap, sym, ◌∙◌, arith}
use Rattle.event_kinds.specs.Readers.{more_at, with_front}
use Rattle.event_kinds.specs.Reading.{item_at, rest_items_at}
use Rattle.event_kinds.proofs.Loops.{loop_stops, loop_fails, loop_goes_on, loop_ends, not_eaten, eaten}
use Rattle.event_kinds.proofs.cursor.Cursor.more_items.Goals as goal

pub turns-init : goal.turns-init
unfolding rest_items_at
turns-init c =
    let most : c.len-most.result - 0 ≡ length c.args.self.now = omega (arith, c.len-most.ensures) in
    ap (λ n. with_front c.args.items (more_at (codes " ") item_at n c.args.self.now)) most

pub returns-then-is_none : goal.returns-then-is_none
returns-then-is_none c =
    let whole = with_front c.args.items (rest_items_at c.args.self.now) in
    let missing = not_eaten _ _ c.eat.result c.is_none.result c.eat.ensures c.is_none.ensures c.if-is_none.true in
    loop_stops (codes " ") item_at c.len-most.result c.turns._turn c.turns.items c.turns.self whole c.turns-test.true missing.0 c.turns.invariant ∙ ap (λ rest. Some (c.turns.items, rest)) (sym missing.1)

pub returns-in_default : goal.returns-in_default
returns-in_default c =
    let whole = with_front c.args.items (rest_items_at c.args.self.now) in
    let found = eaten _ _ c.eat.result c.is_none.result c.eat.ensures c.is_none.ensures c.if-is_none.false in
    loop_fails (codes " ") item_at c.len-most.result c.turns._turn c.turns.items c.turns.self c.eat.new.self whole c.turns-test.true found c.in_default.ensures c.turns.invariant

pub turns-preserved : goal.turns-preserved
turns-preserved c =
    let whole = with_front c.args.items (rest_items_at c.args.self.now) in
    let found = eaten _ _ c.eat.result c.is_none.result c.eat.ensures c.is_none.ensures c.if-is_none.false in
    rw c.in_ok-add_item.ensures.ok (loop_goes_on (codes " ") item_at c.len-most.result c.turns._turn c.turns.items c.turns.self c.eat.new.self c.item.new.self c.in-Some.item whole c.turns-test.true found c.in-Some.ensures c.turns.invariant)

pub returns : goal.returns
returns c =
    let whole = with_front c.args.items (rest_items_at c.args.self.now) in
    loop_ends (codes " ") item_at c.len-most.result c.turns._turn c.turns.items c.turns.self whole (λ less. absurd (omega arith)) c.turns.invariant
