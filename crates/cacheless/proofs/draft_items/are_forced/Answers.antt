use Rattle.std.proofs.Common.{◌<◌, ◌∙◌, ◌&&◌, ◌+◌, ap, sym, length, drop, arith}
use Rattle.cacheless.specs.SameItems.{forced_match}
use Rattle.cacheless.proofs.Matching.{forced_at, forced_end, forced_long}
use Rattle.cacheless.proofs.draft_items.are_forced.Goals as goal

pub returns-then-items-forced : goal.returns-then-items-forced
returns-then-items-forced c = sym (forced_long c.args.items.now c.args.forced.now c.if-items-forced.true)

pub returns-then-not-is_forced : goal.returns-then-not-is_forced
returns-then-not-is_forced c =
    let within : c.loop-i.i < length c.args.items.now = omega (arith, c.loop-i-test.true, c.if-items-forced.false) in
    sym (c.loop-i.invariant ∙ forced_at c.args.items.now c.args.forced.now c.loop-i.i c.index-items-i.result (record { 0 = 0 }) within c.loop-i-test.true c.index-items-i.is
    ∙ ap (λ t. t && forced_match (drop (c.loop-i.i + 1) c.args.items.now) (drop (c.loop-i.i + 1) c.args.forced.now)) (sym c.is_forced.ensures ∙ c.if-not-is_forced.true))

pub loop-i-preserved : goal.loop-i-preserved
loop-i-preserved c =
    let within : c.loop-i.i < length c.args.items.now = omega (arith, c.loop-i-test.true, c.if-items-forced.false) in
    c.loop-i.invariant ∙ forced_at c.args.items.now c.args.forced.now c.loop-i.i c.index-items-i.result (record { 0 = 0 }) within c.loop-i-test.true c.index-items-i.is
    ∙ ap (λ t. t && forced_match (drop (c.loop-i.i + 1) c.args.items.now) (drop (c.loop-i.i + 1) c.args.forced.now)) (sym c.is_forced.ensures ∙ c.if-not-is_forced.false)

pub returns : goal.returns
returns c = sym (c.loop-i.invariant ∙ forced_end c.args.items.now c.args.forced.now c.loop-i.i (omega (arith, c.loop-i-test.false, c.if-items-forced.false)) c.loop-i-test.false)
