use Rattle.std.proofs.Common.{◌<◌, ◌∙◌, ◌&&◌, ◌+◌, ap, sym, length, drop, arith}
use Rattle.cacheless.specs.SameItems.{changes_match}
use Rattle.cacheless.proofs.Matching.{changes_at, changes_end}
use Rattle.cacheless.proofs.draft_items.are_changes.Goals as goal

pub returns-then-not-is_change : goal.returns-then-not-is_change
returns-then-not-is_change c =
    let within : c.loop-i.i < length c.args.items.now = omega (arith, c.loop-i-test.true, c.requires) in
    sym (c.loop-i.invariant ∙ changes_at c.args.next c.args.new_oids c.args.items.now c.args.changes.now c.loop-i.i c.index-items-i.result c.index-changes-i.result within c.loop-i-test.true c.index-items-i.is c.index-changes-i.is
    ∙ ap (λ t. t && changes_match c.args.next c.args.new_oids (drop (c.loop-i.i + 1) c.args.items.now) (drop (c.loop-i.i + 1) c.args.changes.now)) (sym c.is_change.ensures ∙ c.if-not-is_change.true))

pub loop-i-preserved : goal.loop-i-preserved
loop-i-preserved c =
    let within : c.loop-i.i < length c.args.items.now = omega (arith, c.loop-i-test.true, c.requires) in
    c.loop-i.invariant ∙ changes_at c.args.next c.args.new_oids c.args.items.now c.args.changes.now c.loop-i.i c.index-items-i.result c.index-changes-i.result within c.loop-i-test.true c.index-items-i.is c.index-changes-i.is
    ∙ ap (λ t. t && changes_match c.args.next c.args.new_oids (drop (c.loop-i.i + 1) c.args.items.now) (drop (c.loop-i.i + 1) c.args.changes.now)) (sym c.is_change.ensures ∙ c.if-not-is_change.false)

pub returns : goal.returns
returns c = sym (c.loop-i.invariant ∙ changes_end c.args.next c.args.new_oids c.args.items.now c.args.changes.now c.loop-i.i (omega (arith, c.loop-i-test.false, c.requires)) c.loop-i-test.false)
