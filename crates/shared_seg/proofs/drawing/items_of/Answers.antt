use Rattle.std.proofs.Common.{◌∙◌, ◌++◌, ◌∷◌, [], map, append-nil, ap, sym, refl}
use Rattle.event_kinds.specs.declared.entry.Item.TheVariants.{Force}
use Rattle.history_model.specs.Changes.{item_of}
use Rattle.history_model.proofs.ListSteps.{map_next, all_done}
use Rattle.shared_seg.proofs.drawing.items_of.Goals as goal

pub loop-rel-preserved : goal.loop-rel-preserved
loop-rel-preserved c = c.in_ok-push-2.ensures.items ∙ map_next Force (map item_of c.args.changes.now) c.args.forced.now c.loop-rel.rel-index _ _ _ c.loop-rel-test.true refl c.loop-rel.invariant

pub loop-change-preserved : goal.loop-change-preserved
loop-change-preserved c = c.in_ok-push.ensures.items ∙ ap (λ x. c.loop-change.items.items ++ x ∷ []) c.item_of.ensures ∙ map_next item_of [] c.args.changes.now c.loop-change.change-index c.change-item.result _ _ c.loop-change-test.true c.change-item.is c.loop-change.invariant

pub returns : goal.returns
returns c = all_done (λ l. map item_of c.args.changes.now ++ map Force l) c.args.forced.now c.loop-rel.rel-index _ c.loop-rel-test.false c.loop-rel.invariant

pub loop-rel-init : goal.loop-rel-init
loop-rel-init c = all_done (map item_of) c.args.changes.now c.loop-change.change-index _ c.loop-change-test.false c.loop-change.invariant ∙ sym (append-nil (map item_of c.args.changes.now))
