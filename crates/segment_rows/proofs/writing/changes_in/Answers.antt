use Rattle.std.proofs.Common.{◌∙◌, ◌++◌, ap, sym, append-nil, arith, []}
use Rattle.std.specs.List.{flat_map}
use Rattle.std.specs.Option.{option_to_list}
use Rattle.history_model.proofs.ListSteps.{flat_map_next, all_done}
use Rattle.segment_rows.specs.Words.{change_in}
use Rattle.segment_rows.proofs.writing.changes_in.Goals.{in-Some+in_ok-push, in_default}
use Rattle.segment_rows.proofs.writing.changes_in.Goals as goal

pub loop-item-preserved : goal.loop-item-preserved
loop-item-preserved c =
    let next = flat_map_next (λ item. option_to_list (change_in item)) [] c.args.items.now c.loop-item.item-index c.item-item.result _ _ c.loop-item-test.true c.item-item.is c.loop-item.invariant in
    elim c.match-change_of.branch [
      | in-Some+in_ok-push w ↦ ap (λ v. v.items) w.changes-is ∙ w.in_ok-push.ensures.items ∙ ap (λ o. c.loop-item.changes.items ++ option_to_list o) (sym w.in-Some.is ∙ c.change_of.ensures) ∙ next
      | in_default w ↦ ap (λ v. v.items) w.changes-is ∙ sym (append-nil c.loop-item.changes.items) ∙ ap (λ o. c.loop-item.changes.items ++ option_to_list o) (sym w.in_default.is ∙ c.change_of.ensures) ∙ next
    ]

pub returns : goal.returns
returns c = all_done (flat_map (λ item. option_to_list (change_in item))) c.args.items.now c.loop-item.item-index c.loop-item.changes.items (omega (arith, c.loop-item-test.false)) c.loop-item.invariant
