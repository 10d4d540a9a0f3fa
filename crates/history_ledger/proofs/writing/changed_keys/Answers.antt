use Rattle.std.proofs.Common.{◌∙◌, ◌++◌, ap, sym, append-nil, arith, []}
use Rattle.std.specs.List.{flat_map}
use Rattle.std.specs.Option.{option_to_list}
use Rattle.history_model.specs.Changing.{changed_key}
use Rattle.history_model.proofs.ListSteps.{flat_map_next, all_done}
use Rattle.history_ledger.proofs.writing.changed_keys.Goals.{in-Some+in_ok-push, in_default}
use Rattle.history_ledger.proofs.writing.changed_keys.Goals as goal

pub loop-item-preserved : goal.loop-item-preserved
loop-item-preserved c =
    let next = flat_map_next changed_key [] c.args.items.now c.loop-item.item-index c.item-item.result _ _ c.loop-item-test.true c.item-item.is c.loop-item.invariant in
    elim c.match-key_of_change.branch [
      | in-Some+in_ok-push w ↦ ap (λ v. v.items) w.keys-is ∙ w.in_ok-push.ensures.items ∙ ap (λ l. c.loop-item.keys.items ++ l) (ap option_to_list (sym w.in-Some.is) ∙ c.key_of_change.ensures) ∙ next
      | in_default w ↦ ap (λ v. v.items) w.keys-is ∙ sym (append-nil c.loop-item.keys.items) ∙ ap (λ l. c.loop-item.keys.items ++ l) (ap option_to_list (sym w.in_default.is) ∙ c.key_of_change.ensures) ∙ next
    ]

pub returns : goal.returns
returns c = all_done (flat_map changed_key) c.args.items.now c.loop-item.item-index c.loop-item.keys.items (omega (arith, c.loop-item-test.false)) c.loop-item.invariant
