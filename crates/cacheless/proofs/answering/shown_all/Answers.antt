use Rattle.std.proofs.Common.{◌∙◌, ◌++◌, ◌∷◌, [], map, refl, ap}
use Rattle.command_answers.specs.declared.answer.Answer.TheVariants as answers
use Rattle.history_model.proofs.ListSteps.{map_next, all_done}
use Rattle.local_caches.specs.Caches.{kept_of}
use Rattle.cacheless.specs.State.{rows_kept, place_kept}
use Rattle.cacheless.specs.Told.{told_field}
use Rattle.cacheless.proofs.answering.shown_all.Goals as goal

pub returns : goal.returns
returns c =
    let told = told_field (rows_kept (kept_of c.args.caches.now)) (place_kept (kept_of c.args.caches.now)) c.args.locks.now.items c.args.rel c.args.kind in
    ap (answers.Shown c.args.kind c.args.rel) (all_done (map told) c.fields_of-field-items.result.now c.loop-field.field-index _ c.loop-field-test.false c.loop-field.invariant ∙ ap (map told) c.fields_of-field-items.ensures)

pub loop-field-preserved : goal.loop-field-preserved
loop-field-preserved c =
    c.in_ok-push.ensures.ok ∙ ap (λ shown. c.loop-field.fields ++ shown ∷ []) c.in_ok-shown_field.ensures
    ∙ map_next (told_field (rows_kept (kept_of c.args.caches.now)) (place_kept (kept_of c.args.caches.now)) c.args.locks.now.items c.args.rel c.args.kind) [] c.fields_of-field-items.result.now c.loop-field.field-index _ _ c.loop-field.fields c.loop-field-test.true refl c.loop-field.invariant
