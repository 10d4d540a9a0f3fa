use Rattle.std.proofs.Common.{◌∙◌, ◌∷◌, ◌++◌, [], ap, sym}
use Rattle.ddl_effect.specs.Commands.{live_column}
use Rattle.ddl_effect.proofs.Listing.{taken_some, taken_none}
use Rattle.ddl_effect.proofs.reads.live_columns.Goals as goal
use Rattle.ddl_effect.proofs.reads.live_columns.Goals.{in-Some+in_ok-push, in_default}

pub loop-row-preserved : goal.loop-row-preserved
loop-row-preserved c = elim c.match-live_column.branch [
  | in-Some+in_ok-push w ↦ w.columns-is ∙ w.in_ok-push.ensures.ok ∙ ap (λ l. l ++ w.in-Some.column ∷ []) c.loop-row.invariant
      ∙ sym (taken_some live_column c.args.rows.now c.loop-row.row-index c.row-item.result w.in-Some.column c.loop-row-test.true c.row-item.is (sym c.live_column.ensures ∙ w.in-Some.is))
  | in_default w ↦ w.columns-is ∙ c.loop-row.invariant
      ∙ sym (taken_none live_column c.args.rows.now c.loop-row.row-index c.row-item.result c.loop-row-test.true c.row-item.is (sym c.live_column.ensures ∙ w.in_default.is))
]
