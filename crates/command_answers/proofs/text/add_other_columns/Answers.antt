use Rattle.std.proofs.Common.{◌++◌, codes, take}
use Rattle.std.specs.List.{flat_map}
use Rattle.command_answers.specs.Answers.{column_text}
use Rattle.std.proofs.lemmas.Result.{err_from_is_err_and}
use Rattle.base_types.proofs.Added.{extends_more, first_not_added}
use Rattle.command_answers.proofs.text.add_other_columns.Goals as goal

pub returns-in_err-add_text-clause-text : goal.returns-in_err-add_text-clause-text
returns-in_err-add_text-clause-text c =
    let failed = err_from_is_err_and c.from_residual.result c.from_residual.ensures.1 in
    first_not_added _ _ c.from_residual.result _ _ failed.1 (extends_more _ c.loop-column.out.items _ (flat_map (λ column. codes " " ++ column_text column) (take c.loop-column.column-index c.args.columns.now)) c.loop-column.invariant.text c.in_err-add_text.ensures)
