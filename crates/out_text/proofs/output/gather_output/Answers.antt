use Rattle.std.proofs.Common.{◌++◌, codes, refl}
use Rattle.std.proofs.lemmas.Result.{err_from_is_err_and}
use Rattle.event_kinds.specs.Texts.{entries_text, lines_text}
use Rattle.out_text.proofs.Gathered.{second_gathered, first_not_gathered}
use Rattle.out_text.proofs.output.gather_output.Goals as goal

pub returns-in_err-gather_all_lines-clause-bytes : goal.returns-in_err-gather_all_lines-clause-bytes
returns-in_err-gather_all_lines-clause-bytes g c =
    let failed = err_from_is_err_and c.from_residual.result c.from_residual.ensures.1 in
    first_not_gathered _ _ _ c.from_residual.result _ _ (entries_text c.args.history.now ++ lines_text c.args.lines.now) (codes "end\n") _ refl c.in_err-gather_all_lines.was failed.1 c.gather_all_lines.ensures.bytes

pub returns-clause-bytes : goal.returns-clause-bytes
returns-clause-bytes g c =
    second_gathered _ _ _ _ _ c.send.result (entries_text c.args.history.now ++ lines_text c.args.lines.now) (codes "end\n") _ refl c.in_ok-gather_all_lines.was c.gather_all_lines.ensures.bytes c.send.ensures.bytes
