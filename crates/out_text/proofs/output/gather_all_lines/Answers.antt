use Rattle.std.proofs.Common.{refl}
use Rattle.std.proofs.lemmas.Result.{err_from_is_err_and}
use Rattle.event_kinds.specs.Texts.{entries_text, lines_text}
use Rattle.out_text.proofs.Gathered.{second_gathered, first_not_gathered}
use Rattle.out_text.proofs.output.gather_all_lines.Goals as goal

pub returns-in_err-gather_entries-clause-bytes : goal.returns-in_err-gather_entries-clause-bytes
returns-in_err-gather_entries-clause-bytes g c =
    let failed = err_from_is_err_and c.from_residual.result c.from_residual.ensures.1 in
    first_not_gathered _ _ _ c.from_residual.result _ _ (entries_text c.args.history.now) (lines_text c.args.lines.now) _ refl c.in_err-gather_entries.was failed.1 c.gather_entries.ensures.bytes

pub returns-clause-bytes : goal.returns-clause-bytes
returns-clause-bytes g c =
    second_gathered _ _ _ _ _ c.gather_lines.result (entries_text c.args.history.now) (lines_text c.args.lines.now) _ refl c.in_ok-gather_entries.was c.gather_entries.ensures.bytes c.gather_lines.ensures.bytes
