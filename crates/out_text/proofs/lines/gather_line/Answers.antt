use Rattle.std.proofs.Common.{codes, refl}
use Rattle.std.proofs.lemmas.Result.{err_from_is_err_and}
use Rattle.event_kinds.specs.Texts.{line_text}
use Rattle.out_text.proofs.Gathered.{second_gathered, first_not_gathered}
use Rattle.out_text.proofs.lines.gather_line.Goals as goal

pub returns-in_err-gather_line_text-clause-bytes : goal.returns-in_err-gather_line_text-clause-bytes
returns-in_err-gather_line_text-clause-bytes g c =
    let failed = err_from_is_err_and c.from_residual.result c.from_residual.ensures.1 in
    first_not_gathered _ _ _ c.from_residual.result _ _ (line_text c.args.line.now) (codes "\n") _ refl c.in_err-gather_line_text.was failed.1 c.gather_line_text.ensures.bytes

pub returns-clause-bytes : goal.returns-clause-bytes
returns-clause-bytes g c =
    second_gathered _ _ _ _ _ c.send.result (line_text c.args.line.now) (codes "\n") _ refl c.in_ok-gather_line_text.was c.gather_line_text.ensures.bytes c.send.ensures.bytes
