use Rattle.std.proofs.Common.{◌<◌, ◌++◌, codes, length, take, arith}
use Rattle.std.proofs.lemmas.Result.{err_from_is_err_and}
use Rattle.base_types.proofs.Added.{adding_more, extends_more, first_not_added}
use Rattle.command_answers.specs.Answers.{shown_list, shown_text}
use Rattle.command_answers.proofs.InLine.{more_in_line}
use Rattle.command_answers.proofs.text.add_fields.Goals as goal

pub returns-in_err-add_next-clause-text : goal.returns-in_err-add_next-clause-text
returns-in_err-add_next-clause-text c =
    let failed = err_from_is_err_and c.from_residual.result c.from_residual.ensures.1 in
    first_not_added _ _ c.from_residual.result _ _ failed.1 (extends_more _ c.loop-shown.out.items _ (shown_list (take c.loop-shown.shown-index c.args.fields.now)) c.loop-shown.invariant.text c.in_err-add_next.ensures.text)

pub loop-shown-preserved : goal.loop-shown-preserved
loop-shown-preserved c =
    let within : c.loop-shown.shown-index < length c.args.fields.now = omega arith in
    record {
      text = adding_more (λ shown. codes "; " ++ shown_text shown) c.args.fields.now c.loop-shown.shown-index _ _ _ _ within c.shown-item.is c.loop-shown.invariant.text c.in_ok-add_next.ensures.text;
      in_line = more_in_line (λ shown. codes "; " ++ shown_text shown) c.args.fields.now c.loop-shown.shown-index _ within c.shown-item.is c.loop-shown.invariant.in_line c.in_ok-add_next.ensures.in_line;
    }
