use Rattle.std.proofs.Common.{◌<◌, length, arith, refl, rules, subst, ◌∙◌}
use Rattle.std.proofs.lemmas.Result.{err_from_is_err_and}
use Rattle.std.proofs.lemmas.List.Elements.{All-more}
use Rattle.event_kinds.specs.Entries.{IsLine}
use Rattle.event_kinds.specs.Texts.{ended, line_text}
use Rattle.out_text.proofs.Gathered.{none_so_far, one_more, next_not_gathered}
use Rattle.out_text.proofs.lines.gather_lines.Goals as goal

pub loop-line-init : goal.loop-line-init
loop-line-init g c = record { so_far = none_so_far _; steady = refl; typed = search rules }

pub returns-in_err-gather_line-clause-bytes : goal.returns-in_err-gather_line-clause-bytes
returns-in_err-gather_line-clause-bytes g c =
    let failed = err_from_is_err_and c.from_residual.result c.from_residual.ensures.1 in
    let within : c.loop-line.line-index < length c.args.lines.now = omega arith in
    next_not_gathered (λ line. ended (line_text line)) c.args.lines.now c.loop-line.line-index _ _ _ _ _ _ c.from_residual.result _ within c.line-item.is c.loop-line.invariant.so_far c.in_err-gather_line.was failed.1 c.gather_line.ensures.bytes

pub loop-line-preserved : goal.loop-line-preserved
loop-line-preserved g c =
    let within : c.loop-line.line-index < length c.args.lines.now = omega arith in
    record {
      so_far = one_more (λ line. ended (line_text line)) c.args.lines.now c.loop-line.line-index _ _ _ _ _ _ within c.line-item.is c.loop-line.invariant.so_far c.in_ok-gather_line.was c.gather_line.ensures.bytes;
      steady = c.in_ok-gather_line.ensures.cause.steady ∙ c.loop-line.invariant.steady;
      typed = All-more IsLine c.args.lines.now c.loop-line.line-index _ within c.loop-line.invariant.typed (subst IsLine c.line-item.is c.in_ok-gather_line.ensures.typed);
    }
