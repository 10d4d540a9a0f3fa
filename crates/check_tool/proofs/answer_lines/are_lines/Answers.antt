use Rattle.std.proofs.Common.{◌≡◌, subst, arith}
use Rattle.std.specs.Bool.{Decides}
use Rattle.std.proofs.lemmas.Bool.Decides.{Decides-eqb}
use Rattle.std.proofs.lemmas.Slice.Eq.{slice_eq-Decides}
use Rattle.check_tool.proofs.AnswerLines.{left_first, left_more, left_never, left_last, left_typed}
use Rattle.check_tool.proofs.answer_lines.are_lines.Goals as goal

pub loop-line-init : goal.loop-line-init
loop-line-init c = left_first c.args.bytes.now c.args.lines.now

pub returns-in_default-clause-same : goal.returns-in_default-clause-same
returns-in_default-clause-same c =
    (λ yes. absurd cc, λ same. absurd (left_never c.args.bytes.now c.args.lines.now c.loop-line.line-index c.loop-line.left.now c.line-item.result _ c.loop-line-test.true c.line-item.is c.loop-line.invariant c.in_default.ensures.rest same))

pub loop-line-preserved : goal.loop-line-preserved
loop-line-preserved c = left_more c.args.bytes.now c.args.lines.now c.loop-line.line-index c.loop-line.left.now c.in-Some.rest.now c.line-item.result _ c.loop-line-test.true c.line-item.is c.loop-line.invariant c.in-Some.ensures.rest c.in-Some.ensures.typed

pub returns-clause-same : goal.returns-clause-same
returns-clause-same c = left_last c.args.bytes.now c.args.lines.now c.loop-line.line-index c.loop-line.left.now c.eq.result (omega (arith, c.loop-line-test.false)) c.loop-line.invariant
    (subst (λ end. Decides c.eq.result (c.loop-line.left.now ≡ end)) c.as_slice.ensures (slice_eq-Decides Decides-eqb c.loop-line.left.now c.as_slice.result.now c.eq.result c.eq.ensures))

pub returns-clause-typed : goal.returns-clause-typed
returns-clause-typed c = λ yes. left_typed c.args.bytes.now c.args.lines.now c.loop-line.line-index c.loop-line.left.now (omega (arith, c.loop-line-test.false)) c.loop-line.invariant
