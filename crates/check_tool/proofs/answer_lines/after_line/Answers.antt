use Rattle.std.proofs.Common.{◌++◌, ◌∙◌, ap}
use Rattle.event_kinds.specs.Texts.{line_head}
use Rattle.check_tool.proofs.AnswerLines.{line_ends, no_head, no_text, read_line}
use Rattle.check_tool.proofs.answer_lines.after_line.Goals as goal

pub returns-in_err-text-clause-rest : goal.returns-in_err-text-clause-rest
returns-in_err-text-clause-rest c =
    rw c.from_residual.ensures (no_head c.args.line.now c.args.bytes.now c.as_bytes.result.now
    (c.as_bytes.ensures.text ∙ c.push_line_head.ensures.text ∙ ap (λ head. head ++ line_head c.args.line.now) c.new-head.ensures) c.in_err-text.ensures)

pub returns-in_err-end-clause-rest : goal.returns-in_err-end-clause-rest
returns-in_err-end-clause-rest c =
    rw c.from_residual-in_err-end.ensures (no_text c.args.line.now c.args.bytes.now c.as_bytes.result.now c.in_ok-text.text.now c.as_bytes-2.result.now
    (c.as_bytes.ensures.text ∙ c.push_line_head.ensures.text ∙ ap (λ head. head ++ line_head c.args.line.now) c.new-head.ensures)
    c.as_bytes-2.ensures.text c.in_ok-text.ensures c.in_err-end.ensures)

pub returns-clause-rest : goal.returns-clause-rest
returns-clause-rest c =
    line_ends c.args.line.now c.args.bytes.now c.as_bytes.result.now c.in_ok-text.text.now c.as_bytes-2.result.now c.in_ok-end.end.now c.after-3.result
    (c.as_bytes.ensures.text ∙ c.push_line_head.ensures.text ∙ ap (λ head. head ++ line_head c.args.line.now) c.new-head.ensures)
    c.as_bytes-2.ensures.text c.in_ok-text.ensures c.in_ok-end.ensures c.after-3.ensures

pub returns-clause-typed : goal.returns-clause-typed
returns-clause-typed c =
    read_line c.args.line.now c.after-3.result (record { backend = c.push_line_head.ensures.numbers.0; command = c.push_line_head.ensures.numbers.1; text = c.as_bytes-2.ensures.in_line })

pub returns-in_err-text-clause-typed : goal.returns-in_err-text-clause-typed
returns-in_err-text-clause-typed c = rw c.from_residual.ensures tt

pub returns-in_err-end-clause-typed : goal.returns-in_err-end-clause-typed
returns-in_err-end-clause-typed c = rw c.from_residual-in_err-end.ensures tt
