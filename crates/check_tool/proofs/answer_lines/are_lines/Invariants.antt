use Rattle.check_tool.proofs.AnswerLines.{IsLeft}
use Rattle.check_tool.proofs.answer_lines.are_lines.Given as goal

abbrev pub invariant-loop-line : goal.invariant-loop-line
invariant-loop-line l = IsLeft l.bytes l.lines l.line-index l.left
