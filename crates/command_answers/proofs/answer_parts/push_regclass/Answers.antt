use Rattle.std.proofs.Common.{codes, decimal, refl}
use Rattle.base_types.proofs.InLine.{decimal_in_line, joined_in_line, name_in_line}
use Rattle.command_answers.proofs.answer_parts.push_regclass.Goals as goal

pub returns-in-None-clause-in_line : goal.returns-in-None-clause-in_line
returns-in-None-clause-in_line c = rw c.in-None.is (joined_in_line (decimal c.args.rel.0) (codes " none") (decimal_in_line c.args.rel.0) refl)

pub returns-in-Some-clause-in_line : goal.returns-in-Some-clause-in_line
returns-in-Some-clause-in_line c = rw c.in-Some.is (name_in_line _ c.as_bytes.ensures.spelled)
