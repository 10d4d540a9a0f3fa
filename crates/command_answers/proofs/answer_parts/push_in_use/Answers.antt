use Rattle.command_answers.proofs.Parts.{pushed_twice}
use Rattle.command_answers.proofs.answer_parts.push_in_use.Goals as goal

pub returns-clause-text : goal.returns-clause-text
returns-clause-text c = pushed_twice _ _ _ _ _ c.push_around.ensures.text c.push_number.ensures.text
