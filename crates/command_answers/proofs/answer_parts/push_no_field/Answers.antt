use Rattle.std.proofs.Common.{ap, ◌++◌, ◌∙◌}
use Rattle.base_types.specs.Words.{field_word}
use Rattle.command_answers.proofs.Parts.{pushed_twice}
use Rattle.command_answers.proofs.answer_parts.push_no_field.Goals as goal

pub returns-clause-text : goal.returns-clause-text
returns-clause-text c = pushed_twice _ _ _ _ (field_word c.args.field) c.push_around.ensures.text (c.push.ensures.text ∙ ap (λ word. c.push_around.new.line ++ word) c.word.ensures.text)
