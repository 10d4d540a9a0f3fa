use Rattle.std.proofs.Common.{ap, ◌++◌, ◌∙◌}
use Rattle.command_answers.proofs.Parts.{pushed_twice}
use Rattle.command_answers.proofs.answer_parts.push_depends.Goals as goal

pub returns-clause-text : goal.returns-clause-text
returns-clause-text c = pushed_twice _ _ _ _ c.args.name.now c.push.ensures.text (c.push-2.ensures.text ∙ ap (λ name. c.push.new.self ++ name) c.as_bytes.ensures.text)
