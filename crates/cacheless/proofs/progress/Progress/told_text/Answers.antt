use Rattle.std.proofs.Common.{◌∙◌, ◌++◌, ap}
use Rattle.command_answers.specs.Answers.{answer_text}
use Rattle.cacheless.proofs.progress.Progress.told_text.Goals as goal

pub returns : goal.returns
returns c = c.new.ensures ∙ c.in_ok-answer_text.ensures.ok ∙ ap (λ l. l ++ answer_text c.in_ok-told.told) c.new-text.ensures.items ∙ ap answer_text c.in_ok-told.ensures
