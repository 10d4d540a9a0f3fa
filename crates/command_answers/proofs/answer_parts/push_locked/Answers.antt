use Rattle.std.proofs.Common.{ap, ◌++◌, ◌∙◌, codes, decimal}
use Rattle.base_types.specs.Words.{mode_word}
use Rattle.command_answers.proofs.Parts.{pushed_twice}
use Rattle.command_answers.proofs.answer_parts.push_locked.Goals as goal

pub returns-clause-text : goal.returns-clause-text
returns-clause-text c =
    let line = c.args.line.now in
    let relation = codes "55P03 relation " ++ decimal c.args.rel.0 ++ codes " is locked by backend " in
    let holder = pushed_twice line c.push_between.new.line c.push_number.new.self relation (decimal c.args.holder) c.push_between.ensures.text c.push_number.ensures.text in
    let word = pushed_twice line c.push_number.new.self c.push.new.self (relation ++ decimal c.args.holder) (codes " in ") holder c.push.ensures.text in
    let mode = c.push-2.ensures.text ∙ ap (λ word. c.push.new.self ++ word) c.word.ensures.text in
    pushed_twice line c.push.new.self c.push-2.new.self (relation ++ decimal c.args.holder ++ codes " in ") (mode_word c.args.mode) word mode
