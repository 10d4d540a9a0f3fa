use Rattle.std.proofs.Common.{◌∙◌, is_none, sym}
use Rattle.std.proofs.lemmas.Bool.{and_parts}
use Rattle.history_model.proofs.ListSteps.{given_at, none_at}
use Rattle.cacheless.specs.Silently.{is_to_answer}
use Rattle.cacheless.proofs.Answers.Telling.{not_some, finishes, settled_now, settled_after_all}
use Rattle.cacheless.proofs.progress.Progress.silent.Goals as goal

pub returns-then-is_finished : goal.returns-then-is_finished
returns-then-is_finished c = finishes c.args.self.now c.in-Some.command.now
    (given_at c.args.self.now.commands c.as_slice.result.now c.args.self.now.finished c.in-Some.command.now c.as_slice.ensures (c.in-Some.ensures.lookup.3).0 c.in-Some.ensures.lookup.1)
    (sym c.answers.ensures ∙ c.if-answers.false) (sym c.is_finished.ensures ∙ c.if-is_finished.true)

pub returns : goal.returns
returns c = settled_now c.args.self.now c.in-Some.command.now
    (given_at c.args.self.now.commands c.as_slice.result.now c.args.self.now.finished c.in-Some.command.now c.as_slice.ensures (c.in-Some.ensures.lookup.3).0 c.in-Some.ensures.lookup.1)
    (sym c.acts.ensures ∙ c.if-acts.false) (sym c.answers.ensures ∙ c.if-answers.false) (sym c.is_finished.ensures ∙ c.if-is_finished.false)

pub returns-then-acts : goal.returns-then-acts
returns-then-acts c = record { command = c.in-Some.command.now; at = given_at c.args.self.now.commands c.as_slice.result.now c.args.self.now.finished c.in-Some.command.now c.as_slice.ensures (c.in-Some.ensures.lookup.3).0 c.in-Some.ensures.lookup.1; acts = sym c.acts.ensures ∙ c.if-acts.true }

pub returns-then-answers : goal.returns-then-answers
returns-then-answers c =
    let both = and_parts (is_none c.args.self.now.answer) (is_to_answer c.in-Some.command.now c.args.self.now) (sym c.answers.ensures ∙ c.if-answers.true) in
    record { command = c.in-Some.command.now; at = given_at c.args.self.now.commands c.as_slice.result.now c.args.self.now.finished c.in-Some.command.now c.as_slice.ensures (c.in-Some.ensures.lookup.3).0 c.in-Some.ensures.lookup.1; asked = both.1; none = not_some c.args.self.now.answer both.0 }

pub returns-in_default : goal.returns-in_default
returns-in_default c = settled_after_all c.args.self.now (none_at c.args.self.now.commands c.as_slice.result.now c.args.self.now.finished c.as_slice.ensures c.in_default.ensures.lookup.0)
