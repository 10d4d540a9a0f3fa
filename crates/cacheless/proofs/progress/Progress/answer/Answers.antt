use Rattle.std.proofs.Common.{◌≡◌, ◌∙◌, Some, None, sym, refl, arith}
use Rattle.history_model.proofs.ListSteps.{given_at, none_at}
use Rattle.cacheless.specs.Silently.{HasAnswered}
use Rattle.cacheless.proofs.Lacking.{with_known}
use Rattle.cacheless.proofs.Passing.{none_answered}
use Rattle.cacheless.proofs.progress.Progress.answer.Goals as goal

pub returns-clause-answers : goal.returns-clause-answers
returns-clause-answers c = with_known (HasAnswered c.args.self.now) (record c.args.self.now { answer = Some c.in_ok-text.text }) _ (record {
  command = c.in-Some.command.now;
  at = given_at c.args.self.now.commands c.as_slice.result.now c.args.self.now.finished c.in-Some.command.now c.as_slice.ensures (c.in-Some.ensures.lookup.3).0 c.in-Some.ensures.lookup.1;
  text = c.in_ok-text.text;
  told = c.in_ok-text.ensures;
  is = refl;
})

pub unreachable-requires : goal.unreachable-requires
unreachable-requires c = let both : Some c.requires.answers.command ≡ None = sym c.requires.answers.at ∙ none_at c.args.self.now.commands c.as_slice.result.now c.args.self.now.finished c.as_slice.ensures c.in_default.ensures.lookup.0 in absurd (cc both)

pub returns-clause-less : goal.returns-clause-less
returns-clause-less c = let asked = none_answered c.args.self.now.answer c.requires.answers.none in omega (arith, asked)
