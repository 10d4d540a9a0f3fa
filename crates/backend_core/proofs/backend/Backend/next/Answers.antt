use Rattle.std.proofs.Common.{◌∙◌, ap}
use Rattle.history_model.proofs.ListSteps.{given_at, none_at}
use Rattle.cacheless.specs.State.{facts_at, work_at}
use Rattle.backend_core.specs.Choice.{noted_of, next_of}
use Rattle.backend_core.proofs.backend.Backend.next.Goals as goal

pub next_of_command-requires-clause-at : goal.next_of_command-requires-clause-at
next_of_command-requires-clause-at c = given_at c.args.self.now.progress.commands c.as_slice.result.now c.args.self.now.progress.finished c.in-Some.command.now c.as_slice.ensures (c.in-Some.ensures.lookup.3).0 c.in-Some.ensures.lookup.1

pub next_after_all-requires-clause-none : goal.next_after_all-requires-clause-none
next_after_all-requires-clause-none c = none_at c.args.self.now.progress.commands c.as_slice.result.now c.args.self.now.progress.finished c.as_slice.ensures c.in-None.ensures.lookup.0

pub returns-in-Some-clause-is : goal.returns-in-Some-clause-is
returns-in-Some-clause-is c = ap (λ o. next_of (facts_at c.args.self.now.progress) o (work_at c.args.self.now.progress) (noted_of c.args.self.now)) (given_at c.args.self.now.progress.commands c.as_slice.result.now c.args.self.now.progress.finished c.in-Some.command.now c.as_slice.ensures (c.in-Some.ensures.lookup.3).0 c.in-Some.ensures.lookup.1) ∙ c.next_of_command.ensures.is

pub returns-in-None-clause-is : goal.returns-in-None-clause-is
returns-in-None-clause-is c = ap (λ o. next_of (facts_at c.args.self.now.progress) o (work_at c.args.self.now.progress) (noted_of c.args.self.now)) (none_at c.args.self.now.progress.commands c.as_slice.result.now c.args.self.now.progress.finished c.as_slice.ensures c.in-None.ensures.lookup.0) ∙ c.next_after_all.ensures.is
