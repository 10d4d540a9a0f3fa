use Rattle.std.proofs.Common.{◌∙◌, Option, ap, sym}
use Rattle.history_model.proofs.ListSteps.{given_at, none_at}
use Rattle.cacheless.specs.Types.{Command}
use Rattle.cacheless.specs.Rule.{may_come}
use Rattle.cacheless.specs.State.{facts_at, work_at}
use Rattle.cacheless.proofs.progress.Progress.may_now.Goals as goal

pub returns-in-Some : goal.returns-in-Some
returns-in-Some c = c.may_play_in.ensures ∙ ap (λ (o : Option Command). may_come c.args.next_oid (facts_at c.args.self.now) o (work_at c.args.self.now) c.args.event.now) (sym (given_at c.args.self.now.commands c.as_slice.result.now c.args.self.now.finished c.in-Some.command.now c.as_slice.ensures (c.in-Some.ensures.lookup.3).0 c.in-Some.ensures.lookup.1))

pub returns-in-None : goal.returns-in-None
returns-in-None c = c.may_last.ensures ∙ ap (λ (o : Option Command). may_come c.args.next_oid (facts_at c.args.self.now) o (work_at c.args.self.now) c.args.event.now) (sym (none_at c.args.self.now.commands c.as_slice.result.now c.args.self.now.finished c.as_slice.ensures c.in-None.ensures.lookup.0))
