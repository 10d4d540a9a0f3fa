use Rattle.std.proofs.Common.{◌∙◌, not, ap, sym}
use Rattle.history_model.proofs.ListSteps.{given_at, none_at}
use Rattle.cacheless.specs.State.{is_in_accept}
use Rattle.cacheless.proofs.progress.Progress.is_in_acceptance.Goals as goal

pub returns-in-Some : goal.returns-in-Some
returns-in-Some c = c.is_accepting.ensures ∙ ap (is_in_accept c.args.self.now) (sym (given_at c.args.self.now.commands c.as_slice.result.now c.args.self.now.finished c.in-Some.command.now c.as_slice.ensures (c.in-Some.ensures.lookup.3).0 c.in-Some.ensures.lookup.1))

pub returns-in-None : goal.returns-in-None
returns-in-None c = ap not c.is_past_accept.ensures ∙ ap (is_in_accept c.args.self.now) (sym (none_at c.args.self.now.commands c.as_slice.result.now c.args.self.now.finished c.as_slice.ensures c.in-None.ensures.lookup.0))
