use Rattle.std.proofs.Common.{◌∙◌, ◌&&◌, ap, sym}
use Rattle.cacheless.specs.Owed.{is_free}
use Rattle.cacheless.specs.State.{facts_at, work_at, is_out}
use Rattle.cacheless.proofs.Resting.{over_is}
use Rattle.cacheless.proofs.progress.Progress.is_finished.Goals as goal

pub returns : goal.returns
returns c = c.has_ended.ensures ∙ sym (ap (λ t. is_out c.args.self.now && t && is_free (facts_at c.args.self.now) c.args.command.now (work_at c.args.self.now)) (over_is (facts_at c.args.self.now) c.args.command.now (work_at c.args.self.now)))
