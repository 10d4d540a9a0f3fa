use Rattle.std.proofs.Common.{◌∙◌, ap, sym}
use Rattle.ddl_effect.specs.Stages.{plan_at}
use Rattle.cacheless.proofs.WantedPlans.{failed_of_want, failed_wanted, has_failed_of, not_failed}
use Rattle.cacheless.proofs.progress.Progress.has_failed.Goals as goal

pub returns-in_default : goal.returns-in_default
returns-in_default c =
    sym (failed_wanted (plan_at c.args.self.now.opens c.args.self.now.exec)
    ∙ ap failed_of_want (sym (c.next.ensures c.args.self.now.opens))
    ∙ not_failed c.next.result c.in_default.not-Fails c.in_default.not-Absent)

pub returns-in-Fails : goal.returns-in-Fails
returns-in-Fails c =
    sym (failed_wanted (plan_at c.args.self.now.opens c.args.self.now.exec)
    ∙ ap failed_of_want (sym (c.next.ensures c.args.self.now.opens))
    ∙ has_failed_of c.next.result c.in-Fails.is)
