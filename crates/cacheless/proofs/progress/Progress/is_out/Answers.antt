use Rattle.std.proofs.Common.{◌∙◌, ap, sym}
use Rattle.ddl_effect.specs.Stages.{plan_at}
use Rattle.cacheless.proofs.WantedPlans.{out_of_want, out_wanted, is_out_of, not_out}
use Rattle.cacheless.proofs.progress.Progress.is_out.Goals as goal

pub returns-in_default : goal.returns-in_default
returns-in_default c =
    sym (out_wanted (plan_at c.args.self.now.opens c.args.self.now.exec)
    ∙ ap out_of_want (sym (c.next.ensures c.args.self.now.opens))
    ∙ not_out c.next.result c.in_default.not-Done c.in_default.not-Fails c.in_default.not-Absent)

pub returns-in-Done : goal.returns-in-Done
returns-in-Done c =
    sym (out_wanted (plan_at c.args.self.now.opens c.args.self.now.exec)
    ∙ ap out_of_want (sym (c.next.ensures c.args.self.now.opens))
    ∙ is_out_of c.next.result c.in-Done.is)
