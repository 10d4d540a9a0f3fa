use Rattle.std.proofs.Common.{◌∙◌, ap, sym}
use Rattle.ddl_effect.specs.Stages.{plan_at}
use Rattle.backend_core.proofs.Wanted.{absent_of_want, absent_wanted, not_absent}
use Rattle.backend_core.proofs.backend.Backend.says_absent.Goals as goal

pub returns-in_default : goal.returns-in_default
returns-in_default c =
    sym (absent_wanted (plan_at c.args.self.now.progress.opens c.args.self.now.progress.exec) ∙ ap absent_of_want (sym (c.next.ensures c.args.self.now.progress.opens)) ∙ not_absent c.next.result c.in_default.not-Absent)

pub returns-in-Absent : goal.returns-in-Absent
returns-in-Absent c =
    sym (absent_wanted (plan_at c.args.self.now.progress.opens c.args.self.now.progress.exec) ∙ ap absent_of_want (sym (c.next.ensures c.args.self.now.progress.opens) ∙ c.in-Absent.is))
