use Rattle.std.proofs.Common.{◌∙◌, ap, sym}
use Rattle.ddl_effect.specs.Stages.{plan_at}
use Rattle.backend_core.proofs.Wanted.{open_of_want, open_wanted, not_open}
use Rattle.backend_core.proofs.backend.Backend.opens_next.Goals as goal

pub returns-in_default : goal.returns-in_default
returns-in_default c =
    sym (open_wanted (plan_at c.args.self.now.progress.opens c.args.self.now.progress.exec) ∙ ap open_of_want (sym (c.next.ensures c.args.self.now.progress.opens)) ∙ not_open c.next.result c.in_default.not-Open)

pub returns-in-Open : goal.returns-in-Open
returns-in-Open c =
    sym (open_wanted (plan_at c.args.self.now.progress.opens c.args.self.now.progress.exec) ∙ ap open_of_want (sym (c.next.ensures c.args.self.now.progress.opens) ∙ c.in-Open.is))
