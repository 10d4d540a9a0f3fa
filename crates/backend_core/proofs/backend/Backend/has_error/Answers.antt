use Rattle.std.proofs.Common.{◌∙◌, ap, sym}
use Rattle.ddl_effect.specs.Stages.{plan_at}
use Rattle.backend_core.proofs.Wanted.{error_of_want, error_wanted, not_error}
use Rattle.backend_core.proofs.backend.Backend.has_error.Goals as goal

pub returns-in-Fails : goal.returns-in-Fails
returns-in-Fails c =
    sym (error_wanted (plan_at c.args.self.now.progress.opens c.args.self.now.progress.exec) ∙ ap error_of_want (sym (c.next.ensures c.args.self.now.progress.opens) ∙ c.in-Fails.is))

pub returns-in_default : goal.returns-in_default
returns-in_default c =
    sym (error_wanted (plan_at c.args.self.now.progress.opens c.args.self.now.progress.exec) ∙ ap error_of_want (sym (c.next.ensures c.args.self.now.progress.opens)) ∙ not_error c.next.result c.in_default.not-Fails)
