use Rattle.std.proofs.Common.{◌∙◌, ap, sym}
use Rattle.ddl_effect.specs.Stages.{plan_at}
use Rattle.cacheless.proofs.WantedPlans.{row_of_want, row_wanted, no_row}
use Rattle.cacheless.proofs.progress.Progress.row_next.Goals as goal

pub returns-in_default : goal.returns-in_default
returns-in_default c =
    sym (row_wanted c.args.self.now (plan_at c.args.self.now.opens c.args.self.now.exec)
    ∙ ap (row_of_want c.args.self.now) (sym (c.next.ensures c.args.self.now.opens))
    ∙ no_row c.args.self.now c.next.result c.in_default.not-Lookup)

pub returns-in-Lookup : goal.returns-in-Lookup
returns-in-Lookup c =
    c.row_sought.ensures
    ∙ sym (row_wanted c.args.self.now (plan_at c.args.self.now.opens c.args.self.now.exec) ∙ ap (row_of_want c.args.self.now) (sym (c.next.ensures c.args.self.now.opens) ∙ c.in-Lookup.is))
