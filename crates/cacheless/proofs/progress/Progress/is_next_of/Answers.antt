use Rattle.std.proofs.Common.{◌∙◌, ap, sym}
use Rattle.ddl_effect.specs.Stages.{plan_at}
use Rattle.cacheless.proofs.WantedPlans.{next_of_want, next_wanted, no_next}
use Rattle.cacheless.proofs.progress.Progress.is_next_of.Goals as goal

pub returns-in_default : goal.returns-in_default
returns-in_default c =
    sym (next_wanted c.args.scan.now c.args.self.now (plan_at c.args.self.now.opens c.args.self.now.exec)
    ∙ ap (next_of_want c.args.scan.now c.args.self.now) c.requires.want
    ∙ no_next c.args.scan.now c.args.self.now c.args.want.now c.in_default.not-Lookup c.in_default.not-Search c.in_default.not-Open c.in_default.not-Done)

pub returns-in-Search : goal.returns-in-Search
returns-in-Search c =
    c.is_missing-in-Search.ensures
    ∙ sym (next_wanted c.args.scan.now c.args.self.now (plan_at c.args.self.now.opens c.args.self.now.exec) ∙ ap (next_of_want c.args.scan.now c.args.self.now) (c.requires.want ∙ c.in-Search.is))

pub returns-in-Lookup : goal.returns-in-Lookup
returns-in-Lookup c =
    c.is_missing.ensures
    ∙ sym (next_wanted c.args.scan.now c.args.self.now (plan_at c.args.self.now.opens c.args.self.now.exec) ∙ ap (next_of_want c.args.scan.now c.args.self.now) (c.requires.want ∙ c.in-Lookup.is))
