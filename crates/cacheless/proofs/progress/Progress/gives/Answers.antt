use Rattle.std.proofs.Common.{◌∙◌, ap, sym, is_some, []}
use Rattle.ddl_effect.specs.Stages.{plan_at}
use Rattle.std.specs.List.{cons_option}
use Rattle.cacheless.specs.Settled.{looked_up_in}
use Rattle.cacheless.specs.State.{facts_at, work_at}
use Rattle.cacheless.proofs.WantedPlans.{gives_of_want, gives_wanted, gives_always, no_gives}
use Rattle.cacheless.proofs.progress.Progress.gives.Goals as goal

pub returns-in_default : goal.returns-in_default
returns-in_default c =
    sym (gives_wanted c.args.self.now (plan_at c.args.self.now.opens c.args.self.now.exec)
    ∙ ap (gives_of_want c.args.self.now) (sym (c.next.ensures c.args.self.now.opens))
    ∙ no_gives c.args.self.now c.next.result c.in_default.not-Lookup c.in_default.not-Lock c.in_default.not-Open c.in_default.not-Search c.in_default.not-Read)

pub returns-in-Open : goal.returns-in-Open
returns-in-Open c =
    sym (gives_wanted c.args.self.now (plan_at c.args.self.now.opens c.args.self.now.exec)
    ∙ ap (gives_of_want c.args.self.now) (sym (c.next.ensures c.args.self.now.opens))
    ∙ gives_always c.args.self.now c.next.result c.in-Open.is)

pub returns-in-Lock : goal.returns-in-Lock
returns-in-Lock c =
    c.is_some.ensures ∙ c.state.ensures.held
    ∙ sym (gives_wanted c.args.self.now (plan_at c.args.self.now.opens c.args.self.now.exec) ∙ ap (gives_of_want c.args.self.now) (sym (c.next.ensures c.args.self.now.opens) ∙ c.in-Lock.is))

pub returns-in-Lookup : goal.returns-in-Lookup
returns-in-Lookup c =
    c.looks_up.ensures ∙ ap (λ o. is_some (looked_up_in (facts_at c.args.self.now) (work_at c.args.self.now) c.in-Lookup.mode (cons_option o []))) c.row_sought.ensures
    ∙ sym (gives_wanted c.args.self.now (plan_at c.args.self.now.opens c.args.self.now.exec) ∙ ap (gives_of_want c.args.self.now) (sym (c.next.ensures c.args.self.now.opens) ∙ c.in-Lookup.is))
