use Rattle.std.proofs.Common.{◌≡◌, ◌∙◌, not, List, ap, sym, rules}
use Rattle.base_types.specs.Scans.{build_scans}
use Rattle.ddl_effect.specs.Stages.{plan_at}
use Rattle.history_model.specs.Changing.{is_empty}
use Rattle.cacheless.specs.Types.{Purpose}
use Rattle.cacheless.specs.State.{kept_at, missing}
use Rattle.cacheless.proofs.WantedPlans.{scans_of_want, scans_wanted, no_scans, one_missing}
use Rattle.cacheless.proofs.progress.Progress.act_lacks.Goals as goal

pub returns-in-Open : goal.returns-in-Open
returns-in-Open c =
    let goes : not c.is_some.result ≡ is_empty (missing (kept_at c.args.self.now) (build_scans c.in-Open.kind c.in-Open.rel)) = search rules in
    goes ∙ sym (ap (λ l. is_empty (missing (kept_at c.args.self.now) l)) (scans_wanted (plan_at c.args.self.now.opens c.args.self.now.exec) ∙ ap scans_of_want (c.requires.want ∙ c.in-Open.is)))

pub returns-in_default : goal.returns-in_default
returns-in_default c =
    sym (ap (λ (l : List Purpose). is_empty (missing (kept_at c.args.self.now) l))
    (scans_wanted (plan_at c.args.self.now.opens c.args.self.now.exec)
    ∙ ap scans_of_want c.requires.want
    ∙ no_scans c.args.want.now c.in_default.not-Lookup c.in_default.not-Open c.in_default.not-Search c.in_default.not-Read c.in_default.not-Done))

pub returns-in-Read : goal.returns-in-Read
returns-in-Read c =
    one_missing (kept_at c.args.self.now) _ c.has-in-Read.result c.has-in-Read.ensures
    ∙ sym (ap (λ l. is_empty (missing (kept_at c.args.self.now) l)) (scans_wanted (plan_at c.args.self.now.opens c.args.self.now.exec) ∙ ap scans_of_want (c.requires.want ∙ c.in-Read.is)))

pub returns-in-Search : goal.returns-in-Search
returns-in-Search c =
    one_missing (kept_at c.args.self.now) _ c.has-in-Search.result c.has-in-Search.ensures
    ∙ sym (ap (λ l. is_empty (missing (kept_at c.args.self.now) l)) (scans_wanted (plan_at c.args.self.now.opens c.args.self.now.exec) ∙ ap scans_of_want (c.requires.want ∙ c.in-Search.is)))

pub returns-in-Lookup : goal.returns-in-Lookup
returns-in-Lookup c =
    one_missing (kept_at c.args.self.now) _ c.has.result c.has.ensures
    ∙ sym (ap (λ l. is_empty (missing (kept_at c.args.self.now) l)) (scans_wanted (plan_at c.args.self.now.opens c.args.self.now.exec) ∙ ap scans_of_want (c.requires.want ∙ c.in-Lookup.is)))
