use Rattle.std.proofs.Common.{◌∙◌, ap, sym}
use Rattle.ddl_effect.specs.Stages.{plan_at}
use Rattle.ddl_effect.proofs.Driven.{absent_is}
use Rattle.cacheless.specs.Session.{Outcome, Well, Badly, Unsettled, outcome_of}
use Rattle.cacheless.specs.Ends.{End, Ends, end_well_in, end_badly_in}
use Rattle.cacheless.specs.State.{facts_at, work_at}
use Rattle.cacheless.proofs.WantedPlans.{came_well, came_badly, goes_on}
use Rattle.cacheless.proofs.progress.Progress.end.Goals as goal

pub returns-in-Fails : goal.returns-in-Fails
returns-in-Fails c =
    c.end_badly.ensures
    ∙ sym (ap (λ (o : Outcome). elim o as (λ o. End) [ Well ↦ end_well_in (facts_at c.args.self.now) c.args.command.now (work_at c.args.self.now) | Badly ↦ end_badly_in (work_at c.args.self.now) | Unsettled ↦ Ends ])
    (came_badly (plan_at c.args.self.now.opens c.args.self.now.exec) _ (sym (c.next.ensures c.args.self.now.opens) ∙ c.in-Fails.is)))

pub returns-in_default : goal.returns-in_default
returns-in_default c =
    sym (ap (λ (o : Outcome). elim o as (λ o. End) [ Well ↦ end_well_in (facts_at c.args.self.now) c.args.command.now (work_at c.args.self.now) | Badly ↦ end_badly_in (work_at c.args.self.now) | Unsettled ↦ Ends ])
    (goes_on (plan_at c.args.self.now.opens c.args.self.now.exec) (λ told is. c.in_default.not-Done told (c.next.ensures c.args.self.now.opens ∙ is)) (λ error is. c.in_default.not-Fails error (c.next.ensures c.args.self.now.opens ∙ is)) (λ name is. c.in_default.not-Absent name (c.next.ensures c.args.self.now.opens ∙ is))))

pub returns-in-Done : goal.returns-in-Done
returns-in-Done c =
    c.end_well.ensures
    ∙ sym (ap (λ (o : Outcome). elim o as (λ o. End) [ Well ↦ end_well_in (facts_at c.args.self.now) c.args.command.now (work_at c.args.self.now) | Badly ↦ end_badly_in (work_at c.args.self.now) | Unsettled ↦ Ends ])
    (came_well (plan_at c.args.self.now.opens c.args.self.now.exec) _ (sym (c.next.ensures c.args.self.now.opens) ∙ c.in-Done.is)))

pub returns-in-Absent : goal.returns-in-Absent
returns-in-Absent c =
    c.end_badly-in-Absent.ensures
    ∙ sym (ap (λ (o : Outcome). elim o as (λ o. End) [ Well ↦ end_well_in (facts_at c.args.self.now) c.args.command.now (work_at c.args.self.now) | Badly ↦ end_badly_in (work_at c.args.self.now) | Unsettled ↦ Ends ])
    (ap outcome_of (absent_is (plan_at c.args.self.now.opens c.args.self.now.exec) _ (sym (c.next.ensures c.args.self.now.opens) ∙ c.in-Absent.is))))
