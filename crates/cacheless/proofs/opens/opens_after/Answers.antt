use Rattle.std.proofs.Common.{◌∙◌, List, ap, sym}
use Rattle.std.proofs.lemmas.Result.{IfOk-weaker}
use Rattle.ddl_effect.specs.Stages.{plan_at}
use Rattle.cacheless.specs.Session.{Outcome, Well}
use Rattle.cacheless.specs.Settled.{opens_well, opens_badly}
use Rattle.cacheless.specs.Types.{OpenRelation}
use Rattle.cacheless.proofs.WantedPlans.{came_well, opened_badly}
use Rattle.cacheless.proofs.opens.opens_after.Goals as goal

pub returns-in_default : goal.returns-in_default
returns-in_default c =
    IfOk-weaker c.opens_after_badly.result _ _
    (λ after is. is ∙ sym (opened_badly (plan_at c.args.opens.now c.args.exec.now) c.args.number c.args.command.now c.args.blocked c.args.blocks.now.levels c.args.opened.now c.args.opens.now (λ told wants. c.in_default.not-Done told (c.next.ensures c.args.opens.now ∙ wants))))
    c.opens_after_badly.ensures

pub returns-in-Done : goal.returns-in-Done
returns-in-Done c =
    IfOk-weaker c.opens_after_well.result _ _
    (λ after is. is ∙ sym (ap (λ (o : Outcome). elim o as (λ x. List OpenRelation) [ Well ↦ opens_well c.args.number c.args.command.now c.args.blocks.now.levels c.args.opened.now c.args.opens.now | outcome ↦ opens_badly c.args.number c.args.blocked c.args.blocks.now.levels c.args.opens.now ])
    (came_well (plan_at c.args.opens.now c.args.exec.now) _ (sym (c.next.ensures c.args.opens.now) ∙ c.in-Done.is))))
    c.opens_after_well.ensures
