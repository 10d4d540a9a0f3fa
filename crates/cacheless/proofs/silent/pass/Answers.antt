use Rattle.std.proofs.Common.{◌∙◌, ap, sym}
use Rattle.ddl_effect.specs.Stages.{plan_at}
use Rattle.txn_blocks.specs.Blocks.{Blocks, blocks_well, blocks_badly}
use Rattle.cacheless.specs.Session.{Outcome, Well}
use Rattle.cacheless.proofs.WantedPlans.{came_well, passed_badly}
use Rattle.cacheless.proofs.silent.pass.Goals as goal

pub returns-in_default : goal.returns-in_default
returns-in_default c =
    λ opens. c.fail.ensures ∙ sym (passed_badly (plan_at opens c.args.exec.now) c.args.number c.args.command.now c.args.blocks.now (λ told is. c.in_default.not-Done told (c.next.ensures opens ∙ is)))

pub returns-in_ok-ended_well-in-Done : goal.returns-in_ok-ended_well-in-Done
returns-in_ok-ended_well-in-Done c =
    λ opens. c.in_ok-ended_well-in-Done.ensures.ok
    ∙ sym (ap (λ (o : Outcome). elim o as (λ x. Blocks) [ Well ↦ blocks_well c.args.number c.args.command.now c.args.blocks.now | outcome ↦ blocks_badly c.args.blocks.now ])
    (came_well (plan_at opens c.args.exec.now) _ (sym (c.next.ensures opens) ∙ c.in-Done.is)))
