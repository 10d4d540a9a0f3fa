use Rattle.std.proofs.Common.{◌∙◌, not, refl, ap, sym}
use Rattle.ddl_effect.specs.Plans.{Fails}
use Rattle.history_model.proofs.ListSteps.{given_at, none_at}
use Rattle.cacheless.specs.Session.{plan_first, plan_admitted, is_blocked}
use Rattle.cacheless.proofs.Blocking.{unblocked_last, unblocked, blocked_failed, blocked_unless_open}
use Rattle.cacheless.proofs.begun.begun.Goals.{then-is_failed, else-is_failed}
use Rattle.cacheless.proofs.begun.begun.Goals as goal

pub returns-after-is_failed-clause-plan : goal.returns-after-is_failed-clause-plan
returns-after-is_failed-clause-plan c = ap Fails c.error_of.ensures ∙ ap (λ o. plan_admitted c.args.opens.now o c.in-Some.command.now) (sym c.in-Err.ensures.err) ∙ ap (plan_first c.args.blocks.now c.args.opens.now) (sym (given_at c.args.commands.now c.args.commands.now c.args.index c.in-Some.command.now refl (c.in-Some.ensures.lookup.3).0 c.in-Some.ensures.lookup.1))

pub returns-in_ok-exec-in-Ok-clause-blocked : goal.returns-in_ok-exec-in-Ok-clause-blocked
returns-in_ok-exec-in-Ok-clause-blocked c = sym (ap (is_blocked c.args.blocks.now) (given_at c.args.commands.now c.args.commands.now c.args.index c.in-Some.command.now refl (c.in-Some.ensures.lookup.3).0 c.in-Some.ensures.lookup.1) ∙ unblocked c.args.blocks.now c.in-Some.command.now c.in-Ok.ensures.ok)

pub returns-after-is_failed-clause-blocked : goal.returns-after-is_failed-clause-blocked
returns-after-is_failed-clause-blocked c = elim c.if-is_failed.branch [
  | then-is_failed w ↦ w.result-is ∙ w.if-is_failed.true ∙ sym (ap (is_blocked c.args.blocks.now) (given_at c.args.commands.now c.args.commands.now c.args.index c.in-Some.command.now refl (c.in-Some.ensures.lookup.3).0 c.in-Some.ensures.lookup.1) ∙ blocked_failed c.args.blocks.now c.in-Some.command.now _ c.in-Err.ensures.err (sym c.is_failed.ensures ∙ w.if-is_failed.true))
  | else-is_failed w ↦ w.result-is ∙ ap not w.is_open.ensures ∙ sym (ap (is_blocked c.args.blocks.now) (given_at c.args.commands.now c.args.commands.now c.args.index c.in-Some.command.now refl (c.in-Some.ensures.lookup.3).0 c.in-Some.ensures.lookup.1) ∙ blocked_unless_open c.args.blocks.now c.in-Some.command.now _ c.in-Err.ensures.err (sym c.is_failed.ensures ∙ w.if-is_failed.false))
]

pub returns-in_default-clause-blocked : goal.returns-in_default-clause-blocked
returns-in_default-clause-blocked c = sym (ap (is_blocked c.args.blocks.now) (none_at c.args.commands.now c.args.commands.now c.args.index refl c.in_default.ensures.lookup.0) ∙ unblocked_last c.args.blocks.now)

pub returns-in_default-clause-plan : goal.returns-in_default-clause-plan
returns-in_default-clause-plan c = ap (plan_first c.args.blocks.now c.args.opens.now) (sym (none_at c.args.commands.now c.args.commands.now c.args.index refl c.in_default.ensures.lookup.0))

pub returns-in_ok-exec-in-Ok-clause-plan : goal.returns-in_ok-exec-in-Ok-clause-plan
returns-in_ok-exec-in-Ok-clause-plan c = c.in_ok-exec-in-Ok.ensures.plan c.args.opens.now ∙ ap (λ o. plan_admitted c.args.opens.now o c.in-Some.command.now) (sym c.in-Ok.ensures.ok) ∙ ap (plan_first c.args.blocks.now c.args.opens.now) (sym (given_at c.args.commands.now c.args.commands.now c.args.index c.in-Some.command.now refl (c.in-Some.ensures.lookup.3).0 c.in-Some.ensures.lookup.1))
