use Rattle.std.proofs.Common.{◌∙◌, refl, ap, subst, length, arith}
use Rattle.cacheless.specs.Silently.{IsSilentOf}
use Rattle.backend_core.specs.Noted.{Stays}
use Rattle.backend_core.proofs.Silent.{rest_awaits}
use Rattle.backend_core.proofs.Entries.Noting.{settles_on}
use Rattle.backend_core.proofs.backend.Backend.settle_command.Goals as goal

pub silent-requires : goal.silent-requires
silent-requires c = omega (arith, c.requires.few, ap length c.settling.invariant.0)

pub pass-requires-clause-few : goal.pass-requires-clause-few
pass-requires-clause-few c = omega (arith, c.requires.few, ap length c.settling.invariant.0)

pub settling-init : goal.settling-init
settling-init c = (refl, omega arith, (λ scenario seen agrees. (agrees, (refl, (refl, Stays refl refl)))), refl)

pub settling-preserved-in-Continue-1 : goal.settling-preserved-in-Continue-1
settling-preserved-in-Continue-1 c = (
  c.in_ok-act-in-Act.ensures.same ∙ c.settling.invariant.0,
  omega (arith, c.settling.invariant.1, c.in_ok-act-in-Act.ensures.less),
  (λ scenario seen agrees. let was = c.settling.invariant.2 scenario seen agrees in
      let now = c.in_ok-act-in-Act.ensures.keeps scenario seen was.0 in (now.agrees, (now.id ∙ was.1.0, (c.in_ok-act-in-Act.ensures.number scenario seen was.0 ∙ was.1.1.0, settles_on _ _ _ was.1.1.1 (c.in_ok-act-in-Act.ensures.noted scenario seen was.0))))),
  c.in_ok-act-in-Act.ensures.life ∙ c.settling.invariant.3,
)

pub settling-preserved : goal.settling-preserved
settling-preserved c = (
  c.in_ok-answer-in-Answer.ensures.same ∙ c.settling.invariant.0,
  omega (arith, c.settling.invariant.1, c.in_ok-answer-in-Answer.ensures.less),
  (λ scenario seen agrees. let was = c.settling.invariant.2 scenario seen agrees in
      let now = c.in_ok-answer-in-Answer.ensures.keeps scenario seen was.0 in (now.agrees, (now.id ∙ was.1.0, (c.in_ok-answer-in-Answer.ensures.number ∙ was.1.1.0, settles_on _ _ _ was.1.1.1 (c.in_ok-answer-in-Answer.ensures.noted scenario seen was.0))))),
  c.in_ok-answer-in-Answer.ensures.life ∙ c.settling.invariant.3,
)

pub returns-in-Finish-clause-goes : goal.returns-in-Finish-clause-goes
returns-in-Finish-clause-goes c = λ scenario seen agrees. let was = c.settling.invariant.2 scenario seen agrees in let now = c.in_ok-pass-in-Finish.ensures.keeps scenario seen was.0 in
    record { agrees = now.agrees; waits = λ over. cc over; command = λ over. c.in_ok-pass-in-Finish.ensures.command scenario seen was.0; id = now.id ∙ was.1.0; number = omega (arith, c.in_ok-pass-in-Finish.ensures.number scenario seen was.0, was.1.1.0); noted = settles_on _ _ _ was.1.1.1 (c.in_ok-pass-in-Finish.ensures.noted scenario seen was.0) }

pub returns-in-Rest-clause-goes : goal.returns-in-Rest-clause-goes
returns-in-Rest-clause-goes c = λ scenario seen agrees. let was = c.settling.invariant.2 scenario seen agrees in
    record { agrees = was.0; waits = λ over. rest_awaits _ _ c.settling.self was.0 (subst (IsSilentOf c.settling.self.progress) c.in-Rest.is c.silent.ensures); command = λ over. cc over; id = was.1.0; number = omega (arith, was.1.1.0); noted = was.1.1.1 }

pub returns-in_err-act-in-Act-clause-life : goal.returns-in_err-act-in-Act-clause-life
returns-in_err-act-in-Act-clause-life c = c.in_err-act-in-Act.ensures.life ∙ c.settling.invariant.3

pub returns-in_err-answer-in-Answer-clause-life : goal.returns-in_err-answer-in-Answer-clause-life
returns-in_err-answer-in-Answer-clause-life c = c.in_err-answer-in-Answer.ensures.life ∙ c.settling.invariant.3

pub returns-in_err-pass-in-Finish-clause-life : goal.returns-in_err-pass-in-Finish-clause-life
returns-in_err-pass-in-Finish-clause-life c = c.in_err-pass-in-Finish.ensures.life ∙ c.settling.invariant.3

pub returns-in-Finish-clause-life : goal.returns-in-Finish-clause-life
returns-in-Finish-clause-life c = c.in_ok-pass-in-Finish.ensures.life ∙ c.settling.invariant.3

pub returns-in-Rest-clause-life : goal.returns-in-Rest-clause-life
returns-in-Rest-clause-life c = c.settling.invariant.3
