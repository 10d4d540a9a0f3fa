use Rattle.std.proofs.Common.{◌∙◌, refl, ap, length, arith}
use Rattle.backend_core.specs.Noted.{Stays}
use Rattle.backend_core.proofs.Entries.Noting.{settles_on}
use Rattle.backend_core.proofs.backend.Backend.settle.Goals as goal

pub settling-init : goal.settling-init
settling-init c = (refl, (λ scenario seen agrees. (agrees, (refl, Stays refl refl))), refl)

pub settle_command-requires : goal.settle_command-requires
settle_command-requires c = record { few = omega (arith, c.requires.few, ap length c.settling.invariant.0) }

pub returns-then-not-branch-clause-settles : goal.returns-then-not-branch-clause-settles
returns-then-not-branch-clause-settles c = λ scenario seen agrees. let was = c.settling.invariant.1 scenario seen agrees in let now = c.in_ok-settle_command.ensures.goes scenario seen was.0 in
    record { waits = now.waits c.if-not-branch.true; id = now.id ∙ was.1.0; noted = settles_on _ _ _ was.1.1 now.noted }

pub returns-then-not-branch-clause-life : goal.returns-then-not-branch-clause-life
returns-then-not-branch-clause-life c = c.in_ok-settle_command.ensures.life ∙ c.settling.invariant.2

pub returns-in_err-settle_command-clause-life : goal.returns-in_err-settle_command-clause-life
returns-in_err-settle_command-clause-life c = c.in_err-settle_command.ensures.life ∙ c.settling.invariant.2

pub settling-preserved : goal.settling-preserved
settling-preserved c = (
  c.in_ok-settle_command.ensures.same ∙ c.settling.invariant.0,
  (λ scenario seen agrees. let was = c.settling.invariant.1 scenario seen agrees in
      let now = c.in_ok-settle_command.ensures.goes scenario seen was.0 in (now.agrees, (now.id ∙ was.1.0, settles_on _ _ _ was.1.1 now.noted))),
  c.in_ok-settle_command.ensures.life ∙ c.settling.invariant.2,
)
