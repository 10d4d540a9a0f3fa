use Rattle.std.proofs.Common.{◌∙◌, refl, arith}
use Rattle.check_tool.proofs.Schedule.{pass_one, pass_here, pass_end}
use Rattle.check_tool.proofs.scheduled.pass.Goals as goal

pub steps-init : goal.steps-init
steps-init c = record { within = c.requires.within; passed = λ seen tell. refl }

pub steps-preserved : goal.steps-preserved
steps-preserved c = record {
  within = omega (arith, c.steps-test.true);
  passed = λ seen tell. c.steps.invariant.passed seen tell ∙ pass_one c.args.stopped.now c.args.steps.now c.steps.at _ c.requires.range c.steps-test.true c.if-stopped-steps.true seen tell;
}

pub returns-else-stopped-steps-clause-passed : goal.returns-else-stopped-steps-clause-passed
returns-else-stopped-steps-clause-passed c = λ seen tell. c.steps.invariant.passed seen tell ∙ pass_here c.args.stopped.now c.args.steps.now c.steps.at _ c.requires.range c.steps-test.true c.if-stopped-steps.false seen tell

pub returns-after-steps-clause-passed : goal.returns-after-steps-clause-passed
returns-after-steps-clause-passed c = λ seen tell. c.steps.invariant.passed seen tell ∙ pass_end seen c.args.steps.now c.steps.at c.steps-test.false

pub returns-after-steps-clause-within : goal.returns-after-steps-clause-within
returns-after-steps-clause-within c = c.steps.invariant.within
