use Rattle.std.proofs.Common.{sym}
use Rattle.ddl_effect.specs.Commands.{plan_of}
use Rattle.ddl_effect.proofs.exec.Exec.new.Goals as goal

pub returns-in-Ok-clause-plan : goal.returns-in-Ok-clause-plan
returns-in-Ok-clause-plan c = λ any. c.in-Ok.ensures.1 any (plan_of c.args.opens.now c.args.command.now) (sym c.in_ok-step_at.ensures)
