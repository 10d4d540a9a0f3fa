use Rattle.walk_run.proofs.ScheduleSteps.{stand_first}
use Rattle.walk_run.proofs.walking.Walker.new.Goals as goal

pub returns : goal.returns
returns c = stand_first c.args.script.now c.in_ok-backends.backends.items c.in_ok-backends.ensures.spelled c.in_ok-backends.ensures.stand
