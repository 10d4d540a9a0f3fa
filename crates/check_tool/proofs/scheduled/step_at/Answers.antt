use Rattle.std.proofs.Common.{sym}
use Rattle.std.proofs.lemmas.Option.{slice_get-get_or}
use Rattle.check_tool.proofs.scheduled.step_at.Goals as goal

pub returns-then-at-steps : goal.returns-then-at-steps
returns-then-at-steps c = sym (slice_get-get_or c.args.steps.now c.args.at 0 c.if-at-steps.true)
