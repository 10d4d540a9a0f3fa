use Rattle.check_tool.proofs.Schedule.{stopped_more}
use Rattle.check_tool.proofs.stopped.note.Goals as goal

pub returns-clause-tell : goal.returns-clause-tell
returns-clause-tell c = λ seen tell. stopped_more seen c.args.e.now c.args.stopped.now c.is_stop.result tell c.requires c.is_stop.ensures
