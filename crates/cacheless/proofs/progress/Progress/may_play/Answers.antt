use Rattle.cacheless.proofs.Deciding.{holds_decides}
use Rattle.cacheless.proofs.progress.Progress.may_play.Goals as goal

pub returns-clause-decides : goal.returns-clause-decides
returns-clause-decides c = holds_decides c.args.self.now c.args.next_oid c.args.event.now c.may_now.result c.may_now.ensures
