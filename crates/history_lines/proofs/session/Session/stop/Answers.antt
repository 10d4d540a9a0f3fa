use Rattle.std.proofs.Common.{refl}
use Rattle.history_lines.proofs.Taken.{stopped}
use Rattle.history_lines.proofs.session.Session.stop.Goals as goal

pub returns : goal.returns
returns c = stopped c.args.self.now (record c.args.self.now { progress = c.enter_stop.new.self }) c.requires.going refl c.enter_stop.ensures.holds
