use Rattle.history_lines.proofs.Taken.{settles}
use Rattle.history_lines.proofs.session.Session.settle.Goals as goal

pub returns-clause-goes_on : goal.returns-clause-goes_on
returns-clause-goes_on c = settles c.settle.result c.args.self.now _ c.settle.ensures.rests c.settle.ensures.answered c.settle.ensures.goes_on
