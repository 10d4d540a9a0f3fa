use Rattle.check_tool.proofs.Interleavings.{walked_so}
use Rattle.check_tool.proofs.interleaved.as_walk.Goals as goal

pub returns-clause-come : goal.returns-clause-come
returns-clause-come c = walked_so c.args.script.now c.args.entries.now c.in_ok-looks.looks c.follow.result c.in_ok-looks.ensures c.follow.ensures
