use Rattle.std.proofs.Common.{arith}
use Rattle.edge_io.proofs.Gathering.{let_go_of}
use Rattle.edge_io.proofs.held.Held.let_go.Goals as goal

pub returns : goal.returns
returns c = let_go_of c.self.inside.bytes _ _ c.self.inside.len c.args.count c.self.view_is c.requires (omega arith) c.copy_within.ensures.after
