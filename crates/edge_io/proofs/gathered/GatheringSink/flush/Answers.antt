use Rattle.std.proofs.Common.{refl}
use Rattle.edge_io.proofs.Gathering.{flushes_at_first, held_shorter}
use Rattle.edge_io.proofs.gathered.GatheringSink.flush.Goals as goal

pub pieces-init : goal.pieces-init
pieces-init g c = record { flushes = flushes_at_first _; steady = refl }

pub pieces-smaller : goal.pieces-smaller
pieces-smaller g c = held_shorter c.pieces.self.held c.as_slice.result.now c.let_go.new.self c.in_ok-count.count c.as_slice.ensures c.let_go.ensures c.in_ok-count.ensures.short.1 c.pieces-test.ensures
