use Rattle.edge_io.proofs.Gathering.{flushes_at_first}
use Rattle.edge_io.proofs.gathered.GatheringSink.make_room.Goals as goal

pub returns-clause-bytes : goal.returns-clause-bytes
returns-clause-bytes g c = flushes_at_first _
