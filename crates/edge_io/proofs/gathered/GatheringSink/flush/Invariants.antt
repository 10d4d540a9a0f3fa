use Rattle.std.proofs.Common.{◌≡◌, length}
use Rattle.edge_io.specs.Gathered.{gathered, Flushes}
use Rattle.edge_io.proofs.gathered.GatheringSink.flush.Given as goal

abbrev pub invariant-pieces : goal.invariant-pieces
invariant-pieces g l = record {
  flushes : Flushes (gathered g.K.Sink.taken l.fn.self) (gathered g.K.Sink.taken l.self);
  steady : g.K.Sink.faults l.self.sink.now ≡ g.K.Sink.faults l.fn.self.sink.now;
}

abbrev pub decreases-pieces : goal.decreases-pieces
decreases-pieces g l = length l.self.held
