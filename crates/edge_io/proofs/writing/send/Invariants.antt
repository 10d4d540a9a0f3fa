use Rattle.std.proofs.Common.{length, take, ◌-◌, ◌≡◌, ◌≤◌}
use Rattle.edge_io.specs.Taken.{Grows}
use Rattle.edge_io.proofs.writing.send.Given as goal

abbrev pub invariant-text : goal.invariant-text
invariant-text g l = record {
  within : l.at ≤ length l.text;
  sent : Grows (g.K.Sink.taken l.fn.sink) (g.K.Sink.taken l.sink) (take l.at l.text);
  steady : g.K.Sink.faults l.sink ≡ g.K.Sink.faults l.fn.sink;
}

abbrev pub decreases-text : goal.decreases-text
decreases-text g l = length l.text - l.at
