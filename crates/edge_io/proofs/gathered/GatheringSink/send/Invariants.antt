use Rattle.std.proofs.Common.{◌≡◌, ◌≤◌, ◌-◌, length, take}
use Rattle.edge_io.specs.Taken.{Grows}
use Rattle.edge_io.specs.Gathered.{gathered, told_by, Stood}
use Rattle.edge_io.proofs.gathered.GatheringSink.send.Given as goal

abbrev pub invariant-text : goal.invariant-text
invariant-text g l = record {
  within : l.at ≤ length l.text;
  stood : Stood (gathered g.K.Sink.taken l.fn.self) (gathered g.K.Sink.taken l.self);
  sent : Grows (told_by (gathered g.K.Sink.taken l.fn.self)) (told_by (gathered g.K.Sink.taken l.self)) (take l.at l.text);
  steady : g.K.Sink.faults l.self.sink.now ≡ g.K.Sink.faults l.fn.self.sink.now;
}

abbrev pub decreases-text : goal.decreases-text
decreases-text g l = length l.text - l.at
