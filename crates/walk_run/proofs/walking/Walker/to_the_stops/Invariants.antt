use Rattle.std.proofs.Common.{◌≡◌}
use Rattle.walk_run.specs.Walks.{GoesOn, LeavesWell}
use Rattle.walk_run.proofs.walking.Walker.to_the_stops.Given as goal

abbrev pub invariant-loop-number : goal.invariant-loop-number
invariant-loop-number g l = record {
  script : g.L.Seg.script l.seg ≡ l.script;
  goes : GoesOn l.script (g.L.Seg.history l.fn.seg) 0 (g.L.Seg.history l.seg) l.self.backends.items l.number;
  leaves : LeavesWell l.script (g.L.Seg.history l.fn.seg) (g.L.Seg.history l.seg) (g.L.Seg.promised l.fn.seg) (g.L.Seg.promised l.seg);
}
