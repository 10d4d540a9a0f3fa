use Rattle.std.proofs.Common.{◌≡◌, ◌-◌, ◌^◌, length}
use Rattle.walk_run.specs.Walks.{GoesOn, LeavesWell}
use Rattle.walk_run.proofs.walking.Walker.to_its_stop.Given as goal

abbrev pub invariant-running : goal.invariant-running
invariant-running g l = record {
  script : g.L.Seg.script l.seg ≡ g.L.Seg.script l.fn.seg;
  goes : GoesOn (g.L.Seg.script l.fn.seg) (g.L.Seg.history l.fn.seg) (l.b - 1) (g.L.Seg.history l.seg) l.self.backends.items (l.b - 1);
  leaves : LeavesWell (g.L.Seg.script l.fn.seg) (g.L.Seg.history l.fn.seg) (g.L.Seg.history l.seg) (g.L.Seg.promised l.fn.seg) (g.L.Seg.promised l.seg);
}

abbrev pub decreases-running : goal.decreases-running
decreases-running g l = 2 ^ 56 - length (g.L.Seg.history l.seg)
