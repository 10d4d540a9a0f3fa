use Rattle.std.proofs.Common.{◌≡◌, replicate}
use Rattle.walk_run.specs.Walks.{Goes, LeavesWell}
use Rattle.walk_run.proofs.walking.Walker.by_turns.Given as goal

abbrev pub invariant-steps : goal.invariant-steps
invariant-steps g l = record {
  script : g.L.Seg.script l.seg ≡ g.L.Seg.script l.fn.seg;
  goes : Goes (g.L.Seg.script l.fn.seg) (g.L.Seg.history l.fn.seg) (g.L.Seg.history l.seg) l.self.backends.items (replicate l._step l.turns.backend);
  leaves : LeavesWell (g.L.Seg.script l.fn.seg) (g.L.Seg.history l.fn.seg) (g.L.Seg.history l.seg) (g.L.Seg.promised l.fn.seg) (g.L.Seg.promised l.seg);
}
