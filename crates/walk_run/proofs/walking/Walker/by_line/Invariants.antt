use Rattle.std.proofs.Common.{◌≡◌, take}
use Rattle.base_types.specs.Scenario.{turns_of}
use Rattle.walk_run.specs.Walks.{Goes, LeavesWell}
use Rattle.walk_run.proofs.walking.Walker.by_line.Given as goal

abbrev pub invariant-loop-turns : goal.invariant-loop-turns
invariant-loop-turns g l = record {
  script : g.L.Seg.script l.seg ≡ g.L.Seg.script l.fn.seg;
  goes : Goes (g.L.Seg.script l.fn.seg) (g.L.Seg.history l.fn.seg) (g.L.Seg.history l.seg) l.self.backends.items (turns_of (take l.turns-index l.line));
  leaves : LeavesWell (g.L.Seg.script l.fn.seg) (g.L.Seg.history l.fn.seg) (g.L.Seg.history l.seg) (g.L.Seg.promised l.fn.seg) (g.L.Seg.promised l.seg);
}
