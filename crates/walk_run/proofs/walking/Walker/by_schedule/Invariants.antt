use Rattle.std.proofs.Common.{◌≡◌, take}
use Rattle.std.specs.List.{flat_map}
use Rattle.base_types.specs.Scenario.{turns_of}
use Rattle.walk_run.specs.Walks.{Goes, LeavesWell}
use Rattle.walk_run.proofs.walking.Walker.by_schedule.Given as goal

abbrev pub invariant-loop-line : goal.invariant-loop-line
invariant-loop-line g l = record {
  script : g.L.Seg.script l.seg ≡ l.script;
  goes : Goes l.script (g.L.Seg.history l.fn.seg) (g.L.Seg.history l.seg) l.self.backends.items (flat_map turns_of (take l.line-index l.lines));
  leaves : LeavesWell l.script (g.L.Seg.history l.fn.seg) (g.L.Seg.history l.seg) (g.L.Seg.promised l.fn.seg) (g.L.Seg.promised l.seg);
}
