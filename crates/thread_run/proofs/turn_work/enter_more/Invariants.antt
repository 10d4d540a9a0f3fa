use Rattle.std.proofs.Common.{◌≤◌, ◌+◌, false, length}
use Rattle.thread_run.specs.Entering.{PlaysOn, ComesTo}
use Rattle.thread_run.proofs.turn_work.enter_more.Given as goal

abbrev pub invariant-entering : goal.invariant-entering
invariant-entering g l = record {
  plays : PlaysOn l.b (g.L.Seg.script l.fn.seg) (g.L.Seg.script l.seg) (g.L.Seg.history l.fn.seg) (g.L.Seg.history l.seg) (g.L.Seg.promised l.fn.seg) (g.L.Seg.promised l.seg);
  few : length (g.L.Seg.history l.seg) ≤ length (g.L.Seg.history l.fn.seg) + l._made;
  full : length (g.L.Seg.history l.fn.seg) + l._made ≤ length (g.L.Seg.history l.seg);
  comes : ComesTo (g.L.Seg.script l.seg) l.b (g.L.Seg.history l.seg) false l.fn.backend l.backend;
}
