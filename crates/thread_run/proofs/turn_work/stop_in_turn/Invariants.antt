use Rattle.std.proofs.Common.{◌≡◌}
use Rattle.backend_core.specs.Agrees.{Stands}
use Rattle.thread_run.specs.Entering.{PlaysOn}
use Rattle.thread_run.proofs.turn_work.stop_in_turn.Given as goal

abbrev pub invariant-stopping : goal.invariant-stopping
invariant-stopping g l = record {
  plays : PlaysOn l.b (g.L.Seg.script l.fn.seg) (g.L.Seg.script l.seg) (g.L.Seg.history l.fn.seg) (g.L.Seg.history l.seg) (g.L.Seg.promised l.fn.seg) (g.L.Seg.promised l.seg);
  id : l.backend.progress.id ≡ l.b;
  stands : Stands (g.L.Seg.script l.seg) (g.L.Seg.history l.seg) l.backend;
}
