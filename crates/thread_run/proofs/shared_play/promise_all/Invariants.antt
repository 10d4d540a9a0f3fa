use Rattle.std.proofs.Common.{◌≡◌}
use Rattle.thread_run.proofs.CutRuns.{HavePlaces}
use Rattle.thread_run.proofs.shared_play.promise_all.Given as goal

abbrev pub invariant-promising : goal.invariant-promising
invariant-promising g l = record {
  script : g.L.Seg.script l.seg ≡ g.L.Seg.script l.fn.seg;
  history : g.L.Seg.history l.seg ≡ g.L.Seg.history l.fn.seg;
  places : HavePlaces l.number (g.L.Seg.promised l.seg);
}
