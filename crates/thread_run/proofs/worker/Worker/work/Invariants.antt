use Rattle.std.proofs.Common.{◌≡◌}
use Rattle.turn_table.specs.Passes.{start_of, seen_by}
use Rattle.thread_run.specs.Asks.{AsksTo}
use Rattle.thread_run.specs.AskedBefore.{asked_so_far}
use Rattle.thread_run.specs.Turns.{IsBetween}
use Rattle.thread_run.specs.Workers.{HasAllAt, Goes}
use Rattle.thread_run.proofs.worker.Worker.work.Given as goal

abbrev pub invariant-working : goal.invariant-working
invariant-working g l = record {
  goes : Goes l.table l.fn.self l.worker;
  all : HasAllAt l.table l.worker;
  between : IsBetween (start_of l.table).whole l.fn.self.pass.number (seen_by l.worker.pass) l.worker.held.items l.worker.backend;
  steady : g.G.Gate.stops l.gate ≡ g.G.Gate.stops l.fn.gate;
  asked : AsksTo l.fn.self.pass.number 0 (asked_so_far l.worker.backend) (g.G.Gate.asked l.fn.gate) (g.G.Gate.asked l.gate);
}
