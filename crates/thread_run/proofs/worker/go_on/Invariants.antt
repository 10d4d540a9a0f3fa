use Rattle.std.proofs.Common.{◌≡◌, ◌+◌}
use Rattle.thread_run.specs.Asks.{AsksTo}
use Rattle.thread_run.specs.AskedBefore.{asked_before}
use Rattle.thread_run.proofs.Workers.{AgreesWherever}
use Rattle.thread_run.proofs.worker.go_on.Given as goal

abbrev pub invariant-going : goal.invariant-going
invariant-going g l = record {
  agrees : AgreesWherever l.fn.backend l.backend;
  steady : g.G.Gate.stops l.gate ≡ g.G.Gate.stops l.fn.gate;
  asks : AsksTo l.fn.backend.progress.id (asked_before l.fn.over l.fn.backend) (l.backend.progress.finished + 1) (g.G.Gate.asked l.fn.gate) (g.G.Gate.asked l.gate);
}
