use Rattle.std.proofs.Common.{◌≡◌, List}
use Rattle.cacheless.specs.Types.{Scenario, Entry}
use Rattle.cacheless.specs.Answering.{KeepsAbsent}
use Rattle.cacheless.specs.Silently.{left_of}
use Rattle.cacheless.specs.State.{kept_at}
use Rattle.cacheless.specs.Holds.{Holds}
use Rattle.cacheless.specs.Telling.{TellsNow, HasGoneOn}
use Rattle.cacheless.proofs.progress.Progress.settle.Given as goal

abbrev pub invariant-settling : goal.invariant-settling
invariant-settling l = record {
  holds : (scenario : Scenario) (seen : List Entry) → Holds scenario seen l.fn.self → Holds scenario seen l.self;
  goes : (scenario : Scenario) (seen : List Entry) (held : Holds scenario seen l.fn.self) → TellsNow scenario seen l.fn.self held → KeepsAbsent seen l.fn.self → HasGoneOn scenario seen l.fn.self held l.fn.lines l.self l.lines;
  kept : kept_at l.self ≡ kept_at l.fn.self;
  same : l.self.commands ≡ l.fn.self.commands;
}

abbrev pub decreases-settling : goal.decreases-settling
decreases-settling l = left_of l.self
