use Rattle.std.proofs.Common.{◌≡◌, List}
use Rattle.cacheless.specs.Silently.{left_of}
use Rattle.backend_core.specs.Types.{Scenario, Entry}
use Rattle.backend_core.specs.Agrees.{AgreesNow}
use Rattle.backend_core.specs.Noted.{Settles}
use Rattle.backend_core.proofs.backend.Backend.settle.Given as goal

abbrev pub invariant-settling : goal.invariant-settling
invariant-settling l = (l.self.progress.commands ≡ l.fn.self.progress.commands)
    × ((scenario : Scenario) (seen : List Entry) → AgreesNow scenario seen l.fn.self → AgreesNow scenario seen l.self × ((l.self.progress.id ≡ l.fn.self.progress.id) × Settles l.fn.self l.self))
    × (l.self.life ≡ l.fn.self.life)

abbrev pub decreases-settling : goal.decreases-settling
decreases-settling l = left_of l.self.progress
