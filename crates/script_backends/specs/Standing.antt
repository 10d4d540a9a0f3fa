-- Backends that stand in one history, in order of their numbers.
use Rattle.std.specs.Prelude.{◌≡◌, ◌+◌, ℕ, Some, List, length, slice_get}
use Rattle.base_types.specs.Scenario.{Scenario}
use Rattle.event_kinds.specs.declared.entry.Entry.{Entry}
use Rattle.backend_core.specs.declared.backend.Backend.{Backend}
use Rattle.backend_core.specs.Agrees.{Stands}

-- a backend with its number stands in the history
pub record StandsAt (scenario : Scenario) (history : List Entry) (b : ℕ) (backend : Backend) : Type 0 where
  pub id : backend.progress.id ≡ b
  pub stands : Stands scenario history backend

-- all backends of the script stand in the history
pub record StandTogether (scenario : Scenario) (history : List Entry) (backends : List Backend) : Type 0 where
  pub count : length backends ≡ scenario.backends
  pub each : (i : ℕ) (backend : Backend) → slice_get backends i ≡ Some backend → StandsAt scenario history (i + 1) backend
