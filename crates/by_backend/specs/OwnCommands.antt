-- The commands of all backends, each in a list of its own.
use Rattle.std.specs.Prelude.{◌≡◌, ◌<◌, ◌+◌, ◌==◌, ℕ, List, [], map, filter, length, slice_index_or}
use Rattle.base_types.specs.declared.command.Command.{Command}
use Rattle.base_types.specs.declared.command.Placed.{Placed}

-- each backend has the commands that are placed with it, in order
pub record HaveCommands (placed : List Placed) (backends : ℕ) (lists : List (List Command)) : Type 0 where
  pub count : length lists ≡ backends
  pub each : (i : ℕ) → i < backends → slice_index_or lists i [] ≡ map (λ p. p.command) (filter (λ p. p.backend == i + 1) placed)
