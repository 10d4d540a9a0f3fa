-- What a script asks for.
use Rattle.std.specs.Prelude.{◌≡◌, ◌≤◌, ◌<◌, ◌*◌, ◌^◌, ℕ, List, length, sum_by, replicate}
use Rattle.std.specs.List.{flat_map, AllByRecursion}
use Rattle.base_types.specs.declared.command.Placed.{Placed}
use Rattle.base_types.specs.declared.command.Turns.{Turns}
use Rattle.base_types.specs.Commands.{IsCommand}

-- the queue's size and the number of its first message, the number of backends, their commands in the order of lines, and the lines of steps
pub record Scenario : Type 0 where
  pub size : ℕ
  pub from : ℕ
  pub backends : ℕ
  pub commands : List Placed
  pub steps : List (List Turns)

-- the backend of each step, one after the other
abbrev pub turns_of : List Turns → List ℕ
turns_of turns = flat_map (λ t. replicate t.count t.backend) turns

-- the schedule: the backend of each step of all lines
abbrev pub schedule_of : Scenario → List ℕ
schedule_of scenario = flat_map turns_of scenario.steps

-- how many steps a line has
abbrev pub step_count : List Turns → ℕ
step_count turns = sum_by (λ t. t.count) turns

-- a size that the queue may have: a power of two from 64 to 4,096
pub record IsQueueSize (size : ℕ) : Type 0 where
  pub power : ℕ
  pub is : size ≡ 2 ^ power
  pub least : 64 ≤ size
  pub most : size ≤ 4096

-- a backend of a script that has so many
abbrev pub IsBackend : ℕ → ℕ → Type 0
IsBackend backends b = (1 ≤ b) × (b ≤ backends)

-- steps of a backend of the script, at least one
abbrev pub AreTurns : ℕ → Turns → Type 0
AreTurns backends turns = IsBackend backends turns.backend × (1 ≤ turns.count)

-- the ranges and limits of scripts
pub record IsScript (scenario : Scenario) : Type 0 where
  pub size : IsQueueSize scenario.size
  pub from : scenario.from < scenario.size * 262144
  pub backends : IsBackend 64 scenario.backends
  pub commands : length scenario.commands ≤ 20000
  pub placed : AllByRecursion (λ p. IsBackend scenario.backends p.backend) scenario.commands
  pub spelled : AllByRecursion (λ p. IsCommand p.command) scenario.commands
  pub turns : AllByRecursion (λ line. (1 ≤ length line) × AllByRecursion (AreTurns scenario.backends) line) scenario.steps
  pub steps : sum_by step_count scenario.steps ≤ 1000000
