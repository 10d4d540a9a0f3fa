-- What a call that takes a line gives.
use Rattle.std.specs.Prelude.{◌≡◌, ◌≤◌, ◌<◌, ◌*◌, length, ⊤, ℕ, Result, Ok, Err, List, sum_by}
use Rattle.base_types.specs.declared.command.Turns.{Turns}
use Rattle.std.specs.List.{AllByRecursion}
use Rattle.base_types.specs.Commands.{IsCommand}
use Rattle.base_types.specs.Scenario.{Scenario, step_count, IsQueueSize, IsBackend, AreTurns}
use Rattle.script_text.specs.declared.reading.ScriptRead.{ScriptRead}
use Rattle.script_text.specs.declared.fault.ScriptFault.{ScriptFault}
use Rattle.script_text.specs.declared.fault.ScriptFault.TheVariants as faults
use Rattle.script_text.specs.declared.fault.ScriptFault.TheVariants.{Bad}
use Rattle.script_text.specs.declared.fault.ScriptCause.{ScriptCause}
use Rattle.script_text.specs.declared.fault.LineFault.{LineFault}
use Rattle.script_text.specs.declared.fault.LineFault.TheVariants.{Breaks, NoMemory}
use Rattle.script_text.specs.declared.limits.TheConstants.{MOST_BACKENDS, MOST_COMMANDS, MOST_STEPS, QUEUE_ROUNDS}
use Rattle.script_text.specs.Grammar.{Draft, Reading}

-- the line has this effect, or breaks this rule; where memory was refused, nothing is said
abbrev pub Takes : Draft → Result (Unit {0}) LineFault → Result Draft ScriptCause → Type 0
Takes next (Ok done) effect = effect ≡ Ok next
Takes next (Err (Breaks cause)) effect = effect ≡ Err cause
Takes next (Err NoMemory) effect = ⊤

-- the ranges and limits of scripts, but for a number of backends that isn't known yet
pub record IsDraft (asked : Scenario) : Type 0 where
  pub size : IsQueueSize asked.size
  pub from : asked.from < asked.size * QUEUE_ROUNDS
  pub backends : asked.backends ≤ MOST_BACKENDS
  pub commands : length asked.commands ≤ MOST_COMMANDS
  pub placed : AllByRecursion (λ p. IsBackend asked.backends p.backend) asked.commands
  pub spelled : AllByRecursion (λ p. IsCommand p.command) asked.commands
  pub turns : AllByRecursion (λ line. (1 ≤ length line) × AllByRecursion (AreTurns asked.backends) line) asked.steps
  pub steps : sum_by step_count asked.steps ≤ MOST_STEPS

-- the same was read, or the same fault was found; where memory was refused, nothing is said
abbrev pub Reads : Result ScriptRead ScriptFault → Result Reading (ℕ × ScriptCause) → Type 0
Reads (Ok read) found = found ≡ Ok (record { script = read.script; rest_at = read.rest_at })
Reads (Err (Bad line cause)) found = found ≡ Err (line, cause)
Reads (Err faults.NoMemory) found = ⊤

-- the fault of a script whose line with this number has that one
abbrev pub fault_at : LineFault → ℕ → ScriptFault
fault_at (Breaks cause) line = Bad line cause
fault_at NoMemory line = faults.NoMemory

-- the number of all steps, within the limit
pub record IsCounted (total : ℕ) (steps : List (List Turns)) : Type 0 where
  pub is : total ≡ sum_by step_count steps
  pub most : total ≤ MOST_STEPS
