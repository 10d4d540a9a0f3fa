-- A backend that stops before one of its commands.
use Rattle.std.specs.Prelude.{◌≡◌, ◌≤◌, ℕ, false, Option, Some, None, List, [], take}
use Rattle.base_types.specs.Scenario.{IsBackend}
use Rattle.ddl_effect.specs.Commands.{commands_of}
use Rattle.history_model.specs.Lives.{life_of}
use Rattle.history_model.specs.declared.life.Life.TheVariants.{Alive}
use Rattle.cacheless.specs.Facts.{facts_of}
use Rattle.cacheless.specs.Session.{Session, at_command}
use Rattle.cacheless.specs.Sessions.{session_of}
use Rattle.cacheless.specs.State.{Rest, session_at}
use Rattle.backend_core.specs.Types.{Command, Scenario, Entry, Progress, Backend}
use Rattle.backend_core.specs.Agrees.{IsPlayed, RunsFit, command_at, AgreesNow, Stands}
use Rattle.backend_core.specs.Cuts.{IsCut}
use Rattle.backend_core.specs.Fits.{Fits}

-- its session at the beginning of this command, or after the last one
abbrev pub begins_at : Progress → Rest → Option Command → Session
begins_at s rest command = at_command s.blocks s.opens rest.finished s.locks.items rest.last command

-- a backend that is at the beginning of a command, or after the last one: nothing of it is done, and each script that ends here has the backend after its last one
pub record AwaitsCommand (scenario : Scenario) (seen : List Entry) (s : Backend) : Type 0 where
  pub agrees : AgreesNow scenario seen s
  pub begins : session_at s.progress agrees.holds.rest ≡ begins_at s.progress agrees.holds.rest (command_at s)
  pub ends : (part : Scenario) → IsBackend part.backends s.progress.id → commands_of part s.progress.id ≡ take s.progress.finished s.progress.commands → session_of part seen s.progress.id ≡ Some (begins_at s.progress agrees.holds.rest None)
  pub runs : RunsFit (facts_of seen s.progress.id) None (begins_at s.progress agrees.holds.rest None)
  pub fits : Fits (facts_of seen s.progress.id) None (begins_at s.progress agrees.holds.rest None) false [] false
  pub last : ℕ
  pub alive : life_of seen s.progress.id ≡ Alive last
  pub before : last ≤ s.progress.finished

-- it has stopped before its next command: in the script that ends there it stands after its last one
pub record HasHalted (seen : List Entry) (part : Scenario) (was now : Backend) : Type 0 where
  pub id : now.progress.id ≡ was.progress.id
  pub played : IsPlayed part seen
  pub stands : Stands part seen now

-- the same in each history in which it is at the beginning of a command
abbrev pub HaltsWherever : Backend → Backend → Type 0
HaltsWherever was now = (scenario : Scenario) (seen : List Entry) → AwaitsCommand scenario seen was → (part : Scenario) → IsCut was.progress.id was.progress.finished scenario part → HasHalted seen part was now
