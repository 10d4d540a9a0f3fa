-- What the program may write for a script.
use Rattle.std.specs.Prelude.{ℕ, true, List, ◌≡◌, ⊤}
use Rattle.base_types.specs.Scenario.{IsBackend}
use Rattle.event_kinds.specs.Texts.{text_of}
use Rattle.history_model.specs.Legal.{IsLegal}
use Rattle.history_model.specs.Lapped.{FollowsQueue}
use Rattle.history_model.specs.Read.{IsEconomical}
use Rattle.cacheless.specs.Types.{Scenario, Entry, CheckKind}
use Rattle.cacheless.specs.Plays.{Plays}
use Rattle.cacheless.specs.Lines.{lines_of}
use Rattle.cacheless.specs.Schedule.{FollowsSchedule, AreLooksTrue, IsComplete, has_stopped}
use Rattle.cacheless.specs.declared.check_kind.CheckKind.TheVariants.{Walk, Run}

-- a history that the script allows: legal, with each fetch of a queue of the script's size, played by its commands, and with no needless scan
pub record IsAllowed (scenario : Scenario) (history : List Entry) : Type 0 where
  pub legal : IsLegal history
  pub queue : FollowsQueue scenario.size history
  pub plays : Plays scenario history
  pub economical : IsEconomical history

-- the entries come by the script's schedule, and each look sees all that was sent before it
pub record IsWalked (scenario : Scenario) (history : List Entry) : Type 0 where
  pub follows : FollowsSchedule scenario history
  pub looks : AreLooksTrue history

-- how the entries of the backends may come one after another: by `run` in any order, and with looks that see what a legal history asks of them
abbrev pub IsInterleaved : CheckKind → Scenario → List Entry → Type 0
IsInterleaved Walk scenario history = IsWalked scenario history
IsInterleaved Run scenario history = ⊤

-- each backend of the script has stopped
abbrev pub HaveStopped : Scenario → List Entry → Type 0
HaveStopped scenario history = (b : ℕ) → IsBackend scenario.backends b → has_stopped history b ≡ true

-- nothing is left to come: by `walk` no turn, by `run` no backend that hasn't stopped
abbrev pub HasAllCome : CheckKind → Scenario → List Entry → Type 0
HasAllCome Walk scenario history = IsComplete scenario history
HasAllCome Run scenario history = HaveStopped scenario history

-- what `walk` or `run` may write: the text of an allowed history whose entries come so and of which nothing is left to come, and of exactly its lines
pub record IsOutput (kind : CheckKind) (scenario : Scenario) (text : List ℕ) : Type 0 where
  pub history : List Entry
  pub allowed : IsAllowed scenario history
  pub interleaved : IsInterleaved kind scenario history
  pub complete : HasAllCome kind scenario history
  pub text_is : text ≡ text_of history (lines_of scenario history)
