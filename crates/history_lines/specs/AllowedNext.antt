-- What the script allows next, when that can be taken, and the lines of all sessions.
use Rattle.std.specs.Prelude.{List}
use Rattle.std.specs.List.{flat_map}
use Rattle.history_model.specs.Lapped.{FetchesFrom}
use Rattle.history_model.specs.MayFollow.{MayFollow}
use Rattle.cacheless.specs.Plays.{IsNext}
use Rattle.history_lines.specs.Stands.{IsHeld}
use Rattle.history_lines.specs.Types.{Scenario, Entry, Line, Ledger, Session}

-- the script allows an entry after those before it: it may follow, a fetch is of a queue of the script's size, and its backend may play it next
abbrev pub IsAllowedNext : Scenario → List Entry → Entry → Type 0
IsAllowedNext scenario seen e = (MayFollow seen e × FetchesFrom scenario.size seen e.backend e.event) × IsNext scenario seen e

-- what is held is that of some history after which the script allows the entry
pub record CanTake (ledger : Ledger) (sessions : List Session) (e : Entry) : Type 0 where
  pub held : IsHeld ledger sessions
  pub allowed : IsAllowedNext held.scenario held.seen e

-- the lines of sessions, one after another
abbrev pub lines_held : List Session → List Line
lines_held sessions = flat_map (λ s. s.lines) sessions
