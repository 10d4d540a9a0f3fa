-- What is held agrees with the entries so far.
use Rattle.std.specs.Prelude.{◌≡◌, ◌<◌, ◌+◌, ℕ, true, false, Some, List, [], length, slice_get}
use Rattle.history_model.specs.Lapped.{FollowsQueue}
use Rattle.history_model.specs.Legal.{IsLegal}
use Rattle.history_model.specs.Lives.{life_of}
use Rattle.history_model.specs.declared.life.Life.TheVariants.{Stopped}
use Rattle.history_ledger.specs.Held.{Reads}
use Rattle.cacheless.specs.Lines.{lines_of_backend}
use Rattle.cacheless.specs.Played.{AreSpelled}
use Rattle.cacheless.specs.Plays.{Plays}
use Rattle.cacheless.specs.Awaiting as session
use Rattle.cacheless.specs.Awaiting.{AwaitsEntry}
use Rattle.history_lines.specs.Types.{Scenario, Entry, Ledger, Session}

-- a backend without entries
pub record HasNoEntry (scenario : Scenario) (seen : List Entry) (s : Session) : Type 0 where
  pub none : session.HasNoEntry scenario seen s.progress
  pub lines_are : s.lines ≡ []

-- a backend that has stopped, of which no more entries come
pub record HasStopped (scenario : Scenario) (seen : List Entry) (s : Session) : Type 0 where
  pub life : life_of seen s.progress.id ≡ Stopped
  pub lines_are : s.lines ≡ lines_of_backend scenario seen s.progress.id

-- where a backend that has an entry is
pub data IsGoing (scenario : Scenario) (seen : List Entry) (s : Session) : Type 0 where
  Awaits : (waits : AwaitsEntry scenario seen s.progress s.lines) → IsGoing scenario seen s
  Over : (stopped : HasStopped scenario seen s) → IsGoing scenario seen s

-- where a backend is in a history
abbrev pub Stands : Scenario → List Entry → Session → Type 0
Stands scenario seen s = elim s.is_started [ true ↦ IsGoing scenario seen s | false ↦ HasNoEntry scenario seen s ]

-- the session of the backend of this number
pub record IsSessionOf (scenario : Scenario) (seen : List Entry) (b : ℕ) (s : Session) : Type 0 where
  pub id : s.progress.id ≡ b
  pub stands : Stands scenario seen s

-- the sessions of all backends, in order
pub record AreSessions (scenario : Scenario) (seen : List Entry) (sessions : List Session) : Type 0 where
  pub count : length sessions ≡ scenario.backends
  pub each : (i : ℕ) (s : Session) → slice_get sessions i ≡ Some s → IsSessionOf scenario seen (i + 1) s

-- the ledger and the sessions are those of a history that the script allows
pub record Follows (scenario : Scenario) (seen : List Entry) (ledger : Ledger) (held : List Session) : Type 0 where
  pub reads : Reads seen ledger
  pub legal : IsLegal seen
  pub queue : FollowsQueue scenario.size seen
  pub plays : Plays scenario seen
  pub spelled : AreSpelled scenario
  pub sessions : AreSessions scenario seen held

-- there are so few entries that they can be counted
abbrev pub AreCounted : List Entry → Type 0
AreCounted seen = length seen < 1152921504606846976

-- what is held is that of some history that the script allows
pub record IsHeld (ledger : Ledger) (sessions : List Session) : Type 0 where
  pub scenario : Scenario
  pub seen : List Entry
  pub counted : AreCounted seen
  pub follows : Follows scenario seen ledger sessions
