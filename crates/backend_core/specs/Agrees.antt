-- How a backend agrees with a history.
use Rattle.std.specs.Prelude.{◌≡◌, ◌≤◌, ◌+◌, ℕ, true, false, Option, None, List, [], slice_get, is_some}
use Rattle.history_model.specs.Lives.{life_of, last_event_of}
use Rattle.history_model.specs.declared.life.Life.{Life}
use Rattle.history_model.specs.declared.life.Life.TheVariants.{Unstarted, Alive, Stopped}
use Rattle.history_model.specs.Transactions.{has_written}
use Rattle.cacheless.specs.Answering.{KeepsAbsent}
use Rattle.cacheless.specs.Facts.{facts_of}
use Rattle.cacheless.specs.Holds.{Holds, Rests, HasNotStarted}
use Rattle.cacheless.specs.Lines.{lines_of_backend}
use Rattle.cacheless.specs.OnCourse.{AllOnCourse}
pub use Rattle.cacheless.specs.Played.{AreSpelled, IsPlayed}
use Rattle.cacheless.specs.Sessions.{session_of}
use Rattle.cacheless.specs.Silently.{is_to_answer_at}
use Rattle.cacheless.specs.State.{session_at}
use Rattle.cacheless.specs.State as progress
use Rattle.cacheless.specs.Telling.{Tells, AreLines, TellsNow}
pub use Rattle.cacheless.specs.OwnTransaction.{RunsFit}
use Rattle.backend_core.specs.Types.{Command, Scenario, Entry, Backend}
use Rattle.backend_core.specs.declared.life.Life.TheVariants as lives
use Rattle.backend_core.specs.Cuts.{HoldsBefore}
use Rattle.backend_core.specs.Fits.{Fits}

-- the running command, if there is one
abbrev pub command_at : Backend → Option Command
command_at s = slice_get s.progress.commands s.progress.finished

-- the life of a backend that has joined and hasn't left
pub record IsAlive (life : Life) (s : Backend) : Type 0 where
  pub last : ℕ
  pub alive : life ≡ Alive last
  pub most : last ≤ s.progress.finished + 1

-- what a backend that has joined and hasn't left keeps whatever it has done last
pub record Keeps (seen : List Entry) (s : Backend) : Type 0 where
  pub alive : s.life ≡ lives.Alive
  pub life : IsAlive (life_of seen s.progress.id) s
  pub absent : KeepsAbsent seen s.progress

-- a backend whose last entry is the history's last, before it has gone on without entries, or on the way
pub record AgreesNow (scenario : Scenario) (seen : List Entry) (s : Backend) : Type 0 where
  pub keeps : Keeps seen s
  pub holds : Holds scenario seen s.progress
  pub runs : RunsFit (facts_of seen s.progress.id) (command_at s) (session_at s.progress holds.rest)
  pub fits : Fits (facts_of seen s.progress.id) (command_at s) (session_at s.progress holds.rest) s.looked s.frames s.told
  pub tells : TellsNow scenario seen s.progress holds
  pub lines : AreLines scenario seen s.progress (session_at s.progress holds.rest) s.lines
  pub before : HoldsBefore seen s.progress holds.rest

-- it has gone on without an entry
pub record GoesOn (scenario : Scenario) (seen : List Entry) (was now : Backend) : Type 0 where
  pub agrees : AgreesNow scenario seen now
  pub id : now.progress.id ≡ was.progress.id

-- a backend that goes on only with an entry
pub record AwaitsEntry (scenario : Scenario) (seen : List Entry) (s : Backend) : Type 0 where
  pub keeps : Keeps seen s
  pub rests : Rests scenario seen s.progress
  pub runs : RunsFit (facts_of seen s.progress.id) (command_at s) (session_at s.progress rests.holds.rest)
  pub fits : Fits (facts_of seen s.progress.id) (command_at s) (session_at s.progress rests.holds.rest) s.looked s.frames s.told
  pub tells : Tells scenario seen s.progress (session_at s.progress rests.holds.rest)
  pub lines : AreLines scenario seen s.progress (session_at s.progress rests.holds.rest) s.lines
  pub answered : is_to_answer_at s.progress ≡ true → is_some s.progress.answer ≡ true
  pub before : HoldsBefore seen s.progress rests.holds.rest

-- a backend that may make an entry: it waits for one, and every backend is on its course in what was played
pub record IsReady (scenario : Scenario) (seen : List Entry) (s : Backend) : Type 0 where
  pub waits : AwaitsEntry scenario seen s
  pub played : IsPlayed scenario seen
  pub course : AllOnCourse scenario seen

-- a new backend, which hasn't joined
pub record IsNew (s : Backend) (id : ℕ) (commands : List Command) : Type 0 where
  pub progress : progress.IsNew id commands s.progress
  pub life : s.life ≡ lives.Unstarted
  pub looked : s.looked ≡ false
  pub frames : s.frames ≡ []
  pub told : s.told ≡ false
  pub lines : s.lines ≡ []

-- a backend that hasn't joined has no entry
pub record HasNotJoined (scenario : Scenario) (seen : List Entry) (s : Backend) : Type 0 where
  pub waits : HasNotStarted scenario seen s.progress
  pub new : IsNew s s.progress.id s.progress.commands
  pub last : last_event_of seen s.progress.id ≡ None
  pub session : session_of scenario seen s.progress.id ≡ None
  pub facts : facts_of seen s.progress.id ≡ facts_of [] s.progress.id
  pub life : life_of seen s.progress.id ≡ Unstarted
  pub unwritten : (c : ℕ) → has_written seen s.progress.id c ≡ false

-- a backend that has left: its lines are those of all its commands, and none is left
pub record HasLeft (scenario : Scenario) (seen : List Entry) (s : Backend) : Type 0 where
  pub holds : Holds scenario seen s.progress
  pub life : life_of seen s.progress.id ≡ Stopped
  pub lines : s.lines ≡ lines_of_backend scenario seen s.progress.id
  pub past : command_at s ≡ None

-- where a backend is in a history
abbrev pub Stands : Scenario → List Entry → Backend → Type 0
Stands scenario seen s = elim s.life [ lives.Unstarted ↦ HasNotJoined scenario seen s | lives.Alive ↦ AwaitsEntry scenario seen s | lives.Stopped ↦ HasLeft scenario seen s ]
