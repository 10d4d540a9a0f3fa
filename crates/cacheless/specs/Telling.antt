-- What the code answers is what the history says.
use Rattle.std.specs.Prelude.{◌≡◌, ◌≤◌, ℕ, true, false, Some, List, slice_get, is_some, length}
use Rattle.event_kinds.specs.declared.entry.Event.TheVariants as events
use Rattle.history_model.specs.Lives.{last_event_of}
use Rattle.cacheless.specs.Types.{Command, Scenario, Entry, Line}
use Rattle.cacheless.specs.declared.progress.Progress.{Progress}
use Rattle.cacheless.specs.Answering.{KeepsAbsent}
use Rattle.cacheless.specs.Facts.{Facts, facts_of}
use Rattle.cacheless.specs.Holds.{Holds}
use Rattle.cacheless.specs.Lines.{line_of, lines_from}
use Rattle.cacheless.specs.OnCourse.{EntersCourse, TellsStill}
use Rattle.cacheless.specs.Played.{IsPlayed}
use Rattle.cacheless.specs.Session.{Session, number_of, outcome_of, is_settled}
use Rattle.cacheless.specs.Work.{work_of}
use Rattle.cacheless.specs.Settled.{finished_as, is_finished_in}
use Rattle.cacheless.specs.State.{session_at}

-- what the running command answers, where that is worked out, is its line
abbrev pub AnswerFits : Scenario → List Entry → Progress → Session → Type 0
AnswerFits scenario seen s session = (text : List ℕ) (command : Command) → s.answer ≡ Some text → slice_get s.commands s.finished ≡ Some command
    → record { backend = s.id; command = number_of session; text = text } ≡ line_of scenario seen s.id (number_of session) (finished_as session) command

-- it is so, and a command that is answered has come out
pub record Tells (scenario : Scenario) (seen : List Entry) (s : Progress) (session : Session) : Type 0 where
  pub answer : AnswerFits scenario seen s session
  pub out : is_some s.answer ≡ true → is_settled (outcome_of session.left) ≡ true

-- the lines of the finished commands
abbrev pub AreLines : Scenario → List Entry → Progress → Session → List Line → Type 0
AreLines scenario seen s session lines = lines ≡ lines_from scenario seen s.id 1 session.finished s.commands

-- the running command is judged at the history's end, and nothing of it is taken back or released, or what it tells rests on no scan
pub record IsJudgedHere (seen : List Entry) (b : ℕ) (session : Session) (command : Command) : Type 0 where
  pub judged : length seen ≤ session.judged
  pub stands : TellsStill seen b session command

-- the running command has come out, and its end isn't whole
pub record IsOnItsEnd (facts : Facts) (command : Command) (session : Session) : Type 0 where
  pub out : is_settled (outcome_of session.left) ≡ true
  pub going : is_finished_in facts command (work_of session) ≡ false

-- a backend whose last entry is the history's last, before it has gone on without entries, or on the way: after taking back, the end of its command isn't whole
pub record TellsNow (scenario : Scenario) (seen : List Entry) (s : Progress) (holds : Holds scenario seen s) : Type 0 where
  pub played : IsPlayed scenario seen
  pub course : EntersCourse scenario seen s.id (session_at s holds.rest)
  pub tells : Tells scenario seen s (session_at s holds.rest)
  pub here : (command : Command) → slice_get s.commands s.finished ≡ Some command → is_some s.answer ≡ false → IsJudgedHere seen s.id (session_at s holds.rest) command
  pub last : length seen ≤ holds.rest.last
  pub back : (from : ℕ) (command : Command) → last_event_of seen s.id ≡ Some (events.Gone from) → slice_get s.commands s.finished ≡ Some command → IsOnItsEnd (facts_of seen s.id) command (session_at s holds.rest)

-- it has gone on without an entry, with the lines of its finished commands
pub record HasGoneOn (scenario : Scenario) (seen : List Entry) (was : Progress) (held : Holds scenario seen was) (before : List Line) (now : Progress) (lines : List Line) : Type 0 where
  pub holds : Holds scenario seen now
  pub tells : TellsNow scenario seen now holds
  pub absent : KeepsAbsent seen now
  pub id : now.id ≡ was.id
  pub lines_are : AreLines scenario seen was (session_at was held.rest) before → AreLines scenario seen now (session_at now holds.rest) lines
