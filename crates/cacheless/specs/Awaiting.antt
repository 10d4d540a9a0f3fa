-- A session between two entries of its backend, and right after one.
use Rattle.std.specs.Prelude.{◌≡◌, ℕ, true, false, Option, None, List, [], is_some}
use Rattle.event_kinds.specs.declared.entry.Event.TheVariants as events
use Rattle.history_model.specs.Lives.{last_event_of}
use Rattle.history_model.specs.Transactions.{has_written}
use Rattle.cacheless.specs.Answering.{KeepsAbsent}
use Rattle.cacheless.specs.Facts.{facts_of}
use Rattle.cacheless.specs.Holds.{Holds, Rests, HasNotStarted, HasEntered}
use Rattle.cacheless.specs.Sessions.{session_of}
use Rattle.cacheless.specs.Silently.{is_to_answer_at}
use Rattle.cacheless.specs.State.{session_at}
use Rattle.cacheless.specs.Telling.{Tells, AreLines, TellsNow}
use Rattle.cacheless.specs.Types.{Scenario, Entry, Event, Line}
use Rattle.cacheless.specs.declared.progress.Progress.{Progress}

-- that of a backend without entries
pub record HasNoEntry (scenario : Scenario) (seen : List Entry) (s : Progress) : Type 0 where
  pub waits : HasNotStarted scenario seen s
  pub last : last_event_of seen s.id ≡ None
  pub session : session_of scenario seen s.id ≡ None
  pub facts : facts_of seen s.id ≡ facts_of [] s.id
  pub unwritten : (c : ℕ) → has_written seen s.id c ≡ false

-- one that goes on only with an entry, with the lines of its finished commands
pub record AwaitsEntry (scenario : Scenario) (seen : List Entry) (s : Progress) (lines : List Line) : Type 0 where
  pub rests : Rests scenario seen s
  pub absent : KeepsAbsent seen s
  pub tells : Tells scenario seen s (session_at s rests.holds.rest)
  pub lines_are : AreLines scenario seen s (session_at s rests.holds.rest) lines
  pub answered : is_to_answer_at s ≡ true → is_some s.answer ≡ true

-- one whose last entry is the history's last, before it has gone on without entries
pub record AnswersNow (scenario : Scenario) (seen : List Entry) (s : Progress) (lines : List Line) : Type 0 where
  pub holds : Holds scenario seen s
  pub absent : KeepsAbsent seen s
  pub tells : TellsNow scenario seen s holds
  pub lines_are : AreLines scenario seen s (session_at s holds.rest) lines

-- the answer after an event: an entry of an end and the stop leave it, and after any other it is worked out anew
abbrev pub answer_after : Event → Option (List ℕ) → Option (List ℕ)
answer_after (events.Visible xid) answer = answer
answer_after (events.Publish count) answer = answer
answer_after (events.Gone from) answer = answer
answer_after (events.Release from) answer = answer
answer_after events.Stop answer = answer
answer_after event answer = None

-- the session has taken an entry of its own
pub record HasTaken (scenario : Scenario) (seen : List Entry) (was : Progress) (event : Event) (rests : Rests scenario seen was) (now : Progress) : Type 0 where
  pub goes : HasEntered scenario seen was event rests now
  pub answer : now.answer ≡ answer_after event was.answer
