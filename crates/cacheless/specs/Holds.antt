-- What the code holds is the session of its backend in a history.
use Rattle.std.specs.Prelude.{◌≡◌, ◌≤◌, ◌+◌, ◌++◌, ◌∷◌, [], ℕ, true, List, length, drop, Some, slice_get}
use Rattle.std.specs.List.{AllByRecursion}
use Rattle.base_types.specs.Scenario.{IsBackend}
use Rattle.event_kinds.specs.declared.entry.Event.TheVariants as events
use Rattle.ddl_effect.specs.Plans.{Plan, Act, Do}
use Rattle.txn_blocks.specs.Blocks.{no_block}
use Rattle.ddl_effect.specs.Commands.{commands_of}
use Rattle.ddl_effect.specs.Stages.{plan_at, plan_again}
use Rattle.history_model.specs.Changing.{is_empty}
use Rattle.cacheless.specs.Types.{Row, Command, Opening, Scenario, Entry, Event}
use Rattle.cacheless.specs.declared.progress.Counts.{Counts}
use Rattle.cacheless.specs.declared.progress.Progress.{Progress}
use Rattle.cacheless.specs.Facts.{Facts, facts_of}
use Rattle.cacheless.specs.Session.{none_open, at_command}
use Rattle.cacheless.specs.Work.{work_of}
use Rattle.cacheless.specs.Owed.{owed_first_in, owed_after}
use Rattle.cacheless.specs.Settled.{done_here, act_done, is_finished_in, next_session, settled}
use Rattle.cacheless.specs.Sessions.{entered, session_of}
use Rattle.cacheless.specs.Pins.{ArePinned}
use Rattle.cacheless.specs.Puts.{PutsOpened}
use Rattle.cacheless.specs.State.{facts_at, lists_at, is_absent, IsNew, Rest, session_at}
use Rattle.cacheless.specs.Silently.{IsAtRest}

-- the facts of the backend's entries are what the code holds
abbrev pub FactsFit : Facts → Progress → Type 0
FactsFit facts s = facts ≡ facts_at s

-- the running command has made so many entries at most
pub record CountsFit (c : Counts) (entries : ℕ) : Type 0 where
  pub looks : c.looks ≤ entries
  pub scans : c.scans ≤ entries
  pub grants : c.grants ≤ entries
  pub unlocks : c.unlocks ≤ entries
  pub fetches : c.fetches ≤ entries
  pub full : c.full ≤ c.fetches

-- the plan before the last lookup is this one, which puts only what it opens itself
pub record IsSought (sought plan : Plan) : Type 0 where
  pub is : sought ≡ plan
  pub puts : (opened : List Opening) → PutsOpened opened plan

-- what the code holds is the session of its backend in a history, before or after it went on without entries
pub record Holds (scenario : Scenario) (seen : List Entry) (s : Progress) : Type 0 where
  pub number : IsBackend scenario.backends s.id
  pub commands : s.commands ≡ commands_of scenario s.id
  pub few : length s.commands ≤ 20000
  pub most : s.finished ≤ length s.commands
  pub rest : Rest
  pub count : length rest.finished ≡ s.finished
  pub is : session_of scenario seen s.id ≡ Some (settled (facts_of seen s.id) (drop s.finished s.commands) (session_at s rest))
  pub facts : FactsFit (facts_of seen s.id) s
  pub counts : CountsFit s.tally (length seen)
  pub order : AllByRecursion (λ list. list.command ≤ s.finished + 1) (lists_at s)
  pub sought : is_absent (plan_at s.opens s.exec) ≡ true → IsSought rest.sought (plan_again s.opens s.exec)
  pub puts : PutsOpened s.opened (plan_at s.opens s.exec)
  pub pins : ArePinned s

-- the same where nothing is left to be done without an entry
pub record Rests (scenario : Scenario) (seen : List Entry) (s : Progress) : Type 0 where
  pub holds : Holds scenario seen s
  pub still : IsAtRest s

-- a backend that hasn't started
pub record HasNotStarted (scenario : Scenario) (seen : List Entry) (s : Progress) : Type 0 where
  pub number : IsBackend scenario.backends s.id
  pub commands : s.commands ≡ commands_of scenario s.id
  pub few : length s.commands ≤ 20000
  pub new : IsNew s.id s.commands s
  pub facts : FactsFit (facts_of seen s.id) s

-- the entry of a backend and a command
abbrev pub entry_of : ℕ → ℕ → Event → Entry
entry_of b c event = record { backend = b; command = c; event = event }

-- the history with an entry of the backend
abbrev pub with_own : List Entry → Progress → Event → List Entry
with_own seen s event = seen ++ entry_of s.id (s.finished + 1) event ∷ []

-- the backend is as far in its commands
pub record IsWhere (was now : Progress) : Type 0 where
  pub id : now.id ≡ was.id
  pub commands : now.commands ≡ was.commands
  pub finished : now.finished ≡ was.finished

-- after an own entry the code holds the session that the entry left, before that has gone on
pub record HasEntered (scenario : Scenario) (seen : List Entry) (was : Progress) (event : Event) (rests : Rests scenario seen was) (now : Progress) : Type 0 where
  pub holds : Holds scenario (with_own seen was event) now
  pub session : session_at now holds.rest ≡ entered (facts_of (with_own seen was event) was.id) (drop was.finished was.commands) (length seen + 1) (was.finished + 1) event (session_at was rests.holds.rest)
  pub moves : IsWhere was now

-- after its start it holds the session at the first command
pub record HasStarted (scenario : Scenario) (seen : List Entry) (was now : Progress) : Type 0 where
  pub holds : Holds scenario (seen ++ entry_of was.id 0 events.Start ∷ []) now
  pub session : session_at now holds.rest ≡ at_command no_block none_open [] [] (length seen + 1) (slice_get was.commands 0)
  pub moves : IsWhere was now

-- an act that is done without an entry
pub record HasActed (scenario : Scenario) (seen : List Entry) (was : Progress) (held : Holds scenario seen was) (now : Progress) : Type 0 where
  pub holds : Holds scenario seen now
  pub command : Command
  pub at : slice_get was.commands was.finished ≡ Some command
  pub free : is_empty (owed_first_in (facts_of seen was.id) command (work_of (session_at was held.rest)) ++ owed_after (facts_of seen was.id).due) ≡ true
  pub act : Act
  pub further : List Row → Plan
  pub left : plan_at was.opens was.exec ≡ Do act further
  pub given : List Row
  pub gives : done_here (facts_of seen was.id) (session_at was held.rest) act (Do act further) ≡ Some given
  pub session : session_at now holds.rest ≡ act_done act given (further given) (session_at was held.rest)
  pub moves : IsWhere was now

-- a command that is finished is passed over
pub record HasPassed (scenario : Scenario) (seen : List Entry) (was : Progress) (held : Holds scenario seen was) (now : Progress) : Type 0 where
  pub holds : Holds scenario seen now
  pub command : Command
  pub at : slice_get was.commands was.finished ≡ Some command
  pub over : is_finished_in (facts_of seen was.id) command (work_of (session_at was held.rest)) ≡ true
  pub session : session_at now holds.rest ≡ next_session command (slice_get was.commands (was.finished + 1)) (session_at was held.rest)
  pub id : now.id ≡ was.id
  pub commands : now.commands ≡ was.commands
  pub finished : now.finished ≡ was.finished + 1
