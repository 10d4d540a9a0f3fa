-- What a walk keeps with each step, and what it has made in the end.
use Rattle.std.specs.Prelude.{◌≡◌, ◌≤◌, ◌<◌, ◌+◌, ◌-◌, ◌==◌, ℕ, true, false, Option, Some, None, IfSome, List, [], ◌++◌, length, slice_get, slice_set}
use Rattle.base_types.specs.Scenario.{Scenario, IsBackend}
use Rattle.event_kinds.specs.declared.entry.Entry.{Entry}
use Rattle.event_kinds.specs.declared.entry.Line.{Line}
use Rattle.history_model.specs.Sound.{IsSound}
use Rattle.history_model.specs.Prefixes.{EachEntry}
use Rattle.cacheless.specs.MayEnter.{MayEnter}
use Rattle.cacheless.specs.Output.{IsAllowed}
use Rattle.cacheless.specs.Schedule.{FollowsSchedule, AreLooksTrue, IsComplete, has_stopped, pass_stopped, steps_after, turns_left}
use Rattle.cacheless.specs.Lines.{lines_of}
use Rattle.backend_core.specs.declared.backend.Backend.{Backend}
use Rattle.backend_core.specs.Words.{has_left}
use Rattle.backend_core.specs.Agrees.{AreSpelled}
use Rattle.backend_core.specs.Noted.{NotesAtStep}
use Rattle.backend_core.specs.Places.{PromisesOnly}
use Rattle.backend_core.specs.Steps.{Steps}
use Rattle.backend_core.specs.Walked.{Walks, IsNewOf, IsNotedWalk}
use Rattle.script_backends.specs.Standing.{StandsAt}

-- a walk's history is allowed and sound, and the script's commands have forms that lines may have, so that each law of such histories is one of it; it follows the schedule to its end, its looks see all that was sent, and its steps are noted; the lines are those of the history
pub record IsWalk (scenario : Scenario) (history : List Entry) (lines : List Line) : Type 0 where
  pub allowed : IsAllowed scenario history
  pub sound : IsSound history
  pub spelled : AreSpelled scenario
  pub follows : FollowsSchedule scenario history
  pub looks : AreLooksTrue history
  pub noted : IsNotedWalk scenario history
  pub complete : IsComplete scenario history
  pub lines_are : lines ≡ lines_of scenario history

-- the backend of each number, of these in order
abbrev pub numbered : List Backend → ℕ → Option Backend
numbered backends b = elim (b == 0) [ true ↦ None | false ↦ slice_get backends (b - 1) ]

-- a noted walk of new backends has come to these: with a walk from these on it is one
pub record HasWalked (scenario : Scenario) (history : List Entry) (backends : List Backend) : Type 0 where
  pub first : ℕ → Option Backend
  pub new : (b : ℕ) → IfSome (first b) (IsNewOf scenario b)
  pub walks : (rest : List Entry) → Walks scenario history (numbered backends) rest → Walks scenario [] first (history ++ rest)

-- the script's commands have forms that lines may have, each entry of the history was one that might be made, a noted walk made them, and each backend of the script stands in it
pub record AllStand (scenario : Scenario) (history : List Entry) (backends : List Backend) : Type 0 where
  pub spelled : AreSpelled scenario
  pub entered : EachEntry (MayEnter scenario) history
  pub walked : HasWalked scenario history backends
  pub count : length backends ≡ scenario.backends
  pub each : (i : ℕ) (backend : Backend) → slice_get backends i ≡ Some backend → StandsAt scenario history (i + 1) backend

-- a noted walk made all entries but the last, of which the step may have been refused memory after it
pub record IsWalkedToLast (scenario : Scenario) (history : List Entry) : Type 0 where
  pub walked : List Entry
  pub last : List Entry
  pub is : history ≡ walked ++ last
  pub one : length last ≤ 1
  pub noted : IsNotedWalk scenario walked

-- what a walk leaves also where it is refused memory: the history only grew, each entry was one that might be made, and a noted walk made all but the last; what is promised to others than the script's backends is as it was, and to nobody more than was, than 48 or than it wanted on the way
pub record LeavesWell (scenario : Scenario) (old new : List Entry) (had has : ℕ → ℕ) : Type 0 where
  pub more : List Entry
  pub grows : new ≡ old ++ more
  pub entered : EachEntry (MayEnter scenario) new
  pub walked : IsWalkedToLast scenario new
  pub others : (a : ℕ) → (IsBackend scenario.backends a → ⊥) → has a ≡ had a
  pub most : (a : ℕ) → PromisesOnly scenario a old new (had a) (has a)

-- the script has a schedule
abbrev pub HasSchedule : Scenario → Type 0
HasSchedule scenario = 0 < length scenario.steps

-- what is left of the schedule, at a history, is the same as these steps
pub record IsDue (scenario : Scenario) (history : List Entry) (steps : List ℕ) : Type 0 where
  pub follows : FollowsSchedule scenario history
  pub left : pass_stopped history (steps_after scenario history) ≡ pass_stopped history steps

-- a walk by these steps: whatever is due after them is due then
pub record Goes (scenario : Scenario) (old new : List Entry) (are : List Backend) (steps : List ℕ) : Type 0 where
  pub stand : AllStand scenario new are
  pub due : HasSchedule scenario → (rest : List ℕ) → IsDue scenario old (steps ++ rest) → IsDue scenario new rest

-- the first backends have stopped, and each entry came when its backend was the first that hadn't
pub record InTurn (scenario : Scenario) (history : List Entry) (n : ℕ) : Type 0 where
  pub follows : FollowsSchedule scenario history
  pub stopped : (b : ℕ) → 1 ≤ b → b ≤ n → has_stopped history b ≡ true

-- a walk without a schedule that brings more backends to their stops, one after the other
pub record GoesOn (scenario : Scenario) (old : List Entry) (n : ℕ) (new : List Entry) (are : List Backend) (m : ℕ) : Type 0 where
  pub stand : AllStand scenario new are
  pub turn : scenario.steps ≡ [] → InTurn scenario old n → InTurn scenario new m

-- an entry more, if it is this backend's turn
pub record FollowsTurn (scenario : Scenario) (old new : List Entry) (b : ℕ) : Type 0 where
  pub follows : FollowsSchedule scenario old → slice_get (turns_left scenario old) 0 ≡ Some b → FollowsSchedule scenario new

-- some of these steps, if they are due
pub record FollowsSteps (scenario : Scenario) (old new : List Entry) (steps : List ℕ) : Type 0 where
  pub follows : HasSchedule scenario → (rest : List ℕ) → IsDue scenario old (steps ++ rest) → FollowsSchedule scenario new

-- entries without a schedule, if the first backends have stopped
pub record FollowsStops (scenario : Scenario) (old : List Entry) (n : ℕ) (new : List Entry) : Type 0 where
  pub follows : scenario.steps ≡ [] → InTurn scenario old n → FollowsSchedule scenario new

-- the backend of this number hasn't left
abbrev pub IsRunning : List Backend → ℕ → Type 0
IsRunning backends b = (backend : Backend) → slice_get backends (b - 1) ≡ Some backend → has_left backend.life ≡ false

-- the backend of this number makes a step, which is noted, and the others stay
pub record Makes (scenario : Scenario) (old new : List Entry) (were are : List Backend) (b : ℕ) : Type 0 where
  pub was : Backend
  pub is : slice_get were (b - 1) ≡ Some was
  pub now : Backend
  pub had : ℕ → ℕ
  pub has : ℕ → ℕ
  pub steps : Steps scenario old new had has was now
  pub notes : NotesAtStep scenario old new was now
  pub set : are ≡ slice_set were (b - 1) now
