-- Whose entry comes next.
use Rattle.std.specs.Prelude.{ℕ, Bool, true, false, not, Some, List, [], ◌∷◌, ◌≡◌, if◌then◌else◌, filter, drop, slice_get, ⊤}
use Rattle.std.specs.List.{range_with_len}
use Rattle.event_kinds.specs.declared.entry.Event.TheVariants.{Look}
use Rattle.cacheless.specs.Types.{Turns, Scenario, Entry, Event}
use Rattle.base_types.specs.Scenario.{schedule_of}
use Rattle.history_model.specs.Prefixes.{EachEntry, along}
use Rattle.history_model.specs.Lives.{life_of}
use Rattle.history_model.specs.declared.life.Life.{Life}
use Rattle.history_model.specs.declared.life.Life.TheVariants.{Stopped}
use Rattle.history_model.specs.Log.{is_waiting}

-- a life has ended
abbrev pub is_stopped : Life → Bool
is_stopped Stopped = true
is_stopped life = false

-- a backend has stopped
abbrev pub has_stopped : List Entry → ℕ → Bool
has_stopped history b = is_stopped (life_of history b)

-- the steps from the first one of a backend that hasn't stopped
abbrev pub pass_stopped : List Entry → List ℕ → List ℕ
pass_stopped history [] = []
pass_stopped history (b ∷ steps) = if has_stopped history b then pass_stopped history steps else b ∷ steps

-- the steps after that of the last entry: each entry takes one, and those of stopped backends are passed over
abbrev pub steps_after : Scenario → List Entry → List ℕ
steps_after scenario history = along (λ before steps e. drop 1 (pass_stopped before steps)) (schedule_of scenario) history

-- whose turns are still to come: without lines of steps each backend's to its stop, else those of the steps
abbrev pub turns_by : Scenario → List Entry → List (List Turns) → List ℕ
turns_by scenario history [] = filter (λ b. not (has_stopped history b)) (range_with_len 1 scenario.backends)
turns_by scenario history (line ∷ lines) = pass_stopped history (steps_after scenario history)

-- whose turns are still to come
abbrev pub turns_left : Scenario → List Entry → List ℕ
turns_left scenario history = turns_by scenario history scenario.steps

-- each entry is of the backend whose turn it is
abbrev pub FollowsSchedule : Scenario → List Entry → Type 0
FollowsSchedule scenario history = EachEntry (λ before e. slice_get (turns_left scenario before) 0 ≡ Some e.backend) history

-- a look says no only where nothing waits
abbrev pub LooksTruly : List Entry → ℕ → Event → Type 0
LooksTruly before b (Look false) = is_waiting before b ≡ false
LooksTruly before b event = ⊤

-- each look sees all that was sent before it
abbrev pub AreLooksTrue : List Entry → Type 0
AreLooksTrue history = EachEntry (λ before e. LooksTruly before e.backend e.event) history

-- all turns have been taken
abbrev pub IsComplete : Scenario → List Entry → Type 0
IsComplete scenario history = turns_left scenario history ≡ []
