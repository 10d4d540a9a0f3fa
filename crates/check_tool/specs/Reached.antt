-- How far `walk` or `run` of a script may have made the entries of a list.
use Rattle.std.specs.Prelude.{◌≡◌, ℕ, not, Option, List, filter, length, take, slice_get}
use Rattle.std.specs.List.{range_with_len}
use Rattle.base_types.specs.Scenario.{IsScript}
use Rattle.history_ledger.specs.Longest.{IsLongest}
use Rattle.cacheless.specs.Lines.{lines_of}
use Rattle.cacheless.specs.Output.{IsAllowed, IsInterleaved}
use Rattle.cacheless.specs.Schedule.{FollowsSchedule, has_stopped, turns_left}
use Rattle.check_tool.specs.Types.{CheckKind, Scenario, Entry, Line}
use Rattle.cacheless.specs.declared.check_kind.CheckKind.TheVariants.{Walk, Run}

-- the script's `walk` or `run` may have come to this history: the script allows it, and its entries come so
pub record MayBeReached (kind : CheckKind) (scenario : Scenario) (history : List Entry) : Type 0 where
  pub allowed : IsAllowed scenario history
  pub interleaved : IsInterleaved kind scenario history

-- the backends whose entries are still to come: by `walk` those of the turns that are left, by `run` those that haven't stopped
abbrev pub due_after : CheckKind → Scenario → List Entry → List ℕ
due_after Walk scenario history = turns_left scenario history
due_after Run scenario history = filter (λ b. not (has_stopped history b)) (range_with_len 1 scenario.backends)

-- so many entries, from the first on, follow the schedule, and whose turn comes after these
pub record HaveFollowed (scenario : Scenario) (entries : List Entry) (count : ℕ) (turn : Option ℕ) : Type 0 where
  pub longest : IsLongest (FollowsSchedule scenario) entries count
  pub turn_is : slice_get (turns_left scenario (take count entries)) 0 ≡ turn

-- so many entries, from the first on, come as those of `walk` or `run`, and the first backend whose entry is still to come after these
pub record AreInterleaved (kind : CheckKind) (scenario : Scenario) (entries : List Entry) (count : ℕ) (due : Option ℕ) : Type 0 where
  pub longest : IsLongest (IsInterleaved kind scenario) entries count
  pub due_is : slice_get (due_after kind scenario (take count entries)) 0 ≡ due

-- `walk` or `run` may have come to so many entries, from the first on; the first backend whose entry is still to come after these, and none where nothing is left to come; and the lines, where that is all entries. The script has the ranges and limits of one
pub record HaveReached (kind : CheckKind) (scenario : Scenario) (entries : List Entry) (count : ℕ) (due : Option ℕ) (lines : List Line) : Type 0 where
  pub script : IsScript scenario
  pub longest : IsLongest (MayBeReached kind scenario) entries count
  pub due_is : slice_get (due_after kind scenario (take count entries)) 0 ≡ due
  pub lines_are : count ≡ length entries → lines ≡ lines_of scenario entries
