-- What a script allows of a list of entries, and what is answered by that.
use Rattle.std.specs.Prelude.{◌≡◌, ℕ, List, take}
use Rattle.history_ledger.specs.Longest.{IsLongest}
use Rattle.cacheless.specs.Output.{IsAllowed}
use Rattle.cacheless.specs.Lines.{lines_of}
use Rattle.history_lines.specs.Types.{Scenario, Entry, Line}

-- so many entries are the longest prefix that the script allows, and these are the lines of the commands that it finishes
pub record IsAnswered (scenario : Scenario) (entries : List Entry) (count : ℕ) (lines : List Line) : Type 0 where
  pub longest : IsLongest (IsAllowed scenario) entries count
  pub lines_are : lines ≡ lines_of scenario (take count entries)
