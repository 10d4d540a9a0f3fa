-- What a check finds.
use Rattle.std.specs.Prelude.{◌≡◌, ◌+◌, ℕ, List, length}
use Rattle.std.specs.List.{All, AllByRecursion}
use Rattle.base_types.specs.Commands.{IsCommand}
use Rattle.event_kinds.specs.Entries.{IsEntry, IsLine}
use Rattle.history_ledger.specs.Longest.{IsLongest}
use Rattle.history_model.specs.Orderly.{AreOrderly}
use Rattle.cacheless.specs.Lines.{lines_of}
use Rattle.cacheless.specs.Output.{IsOutput}
use Rattle.cacheless.specs.Places.{ArePlacesUsable}
use Rattle.check_tool.specs.Leading.{Leads}
use Rattle.check_tool.specs.Types.{CheckKind, Scenario, Entry}
use Rattle.check_tool.specs.Reached.{MayBeReached}
use Rattle.check_tool.specs.declared.checking.Checked.{Checked}
use Rattle.check_tool.specs.declared.checking.Checked.TheVariants as answers

-- an output of `walk` or `run` of the script, each of whose entries has a text: numbers of four bytes, names as they may be, and a write of something
pub record IsTypedOutput (kind : CheckKind) (scenario : Scenario) (text : List ℕ) : Type 0 where
  pub is : IsOutput kind scenario text
  pub entries : All IsEntry is.history

-- an output of the script of that kind, with so many entries; its history keeps order, and the script's commands have forms that lines may have, so that each law of such histories is one of it; each `as of P` in its answers is the place of its backend's last scan of what is told, since which the backend fetched no message about it; and its answer lines are such as a reader of texts takes
pub record IsOutputOf (kind : CheckKind) (scenario : Scenario) (text : List ℕ) (count : ℕ) : Type 0 where
  pub is : IsTypedOutput kind scenario text
  pub orderly : AreOrderly is.is.history
  pub commands : AllByRecursion (λ p. IsCommand p.command) scenario.commands
  pub places : ArePlacesUsable scenario is.is.history
  pub answers : All IsLine (lines_of scenario is.is.history)
  pub count_is : count ≡ length is.is.history

-- no output of the script; its `walk` or `run` may have come to the entries before this one of those that the text begins with, and not to one more
pub record DiffersAt (kind : CheckKind) (scenario : Scenario) (text : List ℕ) (entry : ℕ) : Type 0 where
  pub differs : IsOutput kind scenario text → ⊥
  pub entries : List Entry
  pub rest : List ℕ
  pub leads : Leads text entries rest
  pub count : ℕ
  pub longest : IsLongest (MayBeReached kind scenario) entries count
  pub entry_is : entry ≡ count + 1

-- what holds of the script and the text where a check answers so
abbrev pub IsVerdict : CheckKind → Scenario → List ℕ → Checked → Type 0
IsVerdict kind scenario text (answers.Output entries) = IsOutputOf kind scenario text entries
IsVerdict kind scenario text (answers.Differs entry) = DiffersAt kind scenario text entry
