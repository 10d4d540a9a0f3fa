-- Where a check finds no output, none of the script begins with the entries up to the one that is named.
use Rattle.std.proofs.Common.{◌≡◌, ◌<◌, ◌+◌, ℕ, List, ◌++◌, length, take, subst}
use Rattle.cacheless.specs.Output.{IsOutput}
use Rattle.check_tool.specs.Types.{CheckKind, Scenario, Entry}
use Rattle.check_tool.specs.Reached.{MayBeReached}
use Rattle.check_tool.specs.Verdicts.{DiffersAt}
use Rattle.check_tool.proofs.Verdicts.{reached-prefix}

-- what comes to its end may have been reached, and so what it begins with
pub none_begins_so : (kind : CheckKind) (scenario : Scenario) (text output : List ℕ) (entry : ℕ) (at : DiffersAt kind scenario text entry) → at.count < length at.entries → (is : IsOutput kind scenario output) (rest : List Entry)
    → is.history ≡ take (at.count + 1) at.entries ++ rest → ⊥
none_begins_so kind scenario text output entry at less is rest begins =
    at.longest.most less (reached-prefix kind scenario (take (at.count + 1) at.entries) rest (subst (MayBeReached kind scenario) begins (record { allowed = is.allowed; interleaved = is.interleaved })))
