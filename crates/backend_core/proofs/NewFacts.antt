-- The facts of a backend before its first entry.
use Rattle.std.proofs.Common.{ℕ, List, [], sym}
use Rattle.command_lists.specs.Lists.{all_lists}
use Rattle.cacheless.specs.Facts.{facts_of}
use Rattle.cacheless.specs.Holds.{FactsFit}
use Rattle.cacheless.specs.State.{IsNew}
use Rattle.backend_core.specs.Types.{Command, Progress}

-- what a new backend holds are the facts of one that has no entry
pub facts_none : (b : ℕ) (commands : List Command) (p : Progress) → IsNew b commands p → FactsFit (facts_of [] b) p
facts_none b commands p new = λ i. record { due = sym new.due i; running = sym new.running i; lists = all_lists (sym new.lists i); kept = sym new.kept i }
