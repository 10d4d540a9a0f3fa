-- What is said of the sessions of `walk` and `run` beyond the answers that they gave, and of the steps of `walk`.
use Rattle.std.specs.Prelude.{ℕ, Option, List, ⊤}
use Rattle.std.specs.List.{All}
use Rattle.base_types.specs.Scenario.{Scenario}
use Rattle.event_kinds.specs.declared.entry.Entry.{Entry}
use Rattle.backend_core.specs.Agrees.{Stands}
use Rattle.backend_core.specs.Coherent.{IsCoherent}
use Rattle.backend_core.specs.declared.backend.Backend.{Backend}
use Rattle.backend_core.specs.Walked.{IsNotedWalk}
use Rattle.cacheless.specs.declared.check_kind.CheckKind.{CheckKind}
use Rattle.cacheless.specs.declared.check_kind.CheckKind.TheVariants.{Walk, Run}
use Rattle.catsync_top.specs.Top.{Ran, HasMade}

-- what `walk` writes is a walk of the backends by steps that are noted, and a script has one such walk; the steps of `run` may come in any order
abbrev pub IsNotedAs : CheckKind → Scenario → List Entry → Type 0
IsNotedAs Walk scenario history = IsNotedWalk scenario history
IsNotedAs Run scenario history = ⊤

-- a script was walked or run, by noted steps where it was walked, and each session stands in the history that was written, and is coherent with it
pub record RanCoherently (kind : CheckKind) (left rest : Option (List ℕ)) (taken now : Option (List ℕ)) (Writes : Option (List ℕ) → Option (List ℕ) → List ℕ → Type 0) (sessions : List Backend) : Type 0 where
  pub ran : Ran kind left rest taken now Writes sessions
  pub noted : IsNotedAs kind ran.reading.script ran.is.history
  pub stand : All (Stands ran.reading.script ran.is.history) sessions
  pub coherent : All (IsCoherent ran.reading.script ran.is.history) sessions

-- a script was made, and what the comment above it counts is what `walk` writes for it: a walk by noted steps
pub record HasMadeByWalk (script : Scenario) (taken now : Option (List ℕ)) (Writes : Option (List ℕ) → Option (List ℕ) → List ℕ → Type 0) : Type 0 where
  pub made : HasMade script taken now Writes
  pub noted : IsNotedWalk script made.is.history
