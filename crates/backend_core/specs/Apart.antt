-- Where a backend stands between two of its turns, while others make entries that it doesn't see.
use Rattle.std.specs.Prelude.{◌≡◌, ◌≢◌, ⊤, ◌++◌, ◌∷◌, ℕ, List, []}
use Rattle.std.specs.List.{AllByRecursion}
use Rattle.history_model.specs.MayFollow.{AllowsLook}
use Rattle.backend_core.specs.Types.{Scenario, Entry, Backend}
use Rattle.backend_core.specs.declared.turns.HeldLook.{HeldLook}
use Rattle.backend_core.specs.Agrees.{IsPlayed, AgreesNow, Stands}
use Rattle.backend_core.specs.Cuts.{IsAlike}
use Rattle.backend_core.specs.Looks.{entry_held, entries_of, MayCallAll}

-- a history allows these looks of a backend, in order
abbrev pub AllowsHeld : List Entry → ℕ → List HeldLook → Type 0
AllowsHeld history b [] = ⊤
AllowsHeld history b (look ∷ held) = AllowsLook history b look.some_wait × AllowsHeld (history ++ entry_held b look ∷ []) b held

-- the looks that a backend holds back may come after a history, in order, and it is right after them
pub record IsHolding (Right : Scenario → List Entry → Backend → Type 0) (scenario : Scenario) (b : ℕ) (history : List Entry) (held : List HeldLook) (s : Backend) : Type 0 where
  pub id : s.progress.id ≡ b
  pub calls : MayCallAll scenario history (entries_of b held)
  pub played : IsPlayed scenario (history ++ entries_of b held)
  pub right : Right scenario (history ++ entries_of b held) s

-- the same whatever others have entered since the backend has seen the history, and before which of their commands they stop: in each history that was played, by a script that says the same of the backend, and allows the looks
abbrev pub IsApart : (Scenario → List Entry → Backend → Type 0) → Scenario → ℕ → List Entry → List HeldLook → Backend → Type 0
IsApart Right scenario b seen held s = (later : Scenario) → IsAlike b scenario later → (others : List Entry) → AllByRecursion (λ e. e.backend ≢ b) others → IsPlayed later (seen ++ others) → AllowsHeld (seen ++ others) b held → IsHolding Right later b (seen ++ others) held s

-- it stands so, waiting for its next entry, or it agrees so, before it goes on without entries
abbrev pub StandsApart : Scenario → ℕ → List Entry → List HeldLook → Backend → Type 0
StandsApart scenario b seen held s = IsApart Stands scenario b seen held s

abbrev pub AgreesApart : Scenario → ℕ → List Entry → List HeldLook → Backend → Type 0
AgreesApart scenario b seen held s = IsApart AgreesNow scenario b seen held s
