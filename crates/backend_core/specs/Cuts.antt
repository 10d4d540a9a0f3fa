-- A script of which a backend does no more than its first commands.
use Rattle.std.specs.Prelude.{◌≡◌, ◌<◌, ◌≤◌, ◌==◌, ℕ, false, zero, suc, Some, List, [], ◌∷◌, cond, take, drop}
use Rattle.base_types.specs.Scenario.{IsBackend}
use Rattle.base_types.specs.declared.command.Placed.{Placed}
use Rattle.ddl_effect.specs.Commands.{commands_of}
use Rattle.history_model.specs.Prefixes.{EachEntry}
use Rattle.cacheless.specs.Facts.{facts_of}
use Rattle.cacheless.specs.Played.{AreSpelled}
use Rattle.cacheless.specs.Sessions.{session_of}
use Rattle.cacheless.specs.Settled.{settled}
use Rattle.cacheless.specs.State.{Rest, session_at}
use Rattle.backend_core.specs.Types.{Scenario, Entry, Progress}

-- of placed commands the first so many of a backend, and all others
abbrev pub cut_commands : ℕ → ℕ → List Placed → List Placed
cut_commands b n [] = []
cut_commands b zero (p ∷ rest) = cond (p.backend == b) (cut_commands b zero rest) (p ∷ cut_commands b zero rest)
cut_commands b (suc n) (p ∷ rest) = p ∷ cond (p.backend == b) (cut_commands b n rest) (cut_commands b (suc n) rest)

-- the script with the first so many commands of a backend
abbrev pub cut : ℕ → ℕ → Scenario → Scenario
cut b n scenario = record scenario { commands = cut_commands b n scenario.commands }

-- one script has the first so many commands of a backend of another one, and all of others
pub record IsCut (b n : ℕ) (whole part : Scenario) : Type 0 where
  pub backends : part.backends ≡ whole.backends
  pub own : commands_of part b ≡ take n (commands_of whole b)
  pub others : (a : ℕ) → (a == b) ≡ false → commands_of part a ≡ commands_of whole a
  pub spelled : AreSpelled whole → AreSpelled part

-- two scripts say the same of a backend
pub record IsAlike (b : ℕ) (one two : Scenario) : Type 0 where
  pub backends : two.backends ≡ one.backends
  pub commands : commands_of two b ≡ commands_of one b

-- a backend has no entry of a command with a higher number
abbrev pub EndsBy : ℕ → ℕ → List Entry → Type 0
EndsBy b n history = EachEntry (λ before e. e.backend ≡ b → e.command ≤ n) history

-- the session of a backend in each script that ends with a command which it hasn't finished, and is the same up to there
abbrev pub HoldsBefore : List Entry → Progress → Rest → Type 0
HoldsBefore seen s rest = (part : Scenario) (m : ℕ) → IsBackend part.backends s.id → s.finished < m → commands_of part s.id ≡ take m s.commands
    → session_of part seen s.id ≡ Some (settled (facts_of seen s.id) (drop s.finished (take m s.commands)) (session_at s rest))
