-- The script that a run plays: the whole one, of which backends that a gate stopped do no more than their first commands.
use Rattle.std.specs.Prelude.{◌≡◌, ◌≤◌, ℕ, List, [], ◌∷◌, length}
use Rattle.base_types.specs.Scenario.{Scenario}
use Rattle.ddl_effect.specs.Commands.{commands_of}
use Rattle.shared_seg.specs.Kept.{Kept}
use Rattle.backend_core.specs.Cuts.{cut}
use Rattle.thread_run.specs.declared.halted_at.HaltedAt.{HaltedAt}

-- what is left of a script where backends stop so, one after another
abbrev pub cut_by : List HaltedAt → Scenario → Scenario
cut_by [] scenario = scenario
cut_by (at ∷ cuts) scenario = cut_by cuts (cut at.backend at.commands scenario)

-- one script is left of another
pub record IsLeft (whole part : Scenario) : Type 0 where
  pub cuts : List HaltedAt
  pub is : part ≡ cut_by cuts whole

-- what backends share, and the script that was given
pub record Play : Type 0 where
  pub shared : Kept
  pub whole : Scenario

-- how many commands a backend has in the script that is played
abbrev pub commands_left : Play → ℕ → ℕ
commands_left play b = length (commands_of play.shared.script b)

-- a backend has all its commands
abbrev pub HasAll : Scenario → ℕ → ℕ → Type 0
HasAll whole b room = length (commands_of whole b) ≤ room
