-- The ranges and limits of what lines say so far.
use Rattle.std.proofs.Common.{◌≡◌, ◌≤◌, ℕ, List, [], ◌∷◌, length, refl, arith}
use Rattle.std.specs.List.{AllByRecursion}
use Rattle.base_types.specs.declared.command.Placed.{Placed}
use Rattle.base_types.specs.declared.command.Turns.{Turns}
use Rattle.base_types.specs.Scenario.{Scenario, IsBackend, AreTurns}
use Rattle.script_text.specs.Grammar.{empty_draft}
use Rattle.script_text.specs.Drafts.{IsDraft, IsCounted}

each_weaker : {X : Type 0} (P Q : X → Type 0) (xs : List X) → ((x : X) → P x → Q x) → AllByRecursion P xs → AllByRecursion Q xs
each_weaker P Q [] f h = tt
each_weaker P Q (x ∷ xs) f h = (f x h.0, each_weaker P Q xs f h.1)

pub empty_kept : IsDraft empty_draft.asked
empty_kept = record {
  size = record { power = 12; is = refl; least = omega arith; most = omega arith };
  from = omega arith;
  backends = omega arith;
  commands = omega arith;
  placed = tt;
  spelled = tt;
  turns = tt;
  steps = omega arith;
}

pub empty_counted : IsCounted 0 []
empty_counted = record { is = refl; most = omega arith }

-- a number of backends may come where none is known yet
pub backends_kept : (asked : Scenario) (n : ℕ) → asked.backends ≡ 0 → n ≤ 64 → IsDraft asked → IsDraft (record asked { backends = n })
backends_kept asked n none most kept = record {
  size = kept.size;
  from = kept.from;
  backends = most;
  commands = kept.commands;
  placed = each_weaker (λ (p : Placed). IsBackend asked.backends p.backend) (λ (p : Placed). IsBackend n p.backend) asked.commands (λ p h. absurd (omega (arith, h.0, h.1, none))) kept.placed;
  spelled = kept.spelled;
  turns = each_weaker (λ (line : List Turns). (1 ≤ length line) × AllByRecursion (AreTurns asked.backends) line) (λ (line : List Turns). (1 ≤ length line) × AllByRecursion (AreTurns n) line) asked.steps (λ ts h. (h.0, each_weaker (AreTurns asked.backends) (AreTurns n) ts (λ t g. absurd (omega (arith, g.0.0, g.0.1, none))) h.1)) kept.turns;
  steps = kept.steps;
}
