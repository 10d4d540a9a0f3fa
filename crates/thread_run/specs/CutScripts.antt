-- Why a script of which a backend does no more than its first commands keeps the ranges and limits of scripts.
use Rattle.std.proofs.Common.{◌≤◌, ◌==◌, ℕ, zero, suc, Bool, true, false, List, [], ◌∷◌, cond, length, arith}
use Rattle.std.specs.List.{AllByRecursion}
use Rattle.base_types.specs.Commands.{IsCommand}
use Rattle.base_types.specs.Scenario.{Scenario, IsScript, IsBackend}
use Rattle.base_types.specs.declared.command.Placed.{Placed}
use Rattle.backend_core.specs.Cuts.{cut_commands, cut}

-- what holds of all placed commands holds of those that are left
all_cut : (P : Placed → Type 0) (b n : ℕ) (placed : List Placed) → AllByRecursion P placed → AllByRecursion P (cut_commands b n placed)
all_cut P b n [] all = tt
all_cut P b zero (p ∷ rest) all = by_test (p.backend == b) (all_cut P b zero rest all.1)
  where
    by_test : (t : Bool) → AllByRecursion P (cut_commands b zero rest) → AllByRecursion P (cond t (cut_commands b zero rest) (p ∷ cut_commands b zero rest))
    by_test true more = more
    by_test false more = (all.0, more)
all_cut P b (suc n) (p ∷ rest) all = (all.0, by_test (p.backend == b) (all_cut P b n rest all.1) (all_cut P b (suc n) rest all.1))
  where
    by_test : (t : Bool) → AllByRecursion P (cut_commands b n rest) → AllByRecursion P (cut_commands b (suc n) rest) → AllByRecursion P (cond t (cut_commands b n rest) (cut_commands b (suc n) rest))
    by_test true fewer more = fewer
    by_test false fewer more = more

no_more : (b n : ℕ) (placed : List Placed) → length (cut_commands b n placed) ≤ length placed
no_more b n [] = omega arith
no_more b zero (p ∷ rest) = by_test (p.backend == b) (no_more b zero rest)
  where
    by_test : (t : Bool) → length (cut_commands b zero rest) ≤ length rest → length (cond t (cut_commands b zero rest) (p ∷ cut_commands b zero rest)) ≤ length (p ∷ rest)
    by_test true least = omega (arith, least)
    by_test false least = omega (arith, least)
no_more b (suc n) (p ∷ rest) = by_test (p.backend == b) (no_more b n rest) (no_more b (suc n) rest)
  where
    by_test : (t : Bool) → length (cut_commands b n rest) ≤ length rest → length (cut_commands b (suc n) rest) ≤ length rest → length (p ∷ cond t (cut_commands b n rest) (cut_commands b (suc n) rest)) ≤ length (p ∷ rest)
    by_test true fewer least = omega (arith, fewer)
    by_test false fewer least = omega (arith, least)

pub cut_script : (b n : ℕ) (scenario : Scenario) → IsScript scenario → IsScript (cut b n scenario)
cut_script b n scenario is = record {
  size = is.size;
  from = is.from;
  backends = is.backends;
  commands = omega (arith, is.commands, no_more b n scenario.commands);
  placed = all_cut (λ p. IsBackend scenario.backends p.backend) b n scenario.commands is.placed;
  spelled = all_cut (λ p. IsCommand p.command) b n scenario.commands is.spelled;
  turns = is.turns;
  steps = is.steps;
}
