-- The commands that are left in their lists as one backend after another is given its own.
use Rattle.std.proofs.Common.{◌≡◌, ◌≢◌, ◌<◌, ◌≤◌, ◌+◌, ◌∙◌, ℕ, List, [], length, get_or, set, get_or-set_other, ap, arith}
use Rattle.std.proofs.lemmas.List.{length-set, get_or_read}
use Rattle.base_types.specs.declared.command.Command.{Command}
use Rattle.base_types.specs.Scenario.{Scenario}
use Rattle.ddl_effect.specs.Commands.{commands_of}

-- the commands of the backends from a place on are still in their lists
pub record AreLeft (s : Scenario) (n : ℕ) (lists : List (List Command)) : Type 0 where
  pub count : length lists ≡ s.backends
  pub each : (i : ℕ) → n ≤ i → i < s.backends → get_or lists i [] ≡ commands_of s (i + 1)

-- what is read at the place is the next backend's
pub left_next : (s : Scenario) (n : ℕ) (lists : List (List Command)) (commands : List Command) → AreLeft s n lists → n < s.backends → commands ≡ get_or lists n commands → commands ≡ commands_of s (n + 1)
left_next s n lists commands left within read = get_or_read lists n commands (omega (arith, within, left.count)) read [] ∙ left.each n (omega arith) within

-- one fewer
pub left_fewer : (s : Scenario) (n : ℕ) (lists new : List (List Command)) (commands : List Command) → AreLeft s n lists → new ≡ set lists n commands → AreLeft s (n + 1) new
left_fewer s n lists new commands left made = record {
  count = ap length made ∙ length-set lists n commands ∙ left.count;
  each = λ i after within.
      let apart : i ≢ n = omega (arith, after) in
      ap (λ l. get_or l i []) made ∙ get_or-set_other lists n i commands [] apart ∙ left.each i (omega (arith, after)) within;
}
