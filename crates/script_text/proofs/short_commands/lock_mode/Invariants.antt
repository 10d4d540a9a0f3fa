use Rattle.std.proofs.Common.{◌≡◌, drop}
use Rattle.std.specs.List.{find}
use Rattle.base_types.specs.Words.{modes}
use Rattle.script_text.specs.Tokens.{ends}
use Rattle.script_text.specs.Operands.{lock_words}
use Rattle.script_text.proofs.short_commands.lock_mode.Given as goal

abbrev pub invariant-loop-mode : goal.invariant-loop-mode
invariant-loop-mode l = find (λ m. ends (lock_words m) l.tokens) (drop l.mode-index l.mode-items) ≡ find (λ m. ends (lock_words m) l.tokens) modes
