use Rattle.std.proofs.Common.{◌∙◌, sym, refl}
use Rattle.script_text.specs.Commands.{default_command}
use Rattle.script_text.proofs.alterations.set_default.Goals as goal

pub returns-in_err-word : goal.returns-in_err-word
unfolding default_command
returns-in_err-word c = rw (c.from_residual-in_err-word.ensures, ← c.of-tokens.ensures, c.in_ok-name.ensures, c.in_err-word.ensures) refl

pub returns-then-ends : goal.returns-then-ends
unfolding default_command
returns-then-ends c = rw (← c.of-tokens.ensures, c.in_ok-name.ensures, c.in_ok-word.ensures, sym c.ends.ensures ∙ c.if-ends.true) refl

pub returns-else-ends : goal.returns-else-ends
unfolding default_command
returns-else-ends c = rw (← c.of-tokens.ensures, c.in_ok-name.ensures, c.in_ok-word.ensures, sym c.ends.ensures ∙ c.if-ends.false) refl
