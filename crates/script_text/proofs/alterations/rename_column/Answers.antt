use Rattle.std.proofs.Common.{◌∙◌, sym, refl}
use Rattle.script_text.specs.Commands.{rename_column_command}
use Rattle.script_text.proofs.alterations.rename_column.Goals as goal

pub returns-in_err-to : goal.returns-in_err-to
unfolding rename_column_command
returns-in_err-to c = rw (c.from_residual-in_err-to.ensures, ← c.of-tokens.ensures, c.in_ok-name.ensures, c.in_err-to.ensures) refl

pub returns-then-ends : goal.returns-then-ends
unfolding rename_column_command
returns-then-ends c = rw (← c.of-tokens.ensures, c.in_ok-name.ensures, c.in_ok-to.ensures, sym c.ends.ensures ∙ c.if-ends.true) refl

pub returns-else-ends : goal.returns-else-ends
unfolding rename_column_command
returns-else-ends c = rw (← c.of-tokens.ensures, c.in_ok-name.ensures, c.in_ok-to.ensures, sym c.ends.ensures ∙ c.if-ends.false) refl
