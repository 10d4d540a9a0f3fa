use Rattle.std.proofs.Common.{◌∙◌, sym, refl}
use Rattle.script_text.specs.Commands.{fillfactor_command}
use Rattle.script_text.proofs.alterations.set_fillfactor.Goals as goal

pub returns-then-ends : goal.returns-then-ends
unfolding fillfactor_command
returns-then-ends c = rw (← c.of-tokens.ensures, c.in_ok-name.ensures, c.in_ok-fill.ensures, sym c.ends.ensures ∙ c.if-ends.true) refl

pub returns-else-ends : goal.returns-else-ends
unfolding fillfactor_command
returns-else-ends c = rw (← c.of-tokens.ensures, c.in_ok-name.ensures, c.in_ok-fill.ensures, sym c.ends.ensures ∙ c.if-ends.false) refl
