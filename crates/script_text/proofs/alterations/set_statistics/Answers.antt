use Rattle.std.proofs.Common.{◌∙◌, sym, refl, rules}
use Rattle.script_text.specs.Commands.{statistics_command}
use Rattle.script_text.proofs.alterations.set_statistics.Goals as goal

pub returns-in_err-stat : goal.returns-in_err-stat
unfolding statistics_command
returns-in_err-stat c = rw (c.from_residual-in_err-stat.ensures, ← c.of-tokens.ensures, c.in_ok-name.ensures, c.in_err-stat.ensures) refl

pub returns-then-ends : goal.returns-then-ends
unfolding statistics_command
returns-then-ends c = rw (← c.of-tokens.ensures, c.in_ok-name.ensures, c.in_ok-stat.ensures, sym c.ends.ensures ∙ c.if-ends.true) (search rules)

pub returns-else-ends : goal.returns-else-ends
unfolding statistics_command
returns-else-ends c = rw (← c.of-tokens.ensures, c.in_ok-name.ensures, c.in_ok-stat.ensures, sym c.ends.ensures ∙ c.if-ends.false) refl
