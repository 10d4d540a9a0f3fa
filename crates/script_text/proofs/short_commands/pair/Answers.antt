use Rattle.std.proofs.Common.{refl}
use Rattle.script_text.specs.Commands.{pair_command}
use Rattle.script_text.proofs.short_commands.pair.Goals as goal

pub returns-in-Some : goal.returns-in-Some
unfolding pair_command
returns-in-Some c = rw (← c.in-Some.ensures) refl

pub returns-in-Some-two_names : goal.returns-in-Some-two_names
unfolding pair_command
returns-in-Some-two_names c = rw (← c.in_default.ensures, ← c.in-Some-two_names.ensures) refl

pub returns-in-Some-two_names-2 : goal.returns-in-Some-two_names-2
unfolding pair_command
returns-in-Some-two_names-2 c = rw (← c.in_default.ensures, ← c.in_default-two_names.ensures, ← c.in-Some-two_names-2.ensures) refl

pub returns-in_err-name : goal.returns-in_err-name
unfolding pair_command
returns-in_err-name c = rw (c.from_residual.ensures, ← c.in_default.ensures, ← c.in_default-two_names.ensures, ← c.in_default-two_names-2.ensures, ← c.in_err-name.ensures) refl

pub returns : goal.returns
unfolding pair_command
returns c = rw (← c.in_default.ensures, ← c.in_default-two_names.ensures, ← c.in_default-two_names-2.ensures, ← c.in_ok-name.ensures) refl
