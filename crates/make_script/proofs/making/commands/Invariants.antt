use Rattle.std.proofs.Common.{◌≡◌, ◌-◌, ◌++◌}
use Rattle.make_script.specs.Scripts.{commands_after}
use Rattle.make_script.proofs.making.commands.Given as goal

abbrev pub invariant-commands : goal.invariant-commands
invariant-commands l = record { left : l.commands.items ++ commands_after (1000 - l._command) l.draws.number ≡ commands_after 1000 l.number }
