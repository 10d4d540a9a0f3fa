use Rattle.std.proofs.Common.{take}
use Rattle.by_backend.specs.OwnCommands.{HaveCommands}
use Rattle.by_backend.proofs.own_commands.commands_by_backend.Given as goal

abbrev pub invariant-loop-placed : goal.invariant-loop-placed
invariant-loop-placed l = HaveCommands (take l.placed-index l.script.commands) l.script.backends l.lists.items
