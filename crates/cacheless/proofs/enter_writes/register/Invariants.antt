use Rattle.std.proofs.Common.{◌-◌, length, take}
use Rattle.command_lists.specs.Lists.{command_ended}
use Rattle.command_lists.proofs.WriteRegistered.{IsRegistering}
use Rattle.cacheless.proofs.enter_writes.register.Given as goal

abbrev pub invariant-loop-message : goal.invariant-loop-message
invariant-loop-message l = IsRegistering (command_ended l.fn.lists.lists) l.command (take l.message-index l.messages) l.lists (length l.messages - l.message-index)
