use Rattle.std.proofs.Common.{◌≡◌, [], replicate}
use Rattle.by_backend.proofs.own_commands.empty_lists.Given as goal

abbrev pub invariant-loop-list : goal.invariant-loop-list
invariant-loop-list l = l.lists.items ≡ replicate l.list []
