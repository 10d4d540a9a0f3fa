use Rattle.std.proofs.Common.{◌≡◌, length}
use Rattle.script_text.specs.Commands.{names_at}
use Rattle.script_text.proofs.ItemByItem.{with_items}
use Rattle.script_text.proofs.list_commands.names_at.Given as goal

abbrev pub invariant-items : goal.invariant-items
invariant-items l = with_items l.names (names_at l.tokens) ≡ names_at l.fn.tokens

abbrev pub decreases-items : goal.decreases-items
decreases-items l = length l.tokens
