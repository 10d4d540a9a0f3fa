use Rattle.std.proofs.Common.{◌≡◌, length}
use Rattle.script_text.specs.Commands.{columns_at}
use Rattle.script_text.proofs.ItemByItem.{with_items}
use Rattle.script_text.proofs.list_commands.columns_at.Given as goal

abbrev pub invariant-items : goal.invariant-items
invariant-items l = with_items l.columns (columns_at l.tokens) ≡ columns_at l.fn.tokens

abbrev pub decreases-items : goal.decreases-items
decreases-items l = length l.tokens
