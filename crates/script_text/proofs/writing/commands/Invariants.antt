use Rattle.std.proofs.Common.{◌≡◌, take, flat_map}
use Rattle.script_text.specs.Spelling.{with_pieces, placed_pieces}
use Rattle.script_text.proofs.writing.commands.Given as goal

abbrev pub invariant-loop-command : goal.invariant-loop-command
invariant-loop-command l = l.out.items ≡ with_pieces l.fn.out.items (flat_map placed_pieces (take l.command-index l.commands))
