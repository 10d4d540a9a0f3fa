use Rattle.std.proofs.Common.{◌≡◌, take, flat_map}
use Rattle.script_text.specs.Spelling.{with_pieces, turns_pieces}
use Rattle.script_text.proofs.writing.all_turns.Given as goal

abbrev pub invariant-loop-item : goal.invariant-loop-item
invariant-loop-item l = l.out.items ≡ with_pieces l.fn.out.items (flat_map turns_pieces (take l.item-index l.items))
