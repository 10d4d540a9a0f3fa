use Rattle.std.proofs.Common.{◌≡◌, ◌∷◌, take, flat_map, codes}
use Rattle.script_text.specs.Spelling.{with_pieces, column_pieces}
use Rattle.script_text.proofs.command_writing.more_columns.Given as goal

abbrev pub invariant-loop-item : goal.invariant-loop-item
invariant-loop-item l = l.out.items ≡ with_pieces l.fn.out.items (flat_map (λ x. codes "," ∷ column_pieces x) (take l.item-index l.columns))
