use Rattle.std.proofs.Common.{◌≡◌, ◌∷◌, take, flat_map, codes}
use Rattle.script_text.specs.Spelling.{with_pieces, name_pieces}
use Rattle.script_text.proofs.command_writing.more_names.Given as goal

abbrev pub invariant-loop-name : goal.invariant-loop-name
invariant-loop-name l = l.out.items ≡ with_pieces l.fn.out.items (flat_map (λ x. codes "," ∷ name_pieces x) (take l.name-index l.names))
