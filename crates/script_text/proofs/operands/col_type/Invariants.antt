use Rattle.std.proofs.Common.{◌≡◌, ◌||◌, drop}
use Rattle.std.specs.List.{find}
use Rattle.std.specs.Str.{bytes_eq}
use Rattle.base_types.specs.Words.{type_word, col_types}
use Rattle.script_text.specs.Operands.{is_other_word}
use Rattle.script_text.proofs.operands.col_type.Given as goal

abbrev pub invariant-loop-col_type : goal.invariant-loop-col_type
invariant-loop-col_type l = find (λ t. bytes_eq l.text (type_word t) || is_other_word l.text t) (drop l.col_type-index l.col_type-items) ≡ find (λ t. bytes_eq l.text (type_word t) || is_other_word l.text t) col_types
