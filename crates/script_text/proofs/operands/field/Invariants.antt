use Rattle.std.proofs.Common.{◌≡◌, drop}
use Rattle.std.specs.List.{find}
use Rattle.std.specs.Str.{bytes_eq}
use Rattle.base_types.specs.Words.{field_word, all_fields}
use Rattle.script_text.proofs.operands.field.Given as goal

abbrev pub invariant-loop-field : goal.invariant-loop-field
invariant-loop-field l = find (λ f. bytes_eq l.text (field_word f)) (drop l.field-index l.field-items) ≡ find (λ f. bytes_eq l.text (field_word f)) all_fields
