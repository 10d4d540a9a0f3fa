use Rattle.std.specs.Str.{bytes_eq}
use Rattle.base_types.specs.Words.{field_word, all_fields}
use Rattle.script_text.specs.Operands.{field_of}
use Rattle.script_text.proofs.Finding.{finds_none}
use Rattle.script_text.proofs.operands.field.Goals as goal

pub returns : goal.returns
unfolding field_of
returns c = finds_none (λ f. bytes_eq c.args.text.now (field_word f)) all_fields c.loop-field.field-index _ c.loop-field-test.false c.loop-field.invariant
