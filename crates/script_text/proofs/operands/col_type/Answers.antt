use Rattle.std.specs.Prelude.{◌||◌}
use Rattle.std.specs.Str.{bytes_eq}
use Rattle.base_types.specs.Words.{type_word, col_types}
use Rattle.script_text.specs.Operands.{type_of, is_other_word}
use Rattle.script_text.proofs.Finding.{finds_none}
use Rattle.script_text.proofs.operands.col_type.Goals as goal

pub returns : goal.returns
unfolding type_of
returns c = finds_none (λ t. bytes_eq c.args.text.now (type_word t) || is_other_word c.args.text.now t) col_types c.loop-col_type.col_type-index _ c.loop-col_type-test.false c.loop-col_type.invariant
