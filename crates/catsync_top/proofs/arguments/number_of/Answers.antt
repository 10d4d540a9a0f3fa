use Rattle.std.proofs.Common.{◌++◌, ◌∙◌, ℕ, List, decimal, sym, ap}
use Rattle.std.specs.Str.{bytes_eq}
use Rattle.catsync_top.proofs.Numbers.{not_parsed, out_of_range, written_otherwise}
use Rattle.catsync_top.proofs.arguments.number_of.Goals as goal

pub returns-in_default : goal.returns-in_default
returns-in_default c = not_parsed c.args.text.now c.parse.result c.in_default.field-0 c.parse.ensures.value.0 c.in_default.is

pub returns-then-number-lt1 : goal.returns-then-number-lt1
returns-then-number-lt1 c = out_of_range c.args.text.now c.parse.result c.in-Ok.number c.parse.ensures.value.0 c.in-Ok.is c.then-number-lt1.either

pub returns-else-eq : goal.returns-else-eq
returns-else-eq c =
    written_otherwise c.args.text.now c.as_bytes.result.now c.parse.result c.in-Ok.number c.parse.ensures.value.0 c.in-Ok.is
    (c.as_bytes.ensures.text ∙ c.push_number.ensures.text ∙ ap (λ (t : List ℕ). t ++ decimal c.in-Ok.number) c.new-digits.ensures)
    (ap (bytes_eq c.as_bytes.result.now) (sym c.as_bytes-2.ensures.value) ∙ sym c.eq.ensures ∙ c.if-eq.false)
