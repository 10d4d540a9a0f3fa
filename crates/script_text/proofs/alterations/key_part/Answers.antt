use Rattle.std.proofs.Common.{refl}
use Rattle.script_text.specs.Commands.{key_part}
use Rattle.script_text.proofs.alterations.key_part.Goals as goal

pub returns : goal.returns
unfolding key_part
returns c = rw (c.in_ok-column.ensures, ← c.referred_part.ensures, c.in_ok-ref_column.was) refl
