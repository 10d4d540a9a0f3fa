use Rattle.std.proofs.Common.{◌≡◌, take}
use Rattle.std.specs.Prelude.{map}
use Rattle.rel_desc.specs.KeptRows.{value_made}
use Rattle.rel_desc.proofs.part.values_read.Given as goal

abbrev pub invariant-loop-field : goal.invariant-loop-field
invariant-loop-field l = l.values ≡ map (value_made l.fn.rel l.rows) (take l.field-index l.field-items)
