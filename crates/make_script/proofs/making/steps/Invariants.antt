use Rattle.std.proofs.Common.{◌≡◌, replicate}
use Rattle.make_script.specs.Scripts.{step_line}
use Rattle.make_script.proofs.making.steps.Given as goal

abbrev pub invariant-lines : goal.invariant-lines
invariant-lines l = record { are : l.lines.items ≡ replicate l._line step_line }
