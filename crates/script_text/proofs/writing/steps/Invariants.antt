use Rattle.std.proofs.Common.{◌≡◌, take, flat_map}
use Rattle.script_text.specs.Spelling.{with_pieces, steps_pieces}
use Rattle.script_text.proofs.writing.steps.Given as goal

abbrev pub invariant-loop-line : goal.invariant-loop-line
invariant-loop-line l = l.out.items ≡ with_pieces l.fn.out.items (flat_map steps_pieces (take l.line-index l.lines))
