use Rattle.std.proofs.Common.{take}
use Rattle.std.specs.List.{All}
use Rattle.event_kinds.specs.Entries.{IsLine}
use Rattle.out_text.proofs.typed.look_at_lines.Given as goal

abbrev pub invariant-loop-line : goal.invariant-loop-line
invariant-loop-line l = All IsLine (take l.line-index l.lines)
