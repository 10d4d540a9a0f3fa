use Rattle.std.proofs.Common.{◌≡◌, map, take}
use Rattle.script_text.specs.TextLines.{small}
use Rattle.script_text.proofs.text_lines.in_small_letters.Given as goal

abbrev pub invariant-loop-byte : goal.invariant-loop-byte
invariant-loop-byte l = l.folded.items ≡ map small (take l.byte-index l.line)
