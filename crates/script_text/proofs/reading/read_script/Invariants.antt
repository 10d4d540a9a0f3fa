use Rattle.std.proofs.Common.{◌≡◌, ◌≤◌, ◌+◌, length}
use Rattle.script_text.specs.TextLines.{text_lines}
use Rattle.script_text.specs.Grammar.{lines_from, script_of}
use Rattle.script_text.proofs.reading.read_script.Given as goal

abbrev pub invariant-lines : goal.invariant-lines
invariant-lines l = record {
  read : lines_from l.rest l.draft l.number l.place (text_lines l.left) ≡ script_of l.rest l.bytes;
  places : l.place + length l.left ≤ length l.bytes;
  numbers : l.number + length l.left ≤ length l.bytes + 1;
}

abbrev pub decreases-lines : goal.decreases-lines
decreases-lines l = length l.left
