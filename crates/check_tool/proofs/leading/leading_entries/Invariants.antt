use Rattle.std.proofs.Common.{◌-◌, length}
use Rattle.check_tool.proofs.FirstLines.{HaveRead}
use Rattle.check_tool.proofs.leading.leading_entries.Given as goal

abbrev pub invariant-lines : goal.invariant-lines
invariant-lines l = HaveRead l.text l.entries.items l.size

abbrev pub decreases-lines : goal.decreases-lines
decreases-lines l = length l.text - l.size
