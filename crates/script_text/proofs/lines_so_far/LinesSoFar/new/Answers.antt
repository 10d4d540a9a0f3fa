use Rattle.script_text.proofs.DraftLimits.{empty_kept, empty_counted}
use Rattle.script_text.proofs.lines_so_far.LinesSoFar.new.Goals as goal

pub invariant_of-result : goal.invariant_of-result
invariant_of-result c = rw (c.new.ensures, c.new-2.ensures) (empty_counted, empty_kept)
