use Rattle.local_caches.proofs.Letting.{LetsGoFrom}
use Rattle.local_caches.proofs.descriptors.Descriptors.unpin_others.Given as goal

-- those from here on are let go, or one of these
abbrev pub invariant-loop-at : goal.invariant-loop-at
invariant-loop-at l = LetsGoFrom l.fn.self l.self l.kept l.at

abbrev pub decreases-loop-at : goal.decreases-loop-at
decreases-loop-at l = l.at
