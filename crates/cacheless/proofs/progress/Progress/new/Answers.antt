use Rattle.cacheless.proofs.BeforeStart.{is_new, new_waits}
use Rattle.cacheless.proofs.progress.Progress.new.Goals as goal

pub invariant_of-result : goal.invariant_of-result
invariant_of-result c = record { known = c.new-suspects.ensures _ _ }

pub returns-clause-new : goal.returns-clause-new
returns-clause-new c = is_new _ _ _ _ _ _ _ _ _ _ _ _ _ _ _ c.as_slice.ensures c.as_slice-2.ensures c.in_ok-first.ensures.plan c.in_ok-first.ensures.blocked c.none.ensures c.new-blocks.ensures c.new-opens.ensures c.new-2.ensures c.new-3.ensures c.new-4.ensures c.in_ok-caches.ensures.kept c.in_ok-caches.ensures.pins

pub returns-clause-waits : goal.returns-clause-waits
returns-clause-waits c = λ scenario number commands few. new_waits scenario _ (is_new _ _ _ _ _ _ _ _ _ _ _ _ _ _ _ c.as_slice.ensures c.as_slice-2.ensures c.in_ok-first.ensures.plan c.in_ok-first.ensures.blocked c.none.ensures c.new-blocks.ensures c.new-opens.ensures c.new-2.ensures c.new-3.ensures c.new-4.ensures c.in_ok-caches.ensures.kept c.in_ok-caches.ensures.pins) number commands few
