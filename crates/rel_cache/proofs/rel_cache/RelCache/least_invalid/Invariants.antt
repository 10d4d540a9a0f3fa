use Rattle.rel_cache.proofs.Whole.{IsLeast}
use Rattle.rel_cache.proofs.rel_cache.RelCache.least_invalid.Given as goal

abbrev pub invariant-loop-place : goal.invariant-loop-place
invariant-loop-place g l = IsLeast l.self l.above l.least l.place
