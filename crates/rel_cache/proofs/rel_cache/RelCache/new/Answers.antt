use Rattle.rel_cache.proofs.Agreeing.{none_indexed, none_placed}
use Rattle.rel_cache.proofs.rel_cache.RelCache.new.Goals as goal

pub invariant_of-result : goal.invariant_of-result
invariant_of-result g c = record { indexed = none_indexed c.new.result c.new-2.result c.new-2.ensures.empty; placed = none_placed c.new.result c.new-2.result c.new.ensures.none }
