use Rattle.std.proofs.Common.{ℕ, ap}
use Rattle.base_types.specs.declared.ids.Oid.{Oid}
use Rattle.rel_cache.specs.Caches.{held_of}
use Rattle.rel_cache.proofs.Agreeing.{stands}
use Rattle.rel_cache.proofs.Calls.{one_relation}
use Rattle.rel_cache.proofs.rel_cache.RelCache.get.Goals as goal

-- the relation of a number
abbrev relation : ℕ → Oid
relation n = record { 0 = n }

pub returns-clause-one : goal.returns-clause-one
unfolding held_of
returns-clause-one g c = λ rel other under also.
    let cache = c.args.self.now in
    ap relation (one_relation cache.descriptors cache.index rel.0 other.0 c.args.r.now (stands cache.descriptors cache.index rel.0 c.args.r.now cache.indexed under) (stands cache.descriptors cache.index other.0 c.args.r.now cache.indexed also))
