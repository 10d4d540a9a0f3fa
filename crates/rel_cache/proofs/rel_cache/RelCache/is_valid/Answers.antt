use Rattle.std.proofs.Common.{◌≡◌, Some, None, nat_eq, sym, subst}
use Rattle.indexmap.specs.IndexMap.{get}
use Rattle.rel_cache.specs.Caches.{held_of}
use Rattle.rel_cache.proofs.Agreeing.{stands}
use Rattle.rel_cache.proofs.Calls.{own_relation, mark_under, not_there}
use Rattle.rel_cache.proofs.rel_cache.RelCache.is_valid.Goals as goal

pub unreachable-requires : goal.unreachable-requires
unfolding held_of
unreachable-requires g c =
    let cache = c.args.self.now in
    let rel = c.requires.0.0 in
    let s = stands cache.descriptors cache.index rel c.args.r.now cache.indexed c.requires.1 in
    let own = own_relation cache.descriptors cache.index rel c.args.r.now c.get.result.now s c.get.ensures in
    not_there cache.descriptors cache.index rel c.args.r.now s (subst (λ n. get nat_eq cache.index n ≡ None) own (sym c.in_default.ensures.value))

pub returns : goal.returns
unfolding held_of
returns g c = λ rel under.
    let cache = c.args.self.now in
    let s = stands cache.descriptors cache.index rel.0 c.args.r.now cache.indexed under in
    let own = own_relation cache.descriptors cache.index rel.0 c.args.r.now c.get.result.now s c.get.ensures in
    mark_under cache.descriptors cache.index rel.0 c.args.r.now c.in-Some.place.now s (subst (λ n. get nat_eq cache.index n ≡ Some c.in-Some.place.now) own (sym c.in-Some.ensures.value))
