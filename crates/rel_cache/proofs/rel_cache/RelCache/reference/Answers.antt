use Rattle.std.proofs.Common.{sym, ap}
use Rattle.std.specs.Option.{option_map}
use Rattle.rel_cache.specs.Caches.{held_of}
use Rattle.rel_cache.proofs.Agreeing.{stands_at, held_there}
use Rattle.rel_cache.proofs.rel_cache.RelCache.reference.Goals as goal

pub returns : goal.returns
unfolding held_of
returns g c =
    let cache = c.args.self.now in
    let place = c.in_ok-get.field-0.now in
    let s = stands_at cache.descriptors cache.index c.args.rel.0 place cache.indexed (sym c.in_ok-get.ensures.value) in
    sym (ap (option_map (λ h. h.at)) (held_there cache.descriptors cache.index c.args.rel.0 place s.entry (sym c.in_ok-get.ensures.value) s.is))
