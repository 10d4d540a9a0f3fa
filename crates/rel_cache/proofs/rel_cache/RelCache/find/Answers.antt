use Rattle.std.proofs.Common.{IsSome, sym, subst, refl}
use Rattle.rel_cache.proofs.Agreeing.{stands_at}
use Rattle.rel_cache.proofs.rel_cache.RelCache.find.Goals as goal

pub get-requires-in-Some-true : goal.get-requires-in-Some-true
get-requires-in-Some-true g c =
    let cache = c.args.self.now in
    let s = stands_at cache.descriptors cache.index c.args.rel.0 c.in-Some-true.field-0.now cache.indexed (sym c.in-Some-true.ensures.value) in
    subst IsSome (sym s.is) refl
