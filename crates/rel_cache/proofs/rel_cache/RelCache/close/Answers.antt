use Rattle.std.proofs.Common.{refl}
use Rattle.rel_cache.specs.Caches.{held_of}
use Rattle.rel_cache.proofs.Agreeing.{stands}
use Rattle.rel_cache.proofs.Calls.{closing}
use Rattle.rel_cache.proofs.Whole.{changes}
use Rattle.rel_cache.proofs.rel_cache.RelCache.close.Goals as goal

pub invariant_of-self : goal.invariant_of-self
unfolding held_of
invariant_of-self g c =
    let cache = c.args.self.now in
    let s = stands cache.descriptors cache.index c.requires.0.0 c.args.r cache.indexed c.requires.1 in
    let l = closing cache.descriptors c.unpin.new.self cache.index cache.index c.requires.0.0 c.args.r cache.indexed cache.placed s c.unpin.ensures.entry refl in
    record { indexed = l.indexed; placed = l.placed }

pub returns-clause-held : goal.returns-clause-held
unfolding held_of
returns-clause-held g c = λ rel under.
    let cache = c.args.self.now in
    let s = stands cache.descriptors cache.index rel.0 c.args.r cache.indexed under in
    changes cache _ rel _ (closing cache.descriptors c.unpin.new.self cache.index cache.index rel.0 c.args.r cache.indexed cache.placed s c.unpin.ensures.entry refl)
