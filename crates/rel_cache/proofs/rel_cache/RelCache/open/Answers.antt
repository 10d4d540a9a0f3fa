use Rattle.std.proofs.Common.{◌<◌, ◌∙◌, IsSomeAnd, sym, ap, subst, refl, if◌then◌else◌}
use Rattle.rel_cache.specs.Caches.{held_of}
use Rattle.rel_cache.specs.Descriptors.{opened}
use Rattle.rel_cache.specs.declared.opened.Opened.TheVariants.{Valid, Invalid}
use Rattle.rel_cache.proofs.Agreeing.{stands_at, held_there}
use Rattle.rel_cache.proofs.Calls.{opening}
use Rattle.rel_cache.proofs.Whole.{changes}
use Rattle.rel_cache.proofs.rel_cache.RelCache.open.Goals as goal

pub pin-requires : goal.pin-requires
unfolding held_of
pin-requires g c =
    let cache = c.args.self.now in
    let s = stands_at cache.descriptors cache.index c.args.rel.0 c.in-Some.place.now cache.indexed (sym c.in-Some.ensures.value) in
    subst (λ o. IsSomeAnd o (λ e. e.pins < 4294967295)) (sym s.is) (c.requires _ (held_there cache.descriptors cache.index c.args.rel.0 c.in-Some.place.now s.entry (sym c.in-Some.ensures.value) s.is))

pub invariant_of-self : goal.invariant_of-self
unfolding held_of
invariant_of-self g c =
    let cache = c.args.self.now in
    let s = stands_at cache.descriptors cache.index c.args.rel.0 c.in-Some.place.now cache.indexed (sym c.in-Some.ensures.value) in
    let l = opening cache.descriptors c.pin.new.self cache.index cache.index c.args.rel.0 c.in-Some.place.now.at cache.indexed cache.placed s c.pin.ensures.entry refl in
    record { indexed = l.indexed; placed = l.placed }

pub returns-then-valid-clause-result : goal.returns-then-valid-clause-result
unfolding held_of
returns-then-valid-clause-result g c =
    let cache = c.args.self.now in
    let place = c.in-Some.place.now in
    let s = stands_at cache.descriptors cache.index c.args.rel.0 place cache.indexed (sym c.in-Some.ensures.value) in
    sym (ap opened (held_there cache.descriptors cache.index c.args.rel.0 place s.entry (sym c.in-Some.ensures.value) s.is) ∙ ap (λ v. if v then Valid place.at else Invalid place.at) c.if-valid.true)

pub returns-then-valid-clause-held : goal.returns-then-valid-clause-held
unfolding held_of
returns-then-valid-clause-held g c =
    let cache = c.args.self.now in
    let s = stands_at cache.descriptors cache.index c.args.rel.0 c.in-Some.place.now cache.indexed (sym c.in-Some.ensures.value) in
    changes cache _ c.args.rel _ (opening cache.descriptors c.pin.new.self cache.index cache.index c.args.rel.0 c.in-Some.place.now.at cache.indexed cache.placed s c.pin.ensures.entry refl)

pub returns-else-valid-clause-result : goal.returns-else-valid-clause-result
unfolding held_of
returns-else-valid-clause-result g c =
    let cache = c.args.self.now in
    let place = c.in-Some.place.now in
    let s = stands_at cache.descriptors cache.index c.args.rel.0 place cache.indexed (sym c.in-Some.ensures.value) in
    sym (ap opened (held_there cache.descriptors cache.index c.args.rel.0 place s.entry (sym c.in-Some.ensures.value) s.is) ∙ ap (λ v. if v then Valid place.at else Invalid place.at) c.if-valid.false)

pub returns-else-valid-clause-held : goal.returns-else-valid-clause-held
unfolding held_of
returns-else-valid-clause-held g c =
    let cache = c.args.self.now in
    let s = stands_at cache.descriptors cache.index c.args.rel.0 c.in-Some.place.now cache.indexed (sym c.in-Some.ensures.value) in
    changes cache _ c.args.rel _ (opening cache.descriptors c.pin.new.self cache.index cache.index c.args.rel.0 c.in-Some.place.now.at cache.indexed cache.placed s c.pin.ensures.entry refl)
