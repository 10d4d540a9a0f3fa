use Rattle.std.proofs.Common.{◌-◌, refl, arith}
use Rattle.pin_pool.proofs.Gone.{gone_as_it_is, gone_twice}
use Rattle.rel_cache.specs.Caches.{held_of, relation_at}
use Rattle.rel_cache.proofs.Whole.{told_alike, told_whole}
use Rattle.rel_cache.proofs.rel_cache.RelCache.note_reset.Goals as goal

pub loop-place-init : goal.loop-place-init
unfolding held_of
loop-place-init g c = record { within = omega (arith, c.len-place.ensures.len); settled = λ k from within. absurd (omega (arith, from, within, c.len-place.ensures.len)); alike = λ r. refl; gone = gone_as_it_is c.args.self.now.descriptors }

pub note_at-requires : goal.note_at-requires
unfolding held_of
note_at-requires g c = omega (arith, c.loop-place.invariant.within, c.loop-place-test.true)

pub loop-place-preserved : goal.loop-place-preserved
unfolding held_of
loop-place-preserved g c = record {
  within = c.note_at.ensures.within;
  settled = c.note_at.ensures.told (λ k from within. c.loop-place.invariant.settled k (omega (arith, from, c.loop-place-test.true)) within);
  alike = told_alike c.loop-place.self c.note_at.new.self (relation_at c.loop-place.self (c.loop-place.place - 1)) (held_of c.args.self.now) c.note_at.ensures.held c.loop-place.invariant.alike;
  gone = gone_twice c.args.self.now.descriptors c.loop-place.self.descriptors c.note_at.new.self.descriptors c.loop-place.invariant.gone c.note_at.ensures.gone;
}

pub returns-clause-held : goal.returns-clause-held
unfolding held_of
returns-clause-held g c = told_whole c.loop-place.self (held_of c.args.self.now) (λ k from within. c.loop-place.invariant.settled k (omega (arith, c.loop-place-test.false)) within) c.loop-place.invariant.alike
