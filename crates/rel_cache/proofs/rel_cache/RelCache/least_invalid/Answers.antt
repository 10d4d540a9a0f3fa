use Rattle.std.proofs.Common.{◌∙◌, sym, subst, arith, ◌+◌}
use Rattle.rel_cache.specs.Caches.{held_of}
use Rattle.rel_cache.proofs.Whole.{IsLeast, none_least, next_waits, next_passes, least_all, is_least, is_none}
use Rattle.rel_cache.proofs.rel_cache.RelCache.least_invalid.Goals.{then-is_waiting, else-is_waiting}
use Rattle.rel_cache.proofs.rel_cache.RelCache.least_invalid.Goals as goal

pub loop-place-init : goal.loop-place-init
unfolding held_of
loop-place-init g c = none_least c.args.self.now c.args.above

pub loop-place-preserved : goal.loop-place-preserved
unfolding held_of
loop-place-preserved g c =
    let cache = c.args.self.now in
    let place = c.loop-place.place in
    elim c.if-is_waiting.branch [
      | then-is_waiting w ↦ subst (λ o. IsLeast cache c.args.above o (place + 1)) (sym w.least-is)
          (next_waits cache c.args.above c.loop-place.least place w.relation.result w.lesser.result c.loop-place.invariant (sym c.is_waiting.ensures ∙ w.if-is_waiting.true) w.relation.ensures w.lesser.ensures.one w.lesser.ensures.least w.lesser.ensures.less)
      | else-is_waiting w ↦ subst (λ o. IsLeast cache c.args.above o (place + 1)) (sym w.least-is) (next_passes cache c.args.above c.loop-place.least place c.loop-place.invariant (sym c.is_waiting.ensures ∙ w.if-is_waiting.false))
    ]

pub returns-clause-some : goal.returns-clause-some
unfolding held_of
returns-clause-some g c = c.loop-place.invariant.waits

pub returns-clause-least : goal.returns-clause-least
unfolding held_of
returns-clause-least g c =
    is_least c.args.self.now c.args.above c.loop-place.least
    (least_all c.args.self.now c.args.above c.loop-place.least (λ k within is. c.loop-place.invariant.least k (omega (arith, within, c.loop-place-test.false, c.len-place-end.ensures.len)) is))

pub returns-clause-none : goal.returns-clause-none
unfolding held_of
returns-clause-none g c =
    is_none c.args.self.now c.args.above c.loop-place.least
    (least_all c.args.self.now c.args.above c.loop-place.least (λ k within is. c.loop-place.invariant.least k (omega (arith, within, c.loop-place-test.false, c.len-place-end.ensures.len)) is))
