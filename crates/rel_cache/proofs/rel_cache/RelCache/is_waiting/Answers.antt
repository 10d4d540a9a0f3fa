use Rattle.std.proofs.Common.{◌∙◌, sym, ap, is_some}
use Rattle.rel_cache.specs.Caches.{held_of}
use Rattle.rel_cache.proofs.Agreeing.{stands_at}
use Rattle.rel_cache.proofs.Whole.{awaits_there}
use Rattle.rel_cache.proofs.rel_cache.RelCache.is_waiting.Goals as goal

pub pins-pins-requires : goal.pins-pins-requires
unfolding held_of
pins-pins-requires g c = ap is_some (stands_at c.args.self.now.descriptors c.args.self.now.index c.in-Some.rel.now c.in-Some.kept.now c.args.self.now.indexed c.in-Some.ensures.value).is

pub returns : goal.returns
unfolding held_of
returns g c = c.is_left.ensures ∙ sym (awaits_there c.args.self.now c.args.above c.args.place c.in-Some.rel.now c.pins-pins.result c.in-Some.kept.now (sym c.in-Some.ensures.entry) c.in-Some.ensures.value c.pins-pins.ensures)
