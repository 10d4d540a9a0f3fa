use Rattle.std.proofs.Common.{◌∙◌, ap, nat_lt}
use Rattle.local_caches.specs.Caches.{is_pinned}
use Rattle.local_caches.specs.Descriptors.{pins_of}
use Rattle.local_caches.specs.Whole.{is_one_of}
use Rattle.local_caches.proofs.Letting.{pinned_left}
use Rattle.local_caches.proofs.local_caches.LocalCaches.unpin_others.Goals as goal

pub returns-clause-pins : goal.returns-clause-pins
unfolding is_pinned
returns-clause-pins c = λ rel. ap (nat_lt 0) (c.unpin_others.ensures.pins rel) ∙ pinned_left (is_one_of rel c.args.kept.now) (pins_of c.args.self.now.descriptors rel)
