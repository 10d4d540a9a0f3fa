use Rattle.std.proofs.Common.{◌∙◌, ◌&&◌, ap}
use Rattle.local_caches.specs.Caches.{is_pinned}
use Rattle.local_caches.specs.Whole.{is_one_of}
use Rattle.cacheless.proofs.Pinning.{among_open}
use Rattle.cacheless.proofs.opens.unpin_others.Goals as goal

pub returns-clause-pins : goal.returns-clause-pins
returns-clause-pins c = λ rel. c.unpin_others.ensures.pins rel ∙ ap (λ t. t && is_pinned c.args.caches.now rel) (ap (is_one_of rel) (c.as_slice.ensures ∙ c.in_ok-rels.ensures) ∙ among_open rel c.args.opens.now)
