use Rattle.std.proofs.Common.{refl, ap}
use Rattle.shared_seg.specs.Kept.{Kept}
use Rattle.shared_seg.proofs.PlacesPromised.{as_many, promises_made}
use Rattle.shared_seg.proofs.Unchanged.{keeps_same}
use Rattle.shared_seg.proofs.shared.SharedSeg.promise.Goals as goal

pub returns-clause-promises : goal.returns-clause-promises
returns-clause-promises c = promises_made _ _ _ _ c.args.b c.args.n _ c.self.view_is c.requires c.self.invariant.folds.backends c.promise.ensures.entries c.promise.ensures.ok c.promise.ensures.err c.promise.ensures.more

pub invariant_of-self : goal.invariant_of-self
invariant_of-self c = keeps_same _ _ _ _ _ _ _ _ _ _ _ c.promise.ensures.entries (as_many _ _ c.args.b _ _ c.promise.ensures.ok c.promise.ensures.err) refl refl c.self.invariant

pub returns-clause-script : goal.returns-clause-script
returns-clause-script c = ap (λ (k : Kept). k.script) c.self.view_is
