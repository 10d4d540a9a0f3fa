use Rattle.std.proofs.Common.{refl}
use Rattle.sinval_ring.specs.Readers.{Inactive}
use Rattle.sinval_ring.proofs.Keeping.{keeps_reader, view_reader}
use Rattle.sinval_ring.proofs.ring.Ring.stop.Goals as goal

pub invariant_of-self : goal.invariant_of-self
invariant_of-self c =
    let r = c.self.inside in
    keeps_reader r.window r.first.value r.max r.min r.threshold r.readers.items _ c.args.b Inactive Inactive c.self.invariant refl refl tt

pub returns : goal.returns
returns c =
    let r = c.self.inside in
    view_reader r.window r.first.value r.max r.min r.threshold r.readers.items _ c.args.b Inactive (λ q. Inactive) _ c.self.view_is c.self.invariant refl refl
