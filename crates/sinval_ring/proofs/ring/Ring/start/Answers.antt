use Rattle.std.proofs.Common.{length, false, refl}
use Rattle.sinval_ring.specs.Readers.{At}
use Rattle.sinval_ring.proofs.Keeping.{keeps_reader, view_reader, at_end, end_kept}
use Rattle.sinval_ring.proofs.ring.Ring.start.Goals as goal

pub invariant_of-self : goal.invariant_of-self
invariant_of-self c =
    let r = c.self.inside in
    keeps_reader r.window r.first.value r.max r.min r.threshold r.readers.items _ c.args.b (At r.max false) (At (length r.window.log) false) c.self.invariant refl
    (at_end r.window r.first.value r.max r.min r.threshold r.readers.items c.self.invariant) (end_kept r.window r.first.value r.max r.min r.threshold r.readers.items c.self.invariant)

pub returns : goal.returns
returns c =
    let r = c.self.inside in
    view_reader r.window r.first.value r.max r.min r.threshold r.readers.items _ c.args.b (At r.max false) (λ q. At (length q.log) false) _ c.self.view_is c.self.invariant refl
    (at_end r.window r.first.value r.max r.min r.threshold r.readers.items c.self.invariant)
