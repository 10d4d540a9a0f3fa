use Rattle.sinval_ring.proofs.Keeping.{number_is, number_below, number_wrapped}
use Rattle.sinval_ring.proofs.ring.Ring.number.Goals as goal

pub returns : goal.returns
returns c =
    let r = c.self.inside in
    record {
      number = number_is r.window r.first.value r.max r.min r.threshold r.readers.items _ c.self.view_is c.self.invariant;
      below = number_below r.window r.first.value r.max r.min r.threshold r.readers.items _ c.self.view_is c.self.invariant;
      wrapped = number_wrapped r.window r.first.value r.max r.min r.threshold r.readers.items _ c.self.view_is c.self.invariant;
    }
