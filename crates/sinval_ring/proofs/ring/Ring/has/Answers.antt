use Rattle.std.proofs.Common.{◌∙◌, get_or, ap}
use Rattle.sinval_ring.specs.Readers.{Inactive}
use Rattle.sinval_ring.proofs.Keeping.{behind_is}
use Rattle.sinval_ring.proofs.ring.Ring.has.Goals as goal

pub returns : goal.returns
returns c =
    let r = c.self.inside in
    c.is_behind.ensures ∙ behind_is r.window r.first.value r.max r.min r.threshold r.readers.items _ c.args.b c.reader_at.result c.self.view_is c.self.invariant (c.reader_at.ensures ∙ ap (λ l. get_or l c.args.b Inactive) c.deref.ensures.value)
