use Rattle.std.proofs.Common.{◌∙◌, unwrap_or, get_or, sym, ap, arith}
use Rattle.std.proofs.lemmas.Option.{unwrap_or-slice_get}
use Rattle.shared_seg.specs.Places.{Placed, places_of}
use Rattle.shared_seg.proofs.places.Places.promised.Goals as goal

pub returns : goal.returns
returns c =
    c.unwrap_or.ensures ∙ ap (λ o. unwrap_or o 0) c.copied.ensures ∙ c.get.ensures.lookup.4 (omega arith) 0 ∙ ap (λ l. get_or l c.args.b 0) c.deref.ensures.value
    ∙ sym (unwrap_or-slice_get c.self.inside.promised.items c.args.b 0) ∙ ap (λ (p : Placed). places_of p c.args.b) c.self.view_is
