use Rattle.std.proofs.Common.{◌∙◌, ap}
use Rattle.inval_messages.specs.Lists.{cats_in, lists_from}
use Rattle.command_lists.specs.Lists.{all_lists}
use Rattle.command_lists.proofs.Parts.{cats-slice}
use Rattle.command_lists.proofs.lists.InvalLists.cats_from.Goals as goal

pub returns : goal.returns
returns c =
    let l = c.self.inside in
    rw (c.deref-4.ensures.value, c.place_from-at.ensures.place, c.end_of.ensures, c.deref.ensures.value, c.deref-2.ensures.value, c.deref-3.ensures.value)
    (cats-slice l.cats.items l.rels.items l.ended.items l.running c.args.from c.self.invariant.order c.self.invariant.within
    ∙ ap (λ held. cats_in (lists_from c.args.from (all_lists held.lists))) c.self.view_is)
