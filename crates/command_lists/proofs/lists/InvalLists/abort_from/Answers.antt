use Rattle.std.proofs.Common.{◌∙◌, ap, subst, sym}
use Rattle.std.specs.Option.{option_to_list}
use Rattle.std.specs.Vec.{vec_capacity}
use Rattle.command_lists.specs.Lists.{aborted}
use Rattle.command_lists.specs.Starts.{AreInOrder}
use Rattle.command_lists.proofs.Parts.{order-left}
use Rattle.command_lists.proofs.Aborting.{aborted-lists, kept-aborted}
use Rattle.command_lists.proofs.lists.InvalLists.abort_from.Goals as goal

pub count_before-count-requires : goal.count_before-count-requires
count_before-count-requires c = subst AreInOrder (sym c.deref-4.ensures.value) (order-left c.self.inside.ended.items (option_to_list c.self.inside.running) c.self.invariant.order)

pub invariant_of-self : goal.invariant_of-self
invariant_of-self c =
    let l = c.self.inside in
    let before = rw c.deref-4.ensures.value at c.count_before-count.ensures.before in
    rw (c.truncate.ensures.items, c.truncate-2.ensures.items, c.truncate-3.ensures.items, c.truncate-3.ensures.capacity, c.running_before-self-inside.ensures, before, c.place_from-at.ensures.place, c.deref-3.ensures.value, c.end_of-end.ensures, c.deref.ensures.value, c.deref-2.ensures.value)
    (kept-aborted l.cats.items l.rels.items l.ended.items l.running c.args.from (vec_capacity l.ended) c.self.invariant)

pub returns-clause-lists : goal.returns-clause-lists
returns-clause-lists c =
    let l = c.self.inside in
    let before = rw c.deref-4.ensures.value at c.count_before-count.ensures.before in
    rw (c.truncate.ensures.items, c.truncate-2.ensures.items, c.truncate-3.ensures.items, c.running_before-self-inside.ensures, before, c.place_from-at.ensures.place, c.deref-3.ensures.value, c.end_of-end.ensures, c.deref.ensures.value, c.deref-2.ensures.value)
    (aborted-lists l.cats.items l.rels.items l.ended.items l.running c.args.from c.self.invariant.order c.self.invariant.within
    ∙ ap (λ held. aborted c.args.from held.lists) c.self.view_is)
