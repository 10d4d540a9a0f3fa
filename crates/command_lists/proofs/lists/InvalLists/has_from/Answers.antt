use Rattle.std.proofs.Common.{◌∙◌, ap, subst}
use Rattle.inval_messages.specs.Lists.{has_write_from}
use Rattle.command_lists.specs.Lists.{all_lists, AreOrdered}
use Rattle.command_lists.proofs.Registering.{lists-ordered}
use Rattle.command_lists.proofs.Having.{has-start}
use Rattle.command_lists.proofs.lists.InvalLists.has_from.Goals as goal

pub returns-clause-has : goal.returns-clause-has
returns-clause-has c =
    let l = c.self.inside in
    rw (c.has_start_from.ensures, c.deref.ensures.value)
    (has-start c.args.from l.cats.items l.rels.items l.ended.items l.running ∙ ap (λ held. has_write_from c.args.from (all_lists held.lists)) c.self.view_is)

pub returns-clause-ordered : goal.returns-clause-ordered
returns-clause-ordered c =
    let l = c.self.inside in
    subst (λ held. AreOrdered (all_lists held.lists)) c.self.view_is (lists-ordered l.cats.items l.rels.items l.ended.items l.running c.self.invariant.order)
