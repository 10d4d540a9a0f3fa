use Rattle.std.proofs.Common.{◌∙◌, None, ap, sym}
use Rattle.command_lists.specs.Lists.{command_ended}
use Rattle.command_lists.specs.Starts.{lists_in}
use Rattle.command_lists.proofs.Parts.{ended-lists}
use Rattle.command_lists.proofs.lists.InvalLists.end_command.Goals as goal

pub returns-in-Some-clause-lists : goal.returns-in-Some-clause-lists
returns-in-Some-clause-lists c =
    let l = c.self.inside in
    ap (λ starts. lists_in l.cats.items l.rels.items starts None) c.push_reserved.ensures.items
    ∙ ended-lists l.cats.items l.rels.items l.ended.items c.in-Some.start
    ∙ ap (λ running. command_ended (lists_in l.cats.items l.rels.items l.ended.items running)) (sym c.in-Some.is)
    ∙ ap (λ held. command_ended held.lists) c.self.view_is
