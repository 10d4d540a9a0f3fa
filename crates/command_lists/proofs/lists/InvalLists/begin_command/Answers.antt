use Rattle.std.proofs.Common.{◌∙◌, ◌≤◌, ◌<◌, ◌+◌, length, ap, sym, subst, arith}
use Rattle.std.specs.Option.{option_to_list}
use Rattle.std.specs.Vec.{vec_capacity}
use Rattle.command_lists.specs.Lists.{MayRun, begun}
use Rattle.command_lists.proofs.Registering.{begun-lists, kept-begun}
use Rattle.command_lists.proofs.lists.InvalLists.begin_command.Goals as goal

pub invariant_of-self : goal.invariant_of-self
invariant_of-self c =
    let l = c.self.inside in
    let rising = subst (λ held. MayRun c.args.command held.lists) (sym c.self.view_is) c.requires.order in
    let spare = subst (λ held. 0 < held.spare) (sym c.self.view_is) c.requires.place in
    let room : length l.ended.items + length (option_to_list l.running) + 1 ≤ vec_capacity l.ended = omega (arith, spare, l.ended.ok.0) in
    rw (c.begin-start.ensures.running, c.begin-start.ensures.ended, c.begin-start.ensures.capacity, c.end_of-end.ensures, c.deref.ensures.value, c.deref-2.ensures.value)
    (kept-begun l.cats.items l.rels.items l.cats.items l.rels.items l.ended.items l.running c.args.command (vec_capacity l.ended) c.self.invariant rising room (omega arith) (omega arith))

pub returns-clause-lists : goal.returns-clause-lists
returns-clause-lists c =
    let l = c.self.inside in
    rw (c.begin-start.ensures.running, c.begin-start.ensures.ended, c.end_of-end.ensures, c.deref.ensures.value, c.deref-2.ensures.value)
    (begun-lists l.cats.items l.rels.items l.ended.items l.running c.args.command
    ∙ ap (λ held. begun c.args.command held.lists) c.self.view_is)
