use Rattle.std.proofs.Common.{◌∙◌, ◌≤◌, ◌<◌, ◌+◌, ◌++◌, ◌∷◌, [], length, ap, sym, subst, arith, length-append}
use Rattle.std.specs.Option.{option_to_list}
use Rattle.std.specs.Vec.{vec_capacity}
use Rattle.command_lists.specs.Types.{Cat, Rel}
use Rattle.command_lists.specs.Lists.{MayRun, registered}
use Rattle.command_lists.proofs.Registering.{cat-registered, rel-registered, kept-begun}
use Rattle.command_lists.proofs.lists.InvalLists.register.Goals as goal

pub invariant_of-self : goal.invariant_of-self
invariant_of-self c =
    let l = c.self.inside in
    let rising = subst (λ held. MayRun c.args.command held.lists) (sym c.self.view_is) c.requires.order in
    let spare = subst (λ held. 0 < held.spare) (sym c.self.view_is) c.requires.place in
    let room : length l.ended.items + length (option_to_list l.running) + 1 ≤ vec_capacity l.ended = omega (arith, spare, l.ended.ok.0) in
    rw (c.begin-start.ensures.running, c.begin-start.ensures.ended, c.begin-start.ensures.capacity, c.push_reserved.ensures.items, c.end_of-end.ensures, c.deref.ensures.value, c.deref-2.ensures.value)
    (kept-begun l.cats.items l.rels.items (l.cats.items ++ c.args.message ∷ []) l.rels.items l.ended.items l.running c.args.command (vec_capacity l.ended) c.self.invariant rising room (rw length-append (omega arith)) (omega arith))

pub invariant_of-self-then-not-is_among : goal.invariant_of-self-then-not-is_among
invariant_of-self-then-not-is_among c =
    let l = c.self.inside in
    let rising = subst (λ held. MayRun c.args.command held.lists) (sym c.self.view_is) c.requires.order in
    let spare = subst (λ held. 0 < held.spare) (sym c.self.view_is) c.requires.place in
    let room : length l.ended.items + length (option_to_list l.running) + 1 ≤ vec_capacity l.ended = omega (arith, spare, l.ended.ok.0) in
    rw (c.begin-start.ensures.running, c.begin-start.ensures.ended, c.begin-start.ensures.capacity, c.push_reserved-then-not-is_among.ensures.items, c.end_of-end.ensures, c.deref.ensures.value, c.deref-2.ensures.value)
    (kept-begun l.cats.items l.rels.items l.cats.items (l.rels.items ++ c.args.message ∷ []) l.ended.items l.running c.args.command (vec_capacity l.ended) c.self.invariant rising room (omega arith) (rw length-append (omega arith)))

pub returns-in-Cat-clause-lists : goal.returns-in-Cat-clause-lists
returns-in-Cat-clause-lists c =
    let l = c.self.inside in
    rw (c.begin-start.ensures.running, c.begin-start.ensures.ended, c.push_reserved.ensures.items, c.end_of-end.ensures, c.deref.ensures.value, c.deref-2.ensures.value, c.in-Cat.is)
    (cat-registered l.cats.items l.rels.items l.ended.items l.running c.args.command c.in-Cat.cache c.in-Cat.hash c.self.invariant.within
    ∙ ap (λ held. registered c.args.command (Cat c.in-Cat.cache c.in-Cat.hash) held.lists) c.self.view_is)

pub returns-then-not-is_among-clause-lists : goal.returns-then-not-is_among-clause-lists
returns-then-not-is_among-clause-lists c =
    let l = c.self.inside in
    let among = rw (c.in-Rel.is, c.deref-in-Rel.ensures.value, c.begin-start.ensures.running, c.end_of-end.ensures, c.deref.ensures.value, c.deref-2.ensures.value) at c.is_among.ensures in
    rw (c.begin-start.ensures.running, c.begin-start.ensures.ended, c.push_reserved-then-not-is_among.ensures.items, c.end_of-end.ensures, c.deref.ensures.value, c.deref-2.ensures.value, c.in-Rel.is)
    (rel-registered l.cats.items l.rels.items l.ended.items l.running c.args.command c.in-Rel.rel c.is_among.result c.self.invariant.within among c.if-not-is_among.true
    ∙ ap (λ held. registered c.args.command (Rel c.in-Rel.rel) held.lists) c.self.view_is)
