use Rattle.std.proofs.Common.{rules, ◌∷◌, ◌++◌, [], Some, ◌∙◌, sym, ap}
use Rattle.turn_table.specs.Kept.{first_view}
use Rattle.turn_table.proofs.Ends.{starts_as}
use Rattle.turn_table.proofs.seating.lay.Goals as goal

pub new-requires : goal.new-requires
new-requires g c = let V = g.V.Turned in
    starts_as V.fixed V.history V.owner V.waiting V.room (record { start = c.of.result; seats = c.args.seats }) c.args.value c.as_slice.result.now c.push_reserved.new.self.items c.of.ensures
    (c.as_slice.ensures.value ∙ c.in_ok-words.ensures.items_if_clones_equal (λ y e. search rules)) (c.push_reserved.ensures.items ∙ ap (λ l. l ++ Some c.args.value ∷ []) c.in_ok-slots.ensures.items) c.requires.seats c.requires.quiet

pub returns-in-Ok-clause-told : goal.returns-in-Ok-clause-told
returns-in-Ok-clause-told g c = let key = c.in-Ok.ensures.ok.5 in (ap (λ k. k.seats) key, ap (λ k. k.start.value) key ∙ c.of.ensures)

pub returns-in-Ok-clause-seat : goal.returns-in-Ok-clause-seat
returns-in-Ok-clause-seat g c = let V = g.V.Turned in let e = c.in-Ok.ensures.ok in
    (e.2, e.4 ∙ ap (λ k. (first_view V.fixed V.history V.owner V.waiting V.room k, [])) (sym e.5))
