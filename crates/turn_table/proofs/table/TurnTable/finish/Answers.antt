use Rattle.std.proofs.Common.{◌≡◌, ◌∙◌, refl, sym, subst, arith, IsSome}
use Rattle.std.specs.List.{AllByRecursion}
use Rattle.turn_table.specs.Passes.{IsPassOf}
use Rattle.turn_table.specs.Views.{AllIn}
use Rattle.turn_table.proofs.Lists.{each_map}
use Rattle.turn_table.proofs.Gathering.{each_front, each_last, each_snoc, finished, taken}
use Rattle.turn_table.proofs.table.TurnTable.finish.Goals as goal

pub unwrap-requires : goal.unwrap-requires
unwrap-requires g c = let V = g.V.Turned in let x = c.in-Some.field-0 in let s = c.gather-seat.ensures in let its = c.in-Some.ensures.items in
    let within = subst (AllByRecursion (λ p. AllIn p.seat.me.0.parts c.gather-seat.result.me.0.parts)) (sym its) (each_snoc (λ p. AllIn p.seat.me.0.parts c.gather-seat.result.me.0.parts) c.pop.new.self.items x s.others s.first) in
    let f = finished V.fixed V.history V.owner V.waiting V.room (λ p. p.number) (λ p. p.seat.me.0.parts) (λ p. p.one) c.args.self.table.shared.key c.args.passes.items c.gather-seat.result.id c.gather-seat.result.me _ _ c.take-value.result s.seat.2 c.requires.all within c.close_with-closed.ensures.values.2 c.take-value.ensures.value in
    subst (λ o. IsSome o) (sym f.1) refl

pub returns : goal.returns
returns g c = let V = g.V.Turned in let x = c.in-Some.field-0 in let s = c.gather-seat.ensures in let its = c.in-Some.ensures.items in
    let within = subst (AllByRecursion (λ p. AllIn p.seat.me.0.parts c.gather-seat.result.me.0.parts)) (sym its) (each_snoc (λ p. AllIn p.seat.me.0.parts c.gather-seat.result.me.0.parts) c.pop.new.self.items x s.others s.first) in
    let f = finished V.fixed V.history V.owner V.waiting V.room (λ p. p.number) (λ p. p.seat.me.0.parts) (λ p. p.one) c.args.self.table.shared.key c.args.passes.items c.gather-seat.result.id c.gather-seat.result.me _ _ c.take-value.result s.seat.2 c.requires.all within c.close_with-closed.ensures.values.2 c.take-value.ensures.value in
    let last = taken V.fixed V.history V.owner V.waiting V.room (λ p. p.number) (λ p. p.seat.me.0.parts) (λ p. p.one) c.args.self.table.shared.key c.args.passes.items c.take-value.result f c.unwrap.result c.unwrap.ensures in
    record { fixed = last.same; seen = last.seen; room = last.roomy }

pub gather-seat-requires-clause-seat : goal.gather-seat-requires-clause-seat
gather-seat-requires-clause-seat g c =
    let of = subst (AllByRecursion (λ p. IsPassOf c.args.self p)) c.in-Some.ensures.items c.requires.of in
    ((each_last (λ p. IsPassOf c.args.self p) c.pop.new.self.items c.in-Some.field-0 of).0, c.in-Some.field-0.rests)

pub gather-seat-requires-clause-of : goal.gather-seat-requires-clause-of
gather-seat-requires-clause-of g c =
    let of = subst (AllByRecursion (λ p. IsPassOf c.args.self p)) c.in-Some.ensures.items c.requires.of in
    each_map (λ p. IsPassOf c.args.self p) (λ p. p.seat.table_id ≡ c.args.self.table.shared.table_id) c.pop.new.self.items (λ p h. h.0) (each_front (λ p. IsPassOf c.args.self p) c.pop.new.self.items _ of)

pub close_with-closed-requires : goal.close_with-closed-requires
close_with-closed-requires g c =
    let of = subst (AllByRecursion (λ p. IsPassOf c.args.self p)) c.in-Some.ensures.items c.requires.of in
    c.gather-seat.ensures.seat.0 ∙ (each_last (λ p. IsPassOf c.args.self p) c.pop.new.self.items c.in-Some.field-0 of).0

pub gather-seat-requires-clause-words : goal.gather-seat-requires-clause-words
gather-seat-requires-clause-words g c = omega (arith, c.args.self.sized.0)
