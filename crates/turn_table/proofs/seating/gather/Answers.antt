use Rattle.std.proofs.Common.{◌≡◌, ◌∙◌, refl, sym, ap, subst}
use Rattle.std.specs.List.{AllByRecursion}
use Rattle.turn_table.specs.Views.{AllIn}
use Rattle.turn_table.proofs.Gathering.{joins_as, joined, collects, collected_more, collected_all, each_front, each_last, all_self, all_left, no_items}
use Rattle.turn_table.proofs.seating.gather.Goals as goal

pub loop-other-init : goal.loop-other-init
loop-other-init g c = (refl, refl, c.requires.seat.1, all_self c.args.seat.me.0.parts, collects (λ p. p.seat.me.0.parts) c.args.passes.items c.args.seat.me.0.parts)

pub join_seat-requires : goal.join_seat-requires
join_seat-requires g c = let V = g.V.Turned in let i = c.loop-other.invariant in let x = c.in-Some.field-0 in let k = i.4 in
    let left = subst (AllByRecursion (λ p. p.seat.table_id ≡ c.args.shared.now.table_id)) k.are c.requires.of in
    let front = each_front (λ p. p.seat.table_id ≡ c.args.shared.now.table_id) c.loop-other.passes.items k.popped left in
    let of = each_last (λ p. p.seat.table_id ≡ c.args.shared.now.table_id) c.pop.new.self.items x (subst (AllByRecursion (λ p. p.seat.table_id ≡ c.args.shared.now.table_id)) c.in-Some.ensures.items front) in
    (i.0 ∙ c.requires.seat.0, of, ap (λ m. m.1) x.rests, c.requires.words, joins_as V.fixed V.history V.owner V.waiting V.room c.args.shared.now.key c.loop-other.seat.id x.seat.id c.loop-other.seat.me x.seat.me i.2 x.rests)

pub loop-other-preserved : goal.loop-other-preserved
loop-other-preserved g c = let V = g.V.Turned in let i = c.loop-other.invariant in let x = c.in-Some.field-0 in let e = c.join_seat.ensures in
    let j = joined V.fixed V.history V.owner V.waiting V.room c.loop-other.seat.me x.seat.me c.join_seat.new.seat.me i.2 e.2 in (
      e.0 ∙ i.0,
      e.1 ∙ i.1,
      j.0,
      subst (AllIn c.args.seat.me.0.parts) (sym j.1) (all_left c.args.seat.me.0.parts c.loop-other.seat.me.0.parts x.seat.me.0.parts i.3),
      collected_more (λ p. p.seat.me.0.parts) c.args.passes.items c.loop-other.passes.items c.pop.new.self.items x c.loop-other.seat.me.0.parts c.join_seat.new.seat.me.0.parts i.4 c.in-Some.ensures.items j.1,
    )

pub returns-clause-seat : goal.returns-clause-seat
returns-clause-seat g c = let i = c.loop-other.invariant in (i.0, i.1, i.2)

pub returns-clause-first : goal.returns-clause-first
returns-clause-first g c = c.loop-other.invariant.3

pub returns-clause-others : goal.returns-clause-others
returns-clause-others g c = collected_all (λ p. p.seat.me.0.parts) c.args.passes.items c.loop-other.passes.items c.loop-other.seat.me.0.parts c.loop-other.invariant.4
    (no_items c.loop-other.passes.items _ c.loop-other.passes.ok.0 c.in_default.ensures.cases.0)
