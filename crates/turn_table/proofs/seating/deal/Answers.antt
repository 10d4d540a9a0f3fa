use Rattle.std.proofs.Common.{arith, ◌≡◌, ◌<◌, ◌≤◌, ◌+◌, ◌-◌, [], length, map, ℕ, ◌∙◌, sym, ap, subst}
use Rattle.turn_table.specs.declared.view.Stage.TheVariants.{Resting}
use Rattle.turn_table.specs.Views.{seat_in, at_rest, view_of}
use Rattle.turn_table.specs.Kept.{parts_from}
use Rattle.turn_table.specs.Numbered.{Numbered}
use Rattle.turn_table.proofs.Ends.{deals, dealt, left_over, last_part, numbered_push, length_push}
use Rattle.turn_table.proofs.seating.deal.Goals as goal

pub loop-number-init : goal.loop-number-init
loop-number-init g c = let r = c.requires in let s = r.spare in (
  omega arith,
  r.size.1,
  ap (λ l. length l + 1) s.0,
  ap (λ n. n + 1) s.1,
  s.2,
  r.seat.0,
  subst (λ n. c.args.seat.me ≡ (view_of Resting (parts_from g.V.Turned.fixed g.V.Turned.history g.V.Turned.owner g.V.Turned.waiting g.V.Turned.room c.args.shared.now.key 1 n), []))
      (let e : c.args.seats ≡ c.args.seats + 1 - 1 = omega arith in e) r.seat.1,
  subst (λ l. Numbered g.V.Turned.history g.V.Turned.room c.args.shared.now.table_id c.args.shared.now.key 1 (map (λ p. (p.number, p.seat)) l)) (sym s.0) tt,
)

pub split_seat-rest-requires : goal.split_seat-rest-requires
split_seat-rest-requires g c = let V = g.V.Turned in let i = c.loop-number.invariant in let r = c.requires.size in let t = c.loop-number-test.true in
    (i.5, omega (arith, r.0), deals V.fixed V.history V.owner V.waiting V.room c.args.shared.now.key c.loop-number.seat.id c.loop-number.number (c.args.seats + 1 - c.loop-number.number) c.loop-number.seat.me (omega (arith, i.1)) i.6)

pub invariant_of-push_reserved : goal.invariant_of-push_reserved
invariant_of-push_reserved g c = let V = g.V.Turned in let i = c.loop-number.invariant in let r = c.requires.size in let t = c.loop-number-test.true in let e = c.split_seat-rest.ensures in
    let d = dealt V.fixed V.history V.owner V.waiting V.room c.args.shared.now.key c.loop-number.number (c.args.seats + 1 - c.loop-number.number) c.loop-number.seat.me c.split_seat-rest.new.seat.me (omega (arith, i.1)) i.6 e.2 in
    record {
      rests = d ∙ ap at_rest (sym d);
      one = (ap (λ m. length m.0.parts) d, ap (λ m. seat_in m.0.parts) d);
      fits = (i.0, subst (λ z. c.loop-number.number + 1 < z.words) (sym (e.0 ∙ i.5)) (omega (arith, r.0, t)));
    }

pub push_reserved-requires : goal.push_reserved-requires
push_reserved-requires g c = let i = c.loop-number.invariant in let a = i.3 in let b = i.4 in let t = c.loop-number-test.true in omega (arith, a, b, t)

pub loop-number-preserved : goal.loop-number-preserved
loop-number-preserved g c = let V = g.V.Turned in let i = c.loop-number.invariant in let e = c.split_seat-rest.ensures in let p = c.push_reserved.ensures in let t = c.loop-number-test.true in
    let n : ℕ = c.args.seats + 1 - c.loop-number.number in
    let some : 0 < n = omega (arith, t) in
    let a = i.2 in let b = i.3 in let len = p.len in
    let d = dealt V.fixed V.history V.owner V.waiting V.room c.args.shared.now.key c.loop-number.number n c.loop-number.seat.me c.split_seat-rest.new.seat.me some i.6 e.2 in
    let m = left_over V.fixed V.history V.owner V.waiting V.room c.args.shared.now.key c.loop-number.number n c.loop-number.seat.me c.split_seat-rest.result.me some i.6 e.4 in (
      omega arith,
      omega (arith, t),
      (let l = length_push c.loop-number.passes.items c.push_reserved.new.self.items _ p.items in omega (arith, a, l)),
      omega (arith, b, len),
      subst (λ k. c.args.seats ≤ k) (sym p.capacity) i.4,
      e.3 ∙ i.5,
      subst (λ k. c.split_seat-rest.result.me ≡ (view_of Resting (parts_from V.fixed V.history V.owner V.waiting V.room c.args.shared.now.key (c.loop-number.number + 1) k), [])) (let q : n - 1 ≡ c.args.seats + 1 - (c.loop-number.number + 1) = omega arith in q) m,
      numbered_push V.fixed V.history V.owner V.waiting V.room c.args.shared.now.table_id c.args.shared.now.key 1 c.loop-number.passes.items c.push_reserved.new.self.items _ (λ p. (p.number, p.seat)) p.items i.7 (omega (arith, a)) (e.0 ∙ i.5) d,
    )

pub invariant_of-push_reserved-2 : goal.invariant_of-push_reserved-2
invariant_of-push_reserved-2 g c = let i = c.loop-number.invariant in let r = c.requires.size in let t = c.loop-number-test.false in
    let V = g.V.Turned in let high = i.1 in
    let last = last_part V.fixed V.history V.owner V.waiting V.room c.args.shared.now.key c.loop-number.number (c.args.seats + 1 - c.loop-number.number) c.loop-number.seat.me (omega (arith, t, high)) i.6 in
    record {
      rests = last ∙ ap at_rest (sym last);
      one = (ap (λ m. length m.0.parts) last, ap (λ m. seat_in m.0.parts) last);
      fits = (i.0, subst (λ z. c.loop-number.number + 1 < z.words) (sym i.5) (omega (arith, r.0, i.1)));
    }

pub push_reserved-requires-2 : goal.push_reserved-requires-2
push_reserved-requires-2 g c = let i = c.loop-number.invariant in let a = i.3 in let b = i.4 in let t = i.1 in omega (arith, a, b, t)

pub returns : goal.returns
returns g c = let V = g.V.Turned in let i = c.loop-number.invariant in let p = c.push_reserved-2.ensures in let t = c.loop-number-test.false in let high = i.1 in let a = i.2 in
    let last = last_part V.fixed V.history V.owner V.waiting V.room c.args.shared.now.key c.loop-number.number (c.args.seats + 1 - c.loop-number.number) c.loop-number.seat.me (omega (arith, t, high)) i.6 in (
      (let l = length_push c.loop-number.passes.items c.push_reserved-2.new.self.items _ p.items in omega (arith, a, t, high, l)),
      numbered_push V.fixed V.history V.owner V.waiting V.room c.args.shared.now.table_id c.args.shared.now.key 1 c.loop-number.passes.items c.push_reserved-2.new.self.items _ (λ p. (p.number, p.seat)) p.items i.7 (omega (arith, a)) i.5 last,
    )

pub overflow_add-number : goal.overflow_add-number
overflow_add-number g c = omega (arith, c.loop-number-test.true, c.ranges.seats.fits)
