use Rattle.std.proofs.Common.{arith, length, length-set, refl, ◌<◌, ◌≤◌, ◌+◌, ◌*◌, ◌∙◌, sym, ap, subst}
use Rattle.turn_table.specs.Views.{seat_in, setups}
use Rattle.turn_table.proofs.Calls.{raises_as, raised_of}
use Rattle.turn_table.proofs.turn.Turn.raise.Goals as goal

pub store-requires : goal.store-requires
store-requires g c = let V = g.V.Turned in let t = c.args.self.now in let r = c.requires in let size = t.table.now.sized in
    let words = ap (λ z. z.words) t.of.0 in
    let low = r.seat.0 in let high = r.seat.1 in
    let wide = t.wide in
    let within : c.args.seat ≤ t.table.now.table.shared.key.seats = omega (arith, size.0, words, wide, high) in
    (t.of.0, omega (arith, words, wide, high), raises_as V.fixed V.history V.owner V.waiting V.room _ _ _ t.seat.me t.opened.value t.number c.args.seat (V.history t.value) t.one.0 t.turns t.one.1 low within r.waits r.grew)

pub invariant_of-self : goal.invariant_of-self
invariant_of-self g c = let V = g.V.Turned in let t = c.args.self.now in let e = c.store.ensures in
    let h = raised_of V.fixed V.history V.owner V.waiting V.room t.seat.me c.store.new.seat.me t.opened.value c.args.seat 1 t.turns e.2 in
    record {
      turns = h.is;
      one = (ap (λ ps. length ps) h.parts ∙ t.one.0, ap seat_in h.parts ∙ t.one.1);
      fits = (t.fits.0, subst (λ z. t.number + 1 < z.words) (sym e.0) t.fits.1);
      wide = ap (λ l. 2 * length l + 2) h.words_are ∙ (ap (λ n. 2 * n + 2) (length-set _ _ _) ∙ (t.wide ∙ ap (λ z. z.words) (sym e.0)));
      of = (e.0 ∙ t.of.0, ap setups h.parts ∙ t.of.1);
    }

pub returns : goal.returns
returns g c = let V = g.V.Turned in let t = c.args.self.now in let e = c.store.ensures in
    let h = raised_of V.fixed V.history V.owner V.waiting V.room t.seat.me c.store.new.seat.me t.opened.value c.args.seat 1 t.turns e.2 in
    record { kept = (refl, refl, refl, e.0, h.parts); words = h.words_are }
