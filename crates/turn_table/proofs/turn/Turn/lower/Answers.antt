use Rattle.std.proofs.Common.{length, length-set, refl, ◌<◌, ◌+◌, ◌*◌, ◌∙◌, sym, ap, subst}
use Rattle.turn_table.specs.Views.{seat_in, setups}
use Rattle.turn_table.proofs.Calls.{lowers_as, lowered_of}
use Rattle.turn_table.proofs.turn.Turn.lower.Goals as goal

pub store-requires : goal.store-requires
store-requires g c = let V = g.V.Turned in let t = c.args.self.now in
    (t.of.0, subst (λ z. t.number + 1 < z.words) t.of.0 t.fits.1, lowers_as V.fixed V.history V.owner V.waiting V.room _ _ _ t.seat.me t.opened.value t.number t.one.0 t.turns t.one.1)

pub invariant_of-self : goal.invariant_of-self
invariant_of-self g c = let V = g.V.Turned in let t = c.args.self.now in let e = c.store.ensures in
    let h = lowered_of V.fixed V.history V.owner V.waiting V.room t.seat.me c.store.new.seat.me t.opened.value t.number 0 t.turns e.2 in
    record {
      turns = h.is;
      one = (ap (λ ps. length ps) h.parts ∙ t.one.0, ap seat_in h.parts ∙ t.one.1);
      fits = (t.fits.0, subst (λ z. t.number + 1 < z.words) (sym e.0) t.fits.1);
      wide = ap (λ l. 2 * length l + 2) h.words_are ∙ (ap (λ n. 2 * n + 2) (length-set _ _ _) ∙ (t.wide ∙ ap (λ z. z.words) (sym e.0)));
      of = (e.0 ∙ t.of.0, ap setups h.parts ∙ t.of.1);
    }

pub returns : goal.returns
returns g c = let V = g.V.Turned in let t = c.args.self.now in let e = c.store.ensures in
    let h = lowered_of V.fixed V.history V.owner V.waiting V.room t.seat.me c.store.new.seat.me t.opened.value t.number 0 t.turns e.2 in
    record { kept = (refl, refl, refl, e.0, h.parts); words = h.words_are }
