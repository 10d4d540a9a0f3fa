use Rattle.std.proofs.Common.{arith, ◌<◌, ◌+◌, ◌∙◌, ◌∷◌, None, refl, sym, ap, subst}
use Rattle.atomic_table.specs.Table.{rest}
use Rattle.turn_table.specs.Views.{words_in}
use Rattle.turn_table.proofs.Lists.{told_seats}
use Rattle.turn_table.proofs.Steps.{rings}
use Rattle.turn_table.proofs.Calls.{passes_as, rested}
use Rattle.turn_table.proofs.table.TurnTable.close.Goals as goal

pub fetch_add-served-requires : goal.fetch_add-served-requires
fetch_add-served-requires g c = let V = g.V.Turned in let t = c.args.turn in let r = c.requires in let e = c.exchange-empty.ensures in let size = c.args.self.now.sized in (
  e.0 ∙ r.of.0,
  omega (arith, size.0),
  passes_as V.fixed V.history V.owner V.waiting V.room _ _ _ t.seat.me c.exchange-empty.new.seat.me t.opened.value t.value t.number t.one.0 t.turns e.3 t.one.1 r.fixed r.grew r.rooms
      (told_seats V.waiting (V.history t.value) (words_in t.seat.me.0.stage) _ (let wide = t.wide in let of = ap (λ z. z.words) r.of.0 in omega (arith, size.0, wide, of)) r.words),
)

pub fetch_add-requires : goal.fetch_add-requires
fetch_add-requires g c = let V = g.V.Turned in let e = c.exchange-empty.ensures in let f = c.fetch_add-served.ensures in let bell = c.bell-bell.ensures.within in
    (f.0 ∙ (e.0 ∙ c.requires.of.0), bell.1, rings V.fixed V.history V.owner V.waiting V.room _ _ _ c.fetch_add-served.new.seat.me c.bell-bell.result bell.0)

pub invariant_of-result : goal.invariant_of-result
invariant_of-result g c = let V = g.V.Turned in let t = c.args.turn in let e = c.exchange-empty.ensures in let f = c.fetch_add-served.ensures in let b = c.fetch_add.ensures in
    let h = rested V.fixed V.history V.owner V.waiting V.room t.seat.me c.exchange-empty.new.seat.me c.fetch_add-served.new.seat.me c.fetch_add.new.seat.me c.fetch_add-served.result t.opened.value t.value t.number
    t.one.0 t.turns e.3 t.one.1 f.2 b.2 in
    record {
      rests = h.rests;
      one = (h.one, h.seat);
      fits = (t.fits.0, subst (λ z. t.number + 1 < z.words) (sym (b.0 ∙ (f.0 ∙ e.0))) t.fits.1);
    }

pub returns : goal.returns
returns g c = let V = g.V.Turned in let t = c.args.turn in let e = c.exchange-empty.ensures in let f = c.fetch_add-served.ensures in let b = c.fetch_add.ensures in
    let h = rested V.fixed V.history V.owner V.waiting V.room t.seat.me c.exchange-empty.new.seat.me c.fetch_add-served.new.seat.me c.fetch_add.new.seat.me c.fetch_add-served.result t.opened.value t.value t.number
    t.one.0 t.turns e.3 t.one.1 f.2 b.2 in
    record {
      of = (b.0 ∙ (f.0 ∙ (e.0 ∙ c.requires.of.0)), h.of ∙ c.requires.of.1);
      seat = refl;
      seen = h.seen;
      room = h.room_is;
      told = h.told;
    }

pub exchange-empty-requires : goal.exchange-empty-requires
exchange-empty-requires g c = let carried = ap (λ m. m.1) c.args.turn.turns in (c.requires.of.0, (None, carried ∙ ap (λ l. (0, None) ∷ rest l) (sym carried)))
