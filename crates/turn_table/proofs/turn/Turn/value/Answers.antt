use Rattle.std.proofs.Common.{refl}
use Rattle.turn_table.proofs.SameTurn.{same_turn}
use Rattle.turn_table.proofs.turn.Turn.value.Goals as goal

pub returns : goal.returns
returns g c = let t = c.args.self.now in
    ((refl, λ w. same_turn g.row.V g.row.V-Entry g.row.V-Fixed g.V.Turned (t.number, (t.seat, (w, (t.opened, (t.table, tt))))) _ (t.turns, (t.one, (t.fits, (t.wide, (t.of, tt)))))), record { writes_back = tt; value = refl })

pub invariant_of-self-lent : goal.invariant_of-self-lent
invariant_of-self-lent g c = let t = c.args.self.now in λ w. record { turns = t.turns; one = t.one; fits = t.fits; wide = t.wide; of = t.of }
