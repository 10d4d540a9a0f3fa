-- Two turns with the same fields are one: their ghost fields are facts.
use Rattle.std.proofs.Common.{◌≡◌, ◌∙◌, ap}
use Rattle.turn_table.specs.Passes.{IsSameTurn}
use denote.RattleType.{RattleType}
use Rattle.atomic_table.specs.contracts.shared.Seat as seat
use Rattle.std.specs.contracts.option.Option as option
use Rattle.std.specs.contracts.snapshot.Snapshot as snapshot
use Rattle.turn_table.specs.declared.turn.Turn.{Turn}
use Rattle.turn_table.specs.declared.turned.Turned.{Ghosts}
use Rattle.turn_table.specs.contracts.view.View as view
use Rattle.turn_table.specs.contracts.table.TurnTable as table
use Rattle.turn_table.specs.contracts.turn.Turn as turn

module _ (T E F : RattleType) (g : Ghosts T.Denot E.Denot F.Denot) where
  abbrev pub made : (v : turn.the_values T.Denot E.Denot F.Denot) → turn.the_ghost T.Denot E.Denot F.Denot v → Turn T.Denot E.Denot F.Denot
  made v a = record { number = v.0; seat = v.1.0; value = v.1.1.0; opened = v.1.1.1.0; table = v.1.1.1.1.0; turns = a.0; one = a.1.0; fits = a.1.1.0; wide = a.1.1.1.0; of = a.1.1.1.1.0 }

  pub same_turn : (v : turn.the_values T.Denot E.Denot F.Denot) (a b : turn.the_ghost T.Denot E.Denot F.Denot v) → made v a ≡ made v b
  same_turn v a b = ap (made v) (turn.the_propositions T.Denot E.Denot F.Denot
      (seat.the_row (option.the_row T) (view.the_row T E)).coded (option.the_row T).coded T.coded (view.the_row T E).coded E.coded (snapshot.the_row T).coded (table.the_row T E F g).coded F.coded
      v a b)

-- the same turn after two steps on words
pub same_again : {V E F : Type 0} (a b c : Turn V E F) → IsSameTurn a b → IsSameTurn b c → IsSameTurn a c
same_again a b c x y = (y.0 ∙ x.0, y.1 ∙ x.1, y.2 ∙ x.2, y.3 ∙ x.3, y.4 ∙ x.4)
