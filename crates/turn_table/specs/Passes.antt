-- What contracts see of a table, of its passes and of its turns.
use Rattle.std.specs.Prelude.{◌≡◌, ⊤, ℕ, ◌+◌, List, [], ◌∷◌, Bool, false}
use Rattle.turn_table.specs.declared.table.TurnTable.{TurnTable}
use Rattle.turn_table.specs.declared.pass.Pass.{Pass}
use Rattle.turn_table.specs.declared.turn.Turn.{Turn}
use Rattle.turn_table.specs.declared.turned.Turned.{Ghosts}
use Rattle.turn_table.specs.Views.{seen_in, room_in, told_in, words_in, setups}

module _ {V E F : Type 0} where
  -- the value that the table was made with, and how many seats it has
  abbrev pub start_of : TurnTable V E F → V
  start_of table = table.table.shared.key.start.value

  abbrev pub seats_of : TurnTable V E F → ℕ
  seats_of table = table.table.shared.key.seats

  -- the turn is of this table
  abbrev pub IsTurnOf : TurnTable V E F → Turn V E F → Type 0
  IsTurnOf table turn = (turn.seat.table_id ≡ table.table.shared.table_id) × (setups turn.seat.me.0.parts ≡ table.table.shared.key ∷ [])

  -- the words of the seats as they are in this turn
  abbrev pub words_of : Turn V E F → List ℕ
  words_of turn = words_in turn.seat.me.0.stage

  -- the same turn, but for words
  abbrev pub IsSameTurn : Turn V E F → Turn V E F → Type 0
  IsSameTurn old new = (new.value ≡ old.value) × (new.opened ≡ old.opened) × (new.number ≡ old.number) × (new.seat.table_id ≡ old.seat.table_id) × (new.seat.me.0.parts ≡ old.seat.me.0.parts)

module _ {V E F : Type 0} {of : Ghosts V E F} where
  -- the pass is of this table
  abbrev pub IsPassOf : TurnTable V E F → Pass V E F of → Type 0
  IsPassOf table pass = (pass.seat.table_id ≡ table.table.shared.table_id) × (setups pass.seat.me.0.parts ≡ table.table.shared.key ∷ [])

  -- the history that its seat has seen
  abbrev pub seen_by : Pass V E F of → List E
  seen_by pass = seen_in pass.seat.me.0.parts

  -- the room that it keeps for its seat
  abbrev pub room_of : Pass V E F of → ℕ
  room_of pass = room_in pass.seat.me.0.parts

  -- its last look since its last turn said that something waits
  abbrev pub was_told : Pass V E F of → Bool
  was_told pass = told_in pass.seat.me.0.parts

  -- they are the passes of the seats from k on, in order, before their first turn
  abbrev pub AreNumbered : (history : V → List E) (room : V → ℕ → ℕ) → TurnTable V E F → ℕ → List (Pass V E F of) → Type 0
  AreNumbered history room table k [] = ⊤
  AreNumbered history room table k (p ∷ ps) =
      (p.number ≡ k) × IsPassOf table p × (seen_by p ≡ history (start_of table)) × (room_of p ≡ room (start_of table) k) × (was_told p ≡ false) × AreNumbered history room table (k + 1) ps
