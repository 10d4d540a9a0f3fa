-- Lists of passes, by the number and the seat of each.
use Rattle.std.specs.Prelude.{◌≡◌, ◌⊎◌, ⊤, ℕ, ◌+◌, List, [], ◌∷◌, Option, false}
use Rattle.atomic_table.specs.Seated.{TableId}
use Rattle.atomic_table.specs.declared.shared.Seat.{Seat}
use Rattle.turn_table.specs.declared.view.Setup.{Setup}
use Rattle.turn_table.specs.declared.view.Stage.TheVariants.{Resting}
use Rattle.turn_table.specs.declared.view.View.{View}
use Rattle.turn_table.specs.Views.{view_of, part}

-- one of them is of this seat
abbrev pub HasSeat : ℕ → List ℕ → Type 0
HasSeat k [] = ⊥
HasSeat k (n ∷ ns) = (n ≡ k) ⊎ HasSeat k ns

module _ {V E : Type 0} (history : V → List E) (room : V → ℕ → ℕ) (z : TableId) (setup : Setup V) where
  -- they are the passes of the seats from k on, before the first turn
  abbrev pub Numbered : ℕ → List (ℕ × Seat (Option V) (View V E)) → Type 0
  Numbered k [] = ⊤
  Numbered k (p ∷ ps) = (p.0 ≡ k) × (p.1.table_id ≡ z) × (p.1.me ≡ (view_of Resting (part setup k (history setup.start.value) (room setup.start.value k) false ∷ []), [])) × Numbered (k + 1) ps
