-- Passes in the order of their seats.
use Rattle.std.proofs.Common.{◌≡◌, ℕ, ◌+◌, ◌<◌, ◌≤◌, List, [], ◌∷◌, length, map, ap, inl, inr, arith, Option}
use mathlib.Core.Logic.{dite}
use native.Mathlib.Decide.{ℕ_discrete}
use Rattle.atomic_table.specs.Table.{Me}
use Rattle.turn_table.specs.declared.table.TurnTable.{TurnTable}
use Rattle.turn_table.specs.declared.pass.Pass.{Pass}
use Rattle.turn_table.specs.declared.turned.Turned.{Ghosts}
use Rattle.turn_table.specs.declared.view.View.{View}
use Rattle.turn_table.specs.Views.{seen_in, room_in, told_in, setups}
use Rattle.turn_table.specs.Numbered.{Numbered, HasSeat}
use Rattle.turn_table.specs.Passes.{AreNumbered, IsPassOf}
use Rattle.std.specs.List.{AllByRecursion}

module _ {V E F : Type 0} {of : Ghosts V E F} (history : V → List E) (room : V → ℕ → ℕ) (table : TurnTable V E F) where
  pub numbered : (k : ℕ) (ps : List (Pass V E F of)) → Numbered history room table.table.shared.table_id table.table.shared.key k (map (λ p. (p.number, p.seat)) ps) → AreNumbered history room table k ps
  numbered k [] n = tt
  numbered k (p ∷ ps) n = (
    n.0,
    (n.1, ap (λ (m : Me (Option V) (View V E)). setups m.0.parts) n.2),
    ap (λ (m : Me (Option V) (View V E)). seen_in m.0.parts) n.2,
    ap (λ (m : Me (Option V) (View V E)). room_in m.0.parts) n.2,
    ap (λ (m : Me (Option V) (View V E)). told_in m.0.parts) n.2,
    numbered (k + 1) ps n.3,
  )

  has_number : (k j : ℕ) (ps : List (Pass V E F of)) → AreNumbered history room table k ps → k ≤ j → j < k + length ps → HasSeat j (map (λ p. p.number) ps)
  has_number k j [] n low high = absurd (omega arith)
  has_number k j (p ∷ ps) n low high = dite (ℕ_discrete p.number j) (λ e. inl e) (λ other. let first = n.0 in inr (has_number (k + 1) j ps n.5 (omega (arith, first)) (omega (arith, first))))

  -- what `finish` asks: each seat's pass is there, and all are of the table
  pub all_there : (seats : ℕ) (ps : List (Pass V E F of)) → length ps ≡ seats → AreNumbered history room table 1 ps → (k : ℕ) → 0 < k → k ≤ seats → HasSeat k (map (λ p. p.number) ps)
  all_there seats ps count n k low high = has_number 1 k ps n low (omega (arith, count, high))

  pub all_of : (k : ℕ) (ps : List (Pass V E F of)) → AreNumbered history room table k ps → AllByRecursion (λ p. IsPassOf table p) ps
  all_of k [] n = tt
  all_of k (p ∷ ps) n = (n.1, all_of (k + 1) ps n.5)
