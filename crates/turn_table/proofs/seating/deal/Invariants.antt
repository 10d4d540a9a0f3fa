use Rattle.std.proofs.Common.{◌≡◌, ◌-◌, ◌+◌, ◌<◌, ◌≤◌, [], map, length, vec_len, vec_capacity}
use Rattle.turn_table.specs.declared.view.Stage.TheVariants.{Resting}
use Rattle.turn_table.specs.Views.{view_of}
use Rattle.turn_table.specs.Kept.{parts_from}
use Rattle.turn_table.specs.Numbered.{Numbered}
use Rattle.turn_table.proofs.seating.deal.Given as goal

abbrev pub invariant-loop-number : goal.invariant-loop-number
invariant-loop-number g l =
    let V = g.V.Turned in
    (0 < l.number) × (l.number ≤ l.seats) × (length l.passes.items + 1 ≡ l.number) × (vec_len l.passes + 1 ≡ l.number) × (l.seats ≤ vec_capacity l.passes) × (l.seat.table_id ≡ l.shared.table_id)
    × (l.seat.me ≡ (view_of Resting (parts_from V.fixed V.history V.owner V.waiting V.room l.shared.key l.number (l.seats + 1 - l.number)), []))
    × Numbered V.history V.room l.shared.table_id l.shared.key 1 (map (λ p. (p.number, p.seat)) l.passes.items)

abbrev pub decreases-loop-number : goal.decreases-loop-number
decreases-loop-number g l = l.seats - l.number
