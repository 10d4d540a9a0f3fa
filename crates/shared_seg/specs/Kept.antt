-- What clauses see of what is shared.
use Rattle.std.specs.Prelude.{ℕ, List, ◌≤◌, ◌+◌, ◌^◌, length, sum}
use Rattle.base_types.specs.Scenario.{Scenario}
use Rattle.event_kinds.specs.declared.entry.Entry.{Entry}
use Rattle.shared_seg.specs.Places.{promised_in}

-- the history, the script for which it is made, and how many places each backend is promised; entries and places together are at most 2^56
pub record Kept : Type 0 where
  pub history : List Entry
  pub script : Scenario
  pub promised : List ℕ
  pub short : length history + sum promised ≤ 2 ^ 56

-- how many places a backend is promised
abbrev pub places_in : Kept → ℕ → ℕ
places_in kept b = promised_in kept.promised b
