-- The longest prefix of a list of entries of which something holds.
use Rattle.std.specs.Prelude.{◌≤◌, ◌<◌, ◌+◌, ℕ, List, length, take}
use Rattle.history_ledger.specs.Types.{Entry}

-- so many entries are a prefix of which it holds, and of no more does it hold with the next one
pub record IsLongest (P : List Entry → Type 0) (entries : List Entry) (n : ℕ) : Type 0 where
  pub within : n ≤ length entries
  pub holds : P (take n entries)
  pub most : n < length entries → P (take (n + 1) entries) → ⊥
