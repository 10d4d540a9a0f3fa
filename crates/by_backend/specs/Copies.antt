-- Lines of which some are added to others.
use Rattle.std.specs.Prelude.{◌≡◌, ◌++◌, ℕ, List, take}
use Rattle.event_kinds.specs.declared.entry.Line.{Line}

-- so many of these lines, the first, stand after those that were there
pub record AddsFirst (old more new : List Line) : Type 0 where
  pub count : ℕ
  pub are : new ≡ old ++ take count more
