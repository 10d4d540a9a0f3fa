-- What contracts see of a lock table.
use Rattle.std.specs.Prelude.{List}
use Rattle.lock_modes.specs.Types.{Grant}

-- the grants that were given and not released, in the order in which they were given, and those that are prepared
pub record Holding : Type 0 where
  pub held : List Grant
  pub prepared : List Grant
