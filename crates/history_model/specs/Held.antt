-- The locks that are held.
use Rattle.std.specs.Prelude.{List}
use Rattle.history_model.specs.Types.{Grant, Entry}
use Rattle.history_model.specs.After.{segment_of}
pub use Rattle.history_model.specs.Grants.{granted_by, held_by}

-- the grants that weren't released, in the order in which they were given
abbrev pub held_of : List Entry → List Grant
held_of history = (segment_of history).held
