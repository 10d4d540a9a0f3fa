-- The oid that is drawn next.
use Rattle.std.specs.Prelude.{ℕ, List}
use Rattle.history_model.specs.Types.{Entry}
use Rattle.history_model.specs.After.{segment_of}
pub use Rattle.history_model.specs.Oids.{drawn_by, made_by, next_oid_by}

-- the oid that is drawn next
abbrev pub next_oid : List Entry → ℕ
next_oid history = (segment_of history).next_oid
