-- The new names of a write, and who has one in use, by a history.
use Rattle.std.specs.Prelude.{ℕ, Bool, List}
use Rattle.history_model.specs.Types.{Oid, Stamp, Version, Item, Entry}
use Rattle.history_model.specs.InUse.{names_at, others_at, over_at, users_at, named_at}
use Rattle.history_model.specs.After.{segment_of}
pub use Rattle.history_model.specs.InUse.{new_name, has_name, is_row_of}

-- the new names of a write, in order
abbrev pub new_names : List Entry → ℕ → List Item → List (List ℕ)
new_names before b items = names_at (segment_of before) b items

-- another backend's transaction did it and is still running: one that is gone left no version
abbrev pub is_others : List Entry → ℕ → Stamp → Bool
is_others history b stamp = others_at (segment_of history) b stamp

-- the running transactions of other backends that added or ended a version
abbrev pub running_over : List Entry → ℕ → Version → List ℕ
running_over history b version = over_at (segment_of history) b version

-- the running transactions of other backends that have the name in use
abbrev pub users_of : List Entry → ℕ → List ℕ → List ℕ
users_of history b name = users_at (segment_of history) b name

-- a relation with the name is seen
abbrev pub is_named : List Entry → ℕ → List ℕ → Oid → Bool
is_named history b name rel = named_at (segment_of history) b name rel
