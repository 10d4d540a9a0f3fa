-- The new names of a write, and who has one in use.
use Rattle.std.specs.Prelude.{ℕ, Bool, false, not, Option, Some, List, [], ◌∷◌, ◌&&◌, if◌then◌else◌, filter}
use Rattle.std.specs.Option.{option_map_or}
use Rattle.std.specs.List.{flat_map, list_any}
use Rattle.std.specs.Str.{bytes_eq}
use Rattle.base_types.specs.Scans.{same_oid}
use Rattle.base_types.specs.declared.row.Row.TheVariants as rows
use Rattle.base_types.specs.declared.scan.Purpose.TheVariants as scans
use Rattle.history_model.specs.Types.{Oid, Row, Stamp, Version, Item}
use Rattle.history_model.specs.Segment.{Segment, runs_at}
use Rattle.history_model.specs.Rows.{answer_at, old_at, added_row}

-- the name that a change gives a relation, unless the relation has it already
abbrev pub new_name : Option Row → Option Row → List (List ℕ)
new_name (Some (rows.Class oid own kind fill)) (Some (rows.Class to name kind' fill')) = if bytes_eq own name then [] else name ∷ []
new_name old (Some (rows.Class to name kind fill)) = name ∷ []
new_name old row = []

-- the row is that of a relation with this name
abbrev pub has_name : List ℕ → Row → Bool
has_name name (rows.Class oid own kind fill) = bytes_eq own name
has_name name row = false

-- the relation that a row is of
abbrev pub is_row_of : Oid → Row → Bool
is_row_of rel (rows.Class oid own kind fill) = same_oid oid rel
is_row_of rel row = false

-- the new names of a write, in order
abbrev pub names_at : Segment → ℕ → List Item → List (List ℕ)
names_at s b items = flat_map (λ item. new_name (old_at s b item) (added_row item)) items

-- another backend's transaction did it and is still running: one that is gone left no version
abbrev pub others_at : Segment → ℕ → Stamp → Bool
others_at s b stamp = not (s.committed stamp.xid.0) && not (runs_at s b stamp.xid.0)

-- the running transactions of other backends that added or ended a version
abbrev pub over_at : Segment → ℕ → Version → List ℕ
over_at s b version = flat_map (λ stamp. if others_at s b stamp then stamp.xid.0 ∷ [] else []) (version.by ∷ option_map_or (λ stamp. stamp ∷ []) version.ended [])

-- the running transactions of other backends that have the name in use
abbrev pub users_at : Segment → ℕ → List ℕ → List ℕ
users_at s b name = flat_map (over_at s b) (filter (λ v. has_name name v.row) s.versions)

-- a relation with the name is seen
abbrev pub named_at : Segment → ℕ → List ℕ → Oid → Bool
named_at s b name rel = list_any (is_row_of rel) (answer_at s b (scans.RelName name))
