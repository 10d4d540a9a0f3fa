-- The versions of rows in a segment, and the rows that a backend sees.
use Rattle.std.specs.Prelude.{ℕ, Bool, true, false, not, Option, Some, None, List, [], ◌∷◌, ◌++◌, ◌||◌, ◌&&◌, nat_le, map, filter, fold}
use Rattle.std.specs.Option.{option_map_or}
use Rattle.std.specs.List.{find}
use Rattle.base_types.specs.RowKeys.{key_of, same_key}
use Rattle.base_types.specs.Scans.{scan_of}
use Rattle.row_visibility.specs.Seen.{seen_by}
use Rattle.history_model.specs.Types.{Row, RowKey, Purpose, Stamp, Version, Item, Add, Put, Remove, Event, Write, Gone}
use Rattle.history_model.specs.Segment.{Segment, runs_at}

-- for a backend what committed transactions did counts, and what its own did
abbrev pub counts_at : Segment → ℕ → Stamp → Bool
counts_at s b stamp = s.committed stamp.xid.0 || runs_at s b stamp.xid.0

-- a backend sees a version
abbrev pub sees_at : Segment → ℕ → Version → Bool
sees_at s b version = seen_by (counts_at s b) version

-- the rows that a backend sees
abbrev pub rows_at : Segment → ℕ → List Row
rows_at s b = map (λ v. v.row) (filter (sees_at s b) s.versions)

-- the answer of a scan by a backend
abbrev pub answer_at : Segment → ℕ → Purpose → List Row
answer_at s b purpose = scan_of purpose (rows_at s b)

-- the row with a key that a backend sees
abbrev pub row_at : Segment → ℕ → RowKey → Option Row
row_at s b key = find (λ row. same_key (key_of row) key) (rows_at s b)

-- the key of the version that a change ends
abbrev pub ended_key : Item → Option RowKey
ended_key (Put row) = Some (key_of row)
ended_key (Remove key) = Some key
ended_key item = None

-- the row that a change adds
abbrev pub added_row : Item → Option Row
added_row (Add row) = Some row
added_row (Put row) = Some row
added_row item = None

-- the row that a change replaces or takes away
abbrev pub old_at : Segment → ℕ → Item → Option Row
old_at s b item = option_map_or (row_at s b) (ended_key item) None

-- a change ends the version of its key that the writer sees
abbrev pub ends_at : Segment → ℕ → Item → Version → Bool
ends_at s b item version = option_map_or (same_key (key_of version.row)) (ended_key item) false && sees_at s b version

-- a version after a change that ends some
abbrev pub end_by : (Version → Bool) → Stamp → Version → Version
end_by ends stamp version = elim (ends version) [ true ↦ record version { ended = Some stamp } | false ↦ version ]

-- the version that a change adds
abbrev pub version_of : Stamp → Option Row → List Version
version_of stamp None = []
version_of stamp (Some row) = record { row = row; by = stamp; ended = None } ∷ []

-- the versions after one change
abbrev pub change_at : Segment → ℕ → Stamp → List Version → Item → List Version
change_at s b stamp old item = map (end_by (ends_at s b item) stamp) old ++ version_of stamp (added_row item)

-- the backend's running transaction did it, in a command of this number or above
abbrev pub back_at : Segment → ℕ → ℕ → Stamp → Bool
back_at s b from stamp = runs_at s b stamp.xid.0 && nat_le from stamp.command

-- a version whose end is taken back, if that is among what is taken back
abbrev pub end_back : (Stamp → Bool) → Version → Version
end_back back version = record version { ended = elim (option_map_or back version.ended false) [ true ↦ None | false ↦ version.ended ] }

-- the versions after an event of a backend
abbrev pub versions_after : Segment → ℕ → ℕ → Event → List Version → List Version
versions_after s b command (Write xid items) old = fold (change_at s b (record { xid = xid; command = command })) old items
versions_after s b command (Gone from) old = map (end_back (back_at s b from)) (filter (λ v. not (back_at s b from v.by)) old)
versions_after s b command event old = old
