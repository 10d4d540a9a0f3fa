-- The versions of rows that a history leaves, and the rows that a backend sees.
use Rattle.std.specs.Prelude.{ℕ, Bool, Option, List}
use Rattle.base_types.specs.Fields.{field_text, read_by}
use Rattle.history_model.specs.Types.{Oid, Field, Row, RowKey, Purpose, Stamp, Version, Item, Entry, Event}
use Rattle.history_model.specs.Rows.{counts_at, sees_at, rows_at, answer_at, row_at, old_at, ends_at, change_at, back_at, versions_after}
use Rattle.history_model.specs.After.{segment_of}
pub use Rattle.history_model.specs.Rows.{ended_key, added_row, end_by, version_of, end_back}

-- for a backend what committed transactions did counts, and what its own did
abbrev pub counts : List Entry → ℕ → Stamp → Bool
counts history b stamp = counts_at (segment_of history) b stamp

-- a backend sees a version
abbrev pub sees : List Entry → ℕ → Version → Bool
sees history b version = sees_at (segment_of history) b version

-- a change ends the version of its key that the writer sees
abbrev pub ends : List Entry → ℕ → Item → Version → Bool
ends before b item version = ends_at (segment_of before) b item version

-- the versions after one change
abbrev pub change_by : List Entry → ℕ → Stamp → List Version → Item → List Version
change_by before b stamp old item = change_at (segment_of before) b stamp old item

-- the backend's running transaction did it, in a command of this number or above
abbrev pub is_back : List Entry → ℕ → ℕ → Stamp → Bool
is_back before b from stamp = back_at (segment_of before) b from stamp

-- the versions after an event of a backend, by the entries before it
abbrev pub versions_by : List Entry → ℕ → ℕ → Event → List Version → List Version
versions_by before b command event old = versions_after (segment_of before) b command event old

-- the versions that the history leaves, in the order in which they were written
abbrev pub versions_of : List Entry → List Version
versions_of history = (segment_of history).versions

-- the rows that a backend sees
abbrev pub rows_of : List Entry → ℕ → List Row
rows_of history b = rows_at (segment_of history) b

-- the answer of a scan by a backend
abbrev pub answer_of : List Entry → ℕ → Purpose → List Row
answer_of history b purpose = answer_at (segment_of history) b purpose

-- the text of a relation's field, made afresh
abbrev pub fresh_text : List Entry → ℕ → Oid → Field → List ℕ
fresh_text history b rel field = field_text field rel (answer_of history b (read_by field rel))

-- the row with a key that a backend sees
abbrev pub row_with : List Entry → ℕ → RowKey → Option Row
row_with history b key = row_at (segment_of history) b key

-- the row that a change replaces or takes away
abbrev pub old_row : List Entry → ℕ → Item → Option Row
old_row before b item = old_at (segment_of before) b item
