-- Which scans a write changes for its writer, and which its messages cover, by a history.
use Rattle.std.specs.Prelude.{ℕ, Bool, List, [], ◌∷◌, ◌++◌, ◌||◌, map}
use Rattle.std.specs.List.{flat_map, list_all}
use Rattle.history_model.specs.Types.{Xid, Row, Purpose, Item, Entry, Write}
use Rattle.history_model.specs.Coverage.{changed_at}
use Rattle.history_model.specs.Versions.{answer_of}
use Rattle.history_model.specs.Sent.{messages_written}
use Rattle.history_model.specs.After.{segment_of}
pub use Rattle.history_model.specs.Coverage.{scans_of, is_covered, same_demand, same_row, same_rows, counted_for}

-- a write leaves its writer's answer of the scan
abbrev pub keeps_answer : List Entry → ℕ → ℕ → Xid → List Item → Purpose → Bool
keeps_answer before b c xid items scan =
    same_rows (map (counted_for scan) (answer_of before b scan)) (map (counted_for scan) (answer_of (before ++ record { backend = b; command = c; event = Write xid items } ∷ []) b scan))

-- the rows of the versions that a change ends, and the row that it adds
abbrev pub rows_changed : List Entry → ℕ → Item → List Row
rows_changed before b item = changed_at (segment_of before) b item

-- each scan whose answer a write changes for its writer is covered by one of its messages
abbrev pub covers_changes : List Entry → ℕ → ℕ → Xid → List Item → Bool
covers_changes before b c xid items = list_all (λ scan. is_covered (messages_written before b items) scan || keeps_answer before b c xid items scan) (flat_map (λ item. flat_map scans_of (rows_changed before b item)) items)
