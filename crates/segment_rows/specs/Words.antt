-- What is read of the rows that are kept, and what an event makes of them: the words of the crate's functions.
use Rattle.std.specs.Prelude.{◌≡◌, ◌<◌, ◌&&◌, ◌||◌, ⊤, ℕ, Bool, true, false, not, Option, Some, None, List, [], ◌∷◌, is_none, length, map, filter, fold, if◌then◌else◌}
use Rattle.std.specs.List.{flat_map, list_any, list_all}
use Rattle.std.specs.Option.{option_map_or, option_to_list}
use Rattle.base_types.specs.RowKeys.{key_of, same_key}
use Rattle.base_types.specs.Scans.{selects, put_in_order}
use Rattle.base_types.specs.declared.row.Row.TheVariants as rows
use Rattle.inval_messages.specs.Changes.{messages_of}
use Rattle.inval_messages.specs.declared.message.Message.TheVariants.{Rel}
use Rattle.row_visibility.specs.declared.clash.Clash.TheVariants as clashes
use Rattle.catalog_rows.specs.Store.{Store, row_of_key, rows_of_scan, rows_with_key, clash_of, after_write, after_commit, after_undo}
use Rattle.history_model.specs.Segment.{last_xid_by}
use Rattle.history_model.specs.Rows.{ended_key, added_row}
use Rattle.history_model.specs.Oids.{drawn_by, next_oid_by}
use Rattle.history_model.specs.InUse.{new_name, is_row_of}
use Rattle.history_model.specs.Coverage.{scans_of, is_covered, same_row, same_rows, counted_for}
use Rattle.history_model.specs.Changing.{are_from}
use Rattle.segment_rows.specs.Types.{Oid, Xid, Row, Change, Insert, Replace, Delete, Purpose, RelName, Clash, Reader, Message, Item, Add, Put, Remove, Force, Event, Write, Visible, Gone}
use Rattle.segment_rows.specs.Kept.{RowsHeld, reader_of}

-- the change of an item, if it changes a row
abbrev pub change_in : Item → Option Change
change_in (Add row) = Some (Insert row)
change_in (Put row) = Some (Replace row)
change_in (Remove key) = Some (Delete key)
change_in (Force rel) = None

-- the changes of a write's items
abbrev pub changes_in : List Item → List Change
changes_in items = flat_map (λ item. option_to_list (change_in item)) items

-- the rows after what a transaction wrote in commands of this number and above is taken back, if it has written
abbrev pub undone : Option Xid → ℕ → Store → Store
undone None from store = store
undone (Some xid) from store = after_undo store xid from

-- the rows after an event of a backend with this Xid
abbrev pub store_after : Option Xid → ℕ → Event → Store → Store
store_after own command (Write xid items) store = after_write store xid command (changes_in items)
store_after own command (Visible xid) store = after_commit store xid
store_after own command (Gone from) store = undone own from store
store_after own command event store = store

-- a transaction that becomes visible has a place
abbrev pub IsPlaced : Store → Event → Type 0
IsPlaced store (Visible xid) = xid.0 < length store.committed
IsPlaced store event = ⊤

-- the messages of an item, by the rows that a reader sees
abbrev pub messages_at : Store → Reader → Item → List Message
messages_at store reader (Add row) = messages_of None (Some row)
messages_at store reader (Put row) = messages_of (row_of_key store (key_of row) reader) (Some row)
messages_at store reader (Remove key) = messages_of (row_of_key store key reader) None
messages_at store reader (Force rel) = Rel rel ∷ []

-- no running transaction of another has the name in use
abbrev pub is_unused : Option Clash → Bool
is_unused (Some (clashes.Running xid)) = false
is_unused clash = true

-- nobody else has the name in use, and the relation is seen with it
abbrev pub may_clash : Store → Option Xid → List ℕ → Oid → Bool
may_clash store own name rel = is_unused (clash_of store own name) && list_any (is_row_of rel) (rows_of_scan store (RelName name) (reader_of own))

-- the row that a change replaces or takes away
abbrev pub old_at : Store → Reader → Item → Option Row
old_at store reader item = option_map_or (λ key. row_of_key store key reader) (ended_key item) None

-- no new name of a change is in use
abbrev pub frees_names : Store → Option Xid → Item → Option Row → Bool
frees_names store own item old = list_all (λ name. is_none (clash_of store own name)) (new_name old (added_row item))

-- a row is ended by a change
abbrev pub ends_row : Item → Row → Bool
ends_row item row = option_map_or (same_key (key_of row)) (ended_key item) false

-- the rows that a scan gives, with one more that was added if it asks for it
abbrev pub with_added : Purpose → Option Row → List Row → List Row
with_added scan None rows = rows
with_added scan (Some row) rows = if selects scan row then put_in_order scan rows row else rows

-- the rows that a scan gives after a change
abbrev pub given_after : Purpose → List Row → Item → List Row
given_after scan rows item = with_added scan (added_row item) (filter (λ row. not (ends_row item row)) rows)

-- a write leaves its writer's answer of the scan
abbrev pub keeps_given : Store → Reader → List Item → Purpose → Bool
keeps_given store reader items scan = same_rows (map (counted_for scan) (rows_of_scan store scan reader)) (map (counted_for scan) (fold (given_after scan) (rows_of_scan store scan reader) items))

-- a message covers the scan, or the write leaves its answer
abbrev pub covers_scan : Store → Reader → List Message → List Item → Purpose → Bool
covers_scan store reader messages items scan = is_covered messages scan || keeps_given store reader items scan

-- each scan that gives a row is covered or keeps its answer
abbrev pub covers_row : Store → Reader → List Message → List Item → Row → Bool
covers_row store reader messages items row = list_all (covers_scan store reader messages items) (scans_of row)

-- the rows that a change ends
abbrev pub rows_ended : Store → Reader → Item → List Row
rows_ended store reader item = option_map_or (λ key. rows_with_key store key reader) (ended_key item) []

-- each scan that gives a row which a change ends or adds is covered or keeps its answer
abbrev pub covers_item : Store → Reader → List Message → List Item → Item → Bool
covers_item store reader messages items item = list_all (covers_row store reader messages items) (rows_ended store reader item) && option_map_or (covers_row store reader messages items) (added_row item) true

-- a write draws the next oids, in order
abbrev pub DrawsNext : ℕ → Event → Type 0
DrawsNext next (Write xid items) = are_from next (flat_map drawn_by items) ≡ true
DrawsNext next event = ⊤

-- what is held after an event of a backend with this Xid
abbrev pub rows_after : Option Xid → ℕ → Event → RowsHeld → RowsHeld
rows_after own command event rows = record { store = store_after own command event rows.store; next_oid = next_oid_by event rows.next_oid; last_xid = last_xid_by event rows.last_xid }

-- two rows are equal that aren't of relations
abbrev pub same_part_row : Row → Row → Bool
same_part_row (rows.Class oid name kind fill) b = false
same_part_row a b = same_row a b

-- two rows are equal that are neither of relations nor of defaults
abbrev pub same_column_row : Row → Row → Bool
same_column_row (rows.Class oid name kind fill) b = false
same_column_row (rows.Def oid rel num word) b = false
same_column_row a b = same_row a b

-- two rows are equal that are of indexes, constraints or triggers
abbrev pub same_key_row : Row → Row → Bool
same_key_row (rows.Class oid name kind fill) b = false
same_key_row (rows.Def oid rel num word) b = false
same_key_row (rows.Att rel num name col_type stat live) b = false
same_key_row a b = same_row a b

-- two rows are equal that are of constraints or triggers
abbrev pub same_con_row : Row → Row → Bool
same_con_row (rows.Con oid rel name valid what) b = same_row (rows.Con oid rel name valid what) b
same_con_row (rows.Trg oid rel name on) b = same_row (rows.Trg oid rel name on) b
same_con_row a b = false

-- two rows are equal that are of triggers
abbrev pub same_trigger_row : Row → Row → Bool
same_trigger_row (rows.Trg oid rel name on) b = same_row (rows.Trg oid rel name on) b
same_trigger_row a b = false
