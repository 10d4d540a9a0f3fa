-- Which scans a write changes for its writer, and which its messages cover.
use Rattle.std.specs.Prelude.{ℕ, Bool, true, false, List, [], ◌∷◌, ◌++◌, ◌==◌, ◌&&◌, ◌||◌, map, filter}
use Rattle.std.specs.Ordering.{int_eq}
use Rattle.std.specs.Option.{option_eq, option_map_or}
use Rattle.std.specs.List.{flat_map, list_any, list_all}
use Rattle.std.specs.Str.{bytes_eq}
use Rattle.base_types.specs.Scans.{same_oid}
use Rattle.base_types.specs.Words.{kind_word, type_word, live_word, state_word, valid_word, on_word}
use Rattle.base_types.specs.declared.row.ConKind.{ConKind}
use Rattle.base_types.specs.declared.row.ConKind.TheVariants as demands
use Rattle.base_types.specs.declared.row.Row.TheVariants as rows
use Rattle.base_types.specs.declared.scan.Purpose.TheVariants as scans
use Rattle.inval_messages.specs.Messages.{covers}
use Rattle.history_model.specs.Types.{Message, Xid, Row, Purpose, Item, Write}
use Rattle.history_model.specs.Segment.{Segment}
use Rattle.history_model.specs.Rows.{ends_at, added_row, answer_at}
use Rattle.history_model.specs.Messages.{messages_at}
use Rattle.history_model.specs.After.{after_event}

-- the scans that give a row
abbrev pub scans_of : Row → List Purpose
scans_of (rows.Class oid name kind fill) = scans.RelName name ∷ scans.RelOid oid ∷ scans.Class oid ∷ []
scans_of (rows.Att rel num name col_type stat live) = scans.AttName rel name ∷ scans.AttList rel ∷ scans.Attribute rel ∷ []
scans_of (rows.Def oid rel num word) = scans.AttrDef rel ∷ []
scans_of (rows.Ind index table state nums) = scans.Index table ∷ scans.IndexRow index ∷ []
scans_of (rows.Con oid rel name valid (demands.Foreign num refrel refnum)) = scans.Constraint rel ∷ scans.Constraint refrel ∷ []
scans_of (rows.Con oid rel name valid what) = scans.Constraint rel ∷ []
scans_of (rows.Trg oid rel name on) = scans.Trigger rel ∷ []

-- one of the messages covers the scan
abbrev pub is_covered : List Message → Purpose → Bool
is_covered messages scan = list_any (covers scan) messages

-- two constraints demand the same
abbrev pub same_demand : ConKind → ConKind → Bool
same_demand (demands.Check text) (demands.Check other) = bytes_eq text other
same_demand (demands.Foreign num refrel refnum) (demands.Foreign num' refrel' refnum') = (num == num') && same_oid refrel refrel' && (refnum == refnum')
same_demand a b = false

-- two rows are equal
abbrev pub same_row : Row → Row → Bool
same_row (rows.Class oid name kind fill) (rows.Class oid' name' kind' fill') = same_oid oid oid' && bytes_eq name name' && bytes_eq (kind_word kind) (kind_word kind') && option_eq (λ a b. a == b) fill fill'
same_row (rows.Att rel num name col_type stat live) (rows.Att rel' num' name' col_type' stat' live') = same_oid rel rel' && (num == num') && bytes_eq name name' && bytes_eq (type_word col_type) (type_word col_type') && int_eq stat stat' && bytes_eq (live_word live) (live_word live')
same_row (rows.Def oid rel num word) (rows.Def oid' rel' num' word') = same_oid oid oid' && same_oid rel rel' && (num == num') && bytes_eq word word'
same_row (rows.Ind index table state nums) (rows.Ind index' table' state' nums') = same_oid index index' && same_oid table table' && bytes_eq (state_word state) (state_word state') && bytes_eq nums nums'
same_row (rows.Con oid rel name valid what) (rows.Con oid' rel' name' valid' what') = same_oid oid oid' && same_oid rel rel' && bytes_eq name name' && bytes_eq (valid_word valid) (valid_word valid') && same_demand what what'
same_row (rows.Trg oid rel name on) (rows.Trg oid' rel' name' on') = same_oid oid oid' && same_oid rel rel' && bytes_eq name name' && bytes_eq (on_word on) (on_word on')
same_row a b = false

-- two lists of rows are equal
abbrev pub same_rows : List Row → List Row → Bool
same_rows [] [] = true
same_rows (row ∷ given) (other ∷ others) = same_row row other && same_rows given others
same_rows given others = false

-- a row as it counts for a scan: a foreign key of another relation counts whether it is known to hold or not
abbrev pub counted_for : Purpose → Row → Row
counted_for (scans.Constraint rel) (rows.Con oid of name valid (demands.Foreign num refrel refnum)) = rows.Con oid of name (valid && same_oid of rel) (demands.Foreign num refrel refnum)
counted_for scan row = row

-- a write leaves its writer's answer of the scan
abbrev pub keeps_at : Segment → ℕ → ℕ → Xid → List Item → Purpose → Bool
keeps_at s b c xid items scan = same_rows (map (counted_for scan) (answer_at s b scan)) (map (counted_for scan) (answer_at (after_event s b c (Write xid items)) b scan))

-- the rows of the versions that a change ends, and the row that it adds
abbrev pub changed_at : Segment → ℕ → Item → List Row
changed_at s b item = map (λ v. v.row) (filter (ends_at s b item) s.versions) ++ option_map_or (λ row. row ∷ []) (added_row item) []

-- each scan whose answer a write changes for its writer is covered by one of its messages
abbrev pub covers_at : Segment → ℕ → ℕ → Xid → List Item → Bool
covers_at s b c xid items = list_all (λ scan. is_covered (messages_at s b items) scan || keeps_at s b c xid items scan) (flat_map (λ item. flat_map scans_of (changed_at s b item)) items)
