-- What the commands keep, though a legal history need not.
use Rattle.std.specs.Prelude.{ℕ, Bool, true, false, List, [], ◌∷◌, ◌≡◌, ◌<◌, if◌then◌else◌, ⊤}
use Rattle.std.specs.Option.{option_map_or}
use Rattle.std.specs.List.{flat_map, list_any, list_all}
use Rattle.base_types.specs.RowKeys.{key_of, same_key}
use Rattle.base_types.specs.Scans.{same_oid}
use Rattle.base_types.specs.declared.row.ConKind.TheVariants as demands
use Rattle.base_types.specs.declared.row.Row.TheVariants as rows
use Rattle.base_types.specs.declared.scan.Purpose.TheVariants as scans
use Rattle.history_model.specs.Types.{Oid, Row, RowKey, Purpose, Item, Add, Put, Entry, Event, LockOk, LockHeld, Write}
use Rattle.history_model.specs.Prefixes.{EachEntry}
use Rattle.history_model.specs.Versions.{versions_of, old_row}
use Rattle.history_model.specs.Drawn.{next_oid}
use Rattle.history_model.specs.Sent.{messages_written}
use Rattle.history_model.specs.Covered.{scans_of, is_covered}
use Rattle.history_model.specs.Changing.{rows_named, is_validation}

-- a version has the key
abbrev pub has_key : List Entry → RowKey → Bool
has_key history key = list_any (λ v. same_key (key_of v.row) key) (versions_of history)

-- no version has the key of a row that a change adds
abbrev pub is_fresh : List Entry → Item → Bool
is_fresh before (Add row) = elim (has_key before (key_of row)) [ true ↦ false | false ↦ true ]
is_fresh before item = true

-- the relation of which a row is
abbrev pub main_rel : Row → Oid
main_rel (rows.Class oid name kind fill) = oid
main_rel (rows.Att rel num name col_type stat live) = rel
main_rel (rows.Def oid rel num word) = rel
main_rel (rows.Ind index table state nums) = index
main_rel (rows.Con oid rel name valid what) = rel
main_rel (rows.Trg oid rel name on) = rel

-- an index is a relation apart from its table
abbrev pub is_apart : Row → Bool
is_apart (rows.Ind index table state nums) = if same_oid table index then false else true
is_apart row = true

-- a row that a change adds is of a relation apart from others that it names, and one that it replaces stays one of its relation
abbrev pub keeps_relation : List Entry → ℕ → Item → Bool
keeps_relation before b (Add row) = is_apart row
keeps_relation before b (Put row) = option_map_or (λ old. same_oid (main_rel old) (main_rel row)) (old_row before b (Put row)) true
keeps_relation before b item = true

-- the scans that give a row which is changed, and that a message must cover: where a foreign key is validated, not that of the relation that it refers to
abbrev pub scans_told : Bool → Row → List Purpose
scans_told validated (rows.Con oid rel name valid (demands.Foreign num refrel refnum)) = if validated then scans.Constraint rel ∷ [] else scans.Constraint rel ∷ scans.Constraint refrel ∷ []
scans_told validated row = scans_of row

-- a message of the write covers each such scan of a row which a change names
abbrev pub covers_told : List Entry → ℕ → List Item → Bool
covers_told before b items = list_all (is_covered (messages_written before b items)) (flat_map (λ item. flat_map (scans_told (is_validation (old_row before b item) item)) (rows_named item (old_row before b item))) items)

-- the rows that a write adds have new keys, those that it replaces stay rows of their relations, and its messages cover all scans that give one of them, but where a foreign key is validated that of the relation that it refers to
pub record IsOrderlyWrite (before : List Entry) (b : ℕ) (items : List Item) : Type 0 where
  pub fresh : list_all (is_fresh before) items ≡ true
  pub keeps : list_all (keeps_relation before b) items ≡ true
  pub told : covers_told before b items ≡ true

-- a lock is asked for on no relation whose oid is still to be drawn, and a write is orderly
abbrev pub IsOrderlyEvent : List Entry → ℕ → Event → Type 0
IsOrderlyEvent before b (LockOk rel mode) = rel.0 < next_oid before
IsOrderlyEvent before b (LockHeld rel mode holder held) = rel.0 < next_oid before
IsOrderlyEvent before b (Write xid items) = IsOrderlyWrite before b items
IsOrderlyEvent before b event = ⊤

-- an entry keeps order after the entries before it
abbrev pub IsOrderly : List Entry → Entry → Type 0
IsOrderly before e = IsOrderlyEvent before e.backend e.event

-- each entry of a history keeps order
abbrev pub AreOrderly : List Entry → Type 0
AreOrderly history = EachEntry IsOrderly history
