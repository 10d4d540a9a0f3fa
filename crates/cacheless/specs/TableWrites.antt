-- What the writes of commands keep of tables: a column is taken away only with its relation, columns are numbered from 1, no two columns of a relation have one name, an index's own row and its index row come and go together, and a write gives no name to two relations.
use Rattle.std.specs.Prelude.{◌≡◌, ⊤, ◌⊎◌, ℕ, Bool, true, false, not, Option, Some, List, [], ◌∷◌, ◌==◌, ◌-◌, ◌||◌, ◌&&◌, nat_lt}
use Rattle.std.specs.List.{AllByRecursion, list_any, list_all}
use Rattle.std.specs.Option.{IfSome, option_map_or}
use Rattle.base_types.specs.Names.{IsName, IsDropped}
use Rattle.base_types.specs.RowKeys.{key_of, same_key}
use Rattle.base_types.specs.Scans.{same_oid}
use Rattle.base_types.specs.declared.kind.Kind.TheVariants.{Index}
use Rattle.base_types.specs.declared.row.Row.TheVariants as rows
use Rattle.base_types.specs.declared.row_key.RowKey.{RowKey}
use Rattle.base_types.specs.declared.row_key.RowKey.TheVariants as keys
use Rattle.event_kinds.specs.declared.entry.Event.TheVariants as events
use Rattle.event_kinds.specs.declared.entry.Item.TheVariants as forms
use Rattle.history_model.specs.Versions.{added_row, rows_of, row_with}
use Rattle.history_model.specs.Writes.{has_row}
use Rattle.cacheless.specs.Types.{Oid, Row, Entry, Event, Item}

-- a change takes the relation away
abbrev pub takes_relation : Oid → Item → Bool
takes_relation rel (forms.Remove (keys.Class of)) = same_oid of rel
takes_relation rel item = false

-- a change that takes a column away is of a write that takes its relation away
abbrev pub takes_whole : List Item → Item → Bool
takes_whole items (forms.Remove (keys.Att rel num)) = list_any (takes_relation rel) items
takes_whole items item = true

-- a change gives a row with the key
abbrev pub gives_key : RowKey → Item → Bool
gives_key key item = option_map_or (λ row. same_key (key_of row) key) (added_row item) false

-- an added column has number 1, or its backend sees the column of the number before it, or the write gives that too
abbrev pub is_next_column : List Entry → ℕ → List Item → Item → Bool
is_next_column before b items (forms.Add (rows.Att rel num name col_type stat live)) =
    (num == 1) || (nat_lt 1 num && (has_row before b (keys.Att rel (num - 1)) || list_any (gives_key (keys.Att rel (num - 1))) items))
is_next_column before b items item = true

-- two columns of one relation have one name, but not one number
abbrev pub AreNamesakes : Row → Row → Type 0
AreNamesakes (rows.Att rel num name col_type stat live) (rows.Att of other own col_type' stat' live') = (rel ≡ of) × (name ≡ own) × ((num == other) ≡ false)
AreNamesakes row other = ⊥

-- a column has a name that a command may give, or the one that it has once it is dropped
abbrev pub IsCalledWell : Row → Type 0
IsCalledWell (rows.Att rel num name col_type stat live) = IsName name ⊎ IsDropped num name
IsCalledWell row = ⊤

-- so has this one, and the backend sees no other column of its relation with its name
abbrev pub IsCalledApart : List Entry → ℕ → Row → Type 0
IsCalledApart before b row = IsCalledWell row × AllByRecursion (λ seen. AreNamesakes seen row → ⊥) (rows_of before b)

-- and each column that a change gives
abbrev pub CallsApart : List Entry → ℕ → Item → Type 0
CallsApart before b item = IfSome (added_row item) (IsCalledApart before b)

-- nor does one change give the name of a column that an earlier one gives
abbrev pub AreCalledApart : List Item → Type 0
AreCalledApart [] = ⊤
AreCalledApart (item ∷ items) = AllByRecursion (λ later. IfSome (added_row item) (λ row. IfSome (added_row later) (λ other. AreNamesakes row other → ⊥))) items × AreCalledApart items

-- a write keeps the columns of tables
pub record KeepsColumns (before : List Entry) (b : ℕ) (items : List Item) : Type 0 where
  pub whole : list_all (takes_whole items) items ≡ true
  pub columns : list_all (is_next_column before b items) items ≡ true
  pub called : AllByRecursion (CallsApart before b) items
  pub apart : AreCalledApart items

-- if the event is a write, it keeps the columns of tables
abbrev pub KeepsColumnsBy : List Entry → ℕ → Event → Type 0
KeepsColumnsBy before b (events.Write xid items) = KeepsColumns before b items
KeepsColumnsBy before b event = ⊤

-- the entry keeps the columns of tables
abbrev pub WritesColumns : List Entry → Entry → Type 0
WritesColumns before e = KeepsColumnsBy before e.backend e.event

-- a change makes the index's own row
abbrev pub makes_index : Oid → Item → Bool
makes_index rel (forms.Add (rows.Class oid name Index fill)) = same_oid oid rel
makes_index rel item = false

-- a change adds the index row of the relation
abbrev pub adds_index_row : Oid → Item → Bool
adds_index_row rel (forms.Add (rows.Ind index table state nums)) = same_oid index rel
adds_index_row rel item = false

-- a change takes the index row of the relation away
abbrev pub takes_index_row : Oid → Item → Bool
takes_index_row rel (forms.Remove (keys.Ind of)) = same_oid of rel
takes_index_row rel item = false

-- the row is an index's own
abbrev pub is_of_index : Option Row → Bool
is_of_index (Some (rows.Class oid name Index fill)) = true
is_of_index row = false

-- an index's own row comes in one write with its index row, and goes in one with it; the index row isn't replaced
abbrev pub goes_together : List Entry → ℕ → List Item → Item → Bool
goes_together before b items (forms.Add (rows.Class oid name Index fill)) = list_any (adds_index_row oid) items
goes_together before b items (forms.Add (rows.Ind index table state nums)) = list_any (makes_index index) items
goes_together before b items (forms.Put (rows.Ind index table state nums)) = false
goes_together before b items (forms.Remove (keys.Class rel)) = not (is_of_index (row_with before b (keys.Class rel))) || list_any (takes_index_row rel) items
goes_together before b items (forms.Remove (keys.Ind index)) = list_any (takes_relation index) items
goes_together before b items item = true

-- a write keeps indexes whole
pub record KeepsIndexes (before : List Entry) (b : ℕ) (items : List Item) : Type 0 where
  pub together : list_all (goes_together before b items) items ≡ true

-- if the event is a write, it keeps indexes whole
abbrev pub KeepsIndexesBy : List Entry → ℕ → Event → Type 0
KeepsIndexesBy before b (events.Write xid items) = KeepsIndexes before b items
KeepsIndexesBy before b event = ⊤

-- the entry keeps indexes whole
abbrev pub WritesIndexes : List Entry → Entry → Type 0
WritesIndexes before e = KeepsIndexesBy before e.backend e.event

-- two rows are of relations that have one name
abbrev pub ShareName : Row → Row → Type 0
ShareName (rows.Class oid own kind fill) (rows.Class to name kind' fill') = own ≡ name
ShareName row other = ⊥

-- no two changes give relations one name
abbrev pub AreNamedApart : List Item → Type 0
AreNamedApart [] = ⊤
AreNamedApart (item ∷ items) = AllByRecursion (λ later. IfSome (added_row item) (λ row. IfSome (added_row later) (λ other. ShareName row other → ⊥))) items × AreNamedApart items

-- if the event is a write, its changes give no name to two relations
abbrev pub NamesApartBy : Event → Type 0
NamesApartBy (events.Write xid items) = AreNamedApart items
NamesApartBy event = ⊤

-- the entry gives no name to two relations
abbrev pub WritesNamesApart : List Entry → Entry → Type 0
WritesNamesApart before e = NamesApartBy e.event
