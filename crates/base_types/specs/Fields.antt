-- The fields of a descriptor: which a kind has, which scan reads one, and its text.
use Rattle.std.specs.Prelude.{ℕ, Bool, Option, Some, None, List, [], ◌∷◌, ◌++◌, codes, decimal, ◌==◌, if◌then◌else◌, ℤ}
use Rattle.std.specs.Fmt.{signed_decimal}
use Rattle.std.specs.List.{filter_map, join_by, list_any}
use Rattle.base_types.specs.Types.{Oid, Row, Purpose, Kind, Field, ConKind, ColType, IndexState}
use Rattle.base_types.specs.Scans.{same_oid}
use Rattle.base_types.specs.Words.{type_word, state_word, valid_word, on_word, fill_text, nums_text}
use Rattle.base_types.specs.declared.kind.Kind.TheVariants.{Table, Index}
use Rattle.base_types.specs.declared.row.ConKind.TheVariants as kinds
use Rattle.base_types.specs.declared.row.Row.TheVariants as rows
use Rattle.base_types.specs.declared.scan.Purpose.TheVariants as scans
use Rattle.base_types.specs.declared.field.Field.TheVariants as fields

-- the fields of a kind, in the order in which they are shown
abbrev pub fields_of : Kind → List Field
fields_of Table = fields.Name ∷ fields.Columns ∷ fields.Defaults ∷ fields.Statistics ∷ fields.Fillfactor ∷ fields.Constraints ∷ fields.Referenced ∷ fields.Indexes ∷ fields.Triggers ∷ []
fields_of Index = fields.Name ∷ fields.Of ∷ fields.Valid ∷ []

-- the place of a field in its type
abbrev pub field_number : Field → ℕ
field_number fields.Name = 0
field_number fields.Columns = 1
field_number fields.Defaults = 2
field_number fields.Statistics = 3
field_number fields.Fillfactor = 4
field_number fields.Constraints = 5
field_number fields.Referenced = 6
field_number fields.Indexes = 7
field_number fields.Triggers = 8
field_number fields.Of = 9
field_number fields.Valid = 10

-- two fields are one
abbrev pub same_field : Field → Field → Bool
same_field a b = field_number a == field_number b

-- the kind has the field
abbrev pub has_field : Kind → Field → Bool
has_field kind field = list_any (same_field field) (fields_of kind)

-- the scan that reads a field of a relation
abbrev pub read_by : Field → Oid → Purpose
read_by fields.Name rel = scans.Class rel
read_by fields.Columns rel = scans.Attribute rel
read_by fields.Defaults rel = scans.AttrDef rel
read_by fields.Statistics rel = scans.Attribute rel
read_by fields.Fillfactor rel = scans.Class rel
read_by fields.Constraints rel = scans.Constraint rel
read_by fields.Referenced rel = scans.Constraint rel
read_by fields.Indexes rel = scans.Index rel
read_by fields.Triggers rel = scans.Trigger rel
read_by fields.Of rel = scans.IndexRow rel
read_by fields.Valid rel = scans.IndexRow rel

-- what a constraint's item says after its name
abbrev pub constraint_text : Bool → ConKind → List ℕ
constraint_text valid (kinds.Check text) = codes ":check:" ++ valid_word valid ++ codes ":" ++ text
constraint_text valid (kinds.Foreign num refrel refnum) = codes ":fk:" ++ valid_word valid ++ codes ":" ++ decimal num ++ codes ":" ++ decimal refrel.0 ++ codes ":" ++ decimal refnum

-- the item of a foreign key that refers to the relation
abbrev pub referring_item : Oid → Oid → Oid → ConKind → Option (List ℕ)
referring_item rel oid of (kinds.Check text) = None
referring_item rel oid of (kinds.Foreign num refrel refnum) = if same_oid refrel rel then Some (decimal oid.0 ++ codes ":" ++ decimal of.0 ++ codes ":" ++ decimal refnum) else None

-- what a relation's row adds to a field
abbrev pub item_of_class : Field → List ℕ → Option ℕ → Option (List ℕ)
item_of_class fields.Name own fill = Some own
item_of_class fields.Fillfactor own fill = Some (fill_text fill)
item_of_class field own fill = None

-- what the row of a live column adds
abbrev pub item_of_column : Field → ℕ → List ℕ → ColType → ℤ → Option (List ℕ)
item_of_column fields.Columns num own col_type stat = Some (own ++ codes ":" ++ type_word col_type)
item_of_column fields.Statistics num own col_type stat = Some (decimal num ++ codes ":" ++ signed_decimal stat)
item_of_column field num own col_type stat = None

-- what the row of a default adds
abbrev pub item_of_default : Field → ℕ → List ℕ → Option (List ℕ)
item_of_default fields.Defaults num word = Some (decimal num ++ codes "=" ++ word)
item_of_default field num word = None

-- what the row of an index adds, to a field of its table or of the index
abbrev pub item_of_index : Field → Oid → Oid → IndexState → List ℕ → Option (List ℕ)
item_of_index fields.Indexes index table state nums = Some (decimal index.0 ++ codes ":" ++ state_word state ++ codes ":" ++ nums_text nums)
item_of_index fields.Of index table state nums = Some (decimal table.0 ++ codes ":" ++ nums_text nums)
item_of_index fields.Valid index table state nums = Some (state_word state)
item_of_index field index table state nums = None

-- what the row of a constraint adds, its own or that of a foreign key that refers to the relation
abbrev pub item_of_constraint : Field → Oid → Oid → Oid → List ℕ → Bool → ConKind → Option (List ℕ)
item_of_constraint fields.Constraints rel oid of own valid what = if same_oid of rel then Some (own ++ constraint_text valid what) else None
item_of_constraint fields.Referenced rel oid of own valid what = referring_item rel oid of what
item_of_constraint field rel oid of own valid what = None

-- what the row of a trigger adds
abbrev pub item_of_trigger : Field → List ℕ → Bool → Option (List ℕ)
item_of_trigger fields.Triggers own on = Some (own ++ codes ":" ++ on_word on)
item_of_trigger field own on = None

-- what a row adds to a field of the relation
abbrev pub item_of : Field → Oid → Row → Option (List ℕ)
item_of field rel (rows.Class oid own kind fill) = item_of_class field own fill
item_of field rel (rows.Att of num own col_type stat live) = if live then item_of_column field num own col_type stat else None
item_of field rel (rows.Def oid of num word) = item_of_default field num word
item_of field rel (rows.Ind index table state nums) = item_of_index field index table state nums
item_of field rel (rows.Con oid of own valid what) = item_of_constraint field rel oid of own valid what
item_of field rel (rows.Trg oid of own on) = item_of_trigger field own on

-- a text, or a dash for none
abbrev pub or_dash : List ℕ → List ℕ
or_dash [] = codes "-"
or_dash (byte ∷ bytes) = byte ∷ bytes

-- the text of a field, made of the rows of its scan
abbrev pub field_text : Field → Oid → List Row → List ℕ
field_text field rel seen = or_dash (join_by (λ item. item) (codes " ") (filter_map (item_of field rel) seen))
