-- The words by which modes, kinds, types and states are written.
use Rattle.std.specs.Prelude.{ℕ, Bool, true, false, Option, Some, None, List, [], ◌∷◌, codes, decimal}
use Rattle.std.specs.List.{join_by}
use Rattle.base_types.specs.Types.{Mode, AccessShare, RowShare, RowExclusive, ShareUpdateExclusive, Share, ShareRowExclusive, Exclusive, AccessExclusive, Kind, ColType, IndexState, Field}
use Rattle.base_types.specs.declared.kind.Kind.TheVariants.{Table, Index}
use Rattle.base_types.specs.declared.col_type.ColType.TheVariants as types
use Rattle.base_types.specs.declared.index_state.IndexState.TheVariants.{Neither, Valid}
use Rattle.base_types.specs.declared.field.Field.TheVariants as fields

-- the lock modes, in rising order
abbrev pub modes : List Mode
modes = AccessShare ∷ RowShare ∷ RowExclusive ∷ ShareUpdateExclusive ∷ Share ∷ ShareRowExclusive ∷ Exclusive ∷ AccessExclusive ∷ []

-- the types of columns
abbrev pub col_types : List ColType
col_types = types.Bool ∷ types.Int2 ∷ types.Int4 ∷ types.Int8 ∷ types.Text ∷ types.Bytea ∷ types.Date ∷ types.Timestamptz ∷ []

-- the fields of descriptors
abbrev pub all_fields : List Field
all_fields = fields.Name ∷ fields.Columns ∷ fields.Defaults ∷ fields.Statistics ∷ fields.Fillfactor ∷ fields.Constraints ∷ fields.Referenced ∷ fields.Indexes ∷ fields.Triggers ∷ fields.Of ∷ fields.Valid ∷ []

-- the short word of a lock mode
abbrev pub mode_word : Mode → List ℕ
mode_word AccessShare = codes "as"
mode_word RowShare = codes "rs"
mode_word RowExclusive = codes "rx"
mode_word ShareUpdateExclusive = codes "su"
mode_word Share = codes "sh"
mode_word ShareRowExclusive = codes "sr"
mode_word Exclusive = codes "ex"
mode_word AccessExclusive = codes "ax"

-- a table or an index
abbrev pub kind_word : Kind → List ℕ
kind_word Table = codes "r"
kind_word Index = codes "i"

-- the name of a column's type
abbrev pub type_word : ColType → List ℕ
type_word types.Bool = codes "bool"
type_word types.Int2 = codes "int2"
type_word types.Int4 = codes "int4"
type_word types.Int8 = codes "int8"
type_word types.Text = codes "text"
type_word types.Bytea = codes "bytea"
type_word types.Date = codes "date"
type_word types.Timestamptz = codes "timestamptz"

-- an index that serves queries, or doesn't
abbrev pub state_word : IndexState → List ℕ
state_word Neither = codes "n"
state_word Valid = codes "v"

-- a constraint that is known to hold, or isn't
abbrev pub valid_word : Bool → List ℕ
valid_word true = codes "v"
valid_word false = codes "n"

-- a live column, or a dropped one
abbrev pub live_word : Bool → List ℕ
live_word true = codes "l"
live_word false = codes "d"

-- a trigger that is enabled, or isn't
abbrev pub on_word : Bool → List ℕ
on_word true = codes "e"
on_word false = codes "d"

-- a fillfactor, or a dash where none is set
abbrev pub fill_text : Option ℕ → List ℕ
fill_text None = codes "-"
fill_text (Some n) = decimal n

-- column numbers joined by `+`
abbrev pub nums_text : List ℕ → List ℕ
nums_text nums = join_by decimal (codes "+") nums

-- the name of a field
abbrev pub field_word : Field → List ℕ
field_word fields.Name = codes "name"
field_word fields.Columns = codes "columns"
field_word fields.Defaults = codes "defaults"
field_word fields.Statistics = codes "statistics"
field_word fields.Fillfactor = codes "fillfactor"
field_word fields.Constraints = codes "constraints"
field_word fields.Referenced = codes "referenced"
field_word fields.Indexes = codes "indexes"
field_word fields.Triggers = codes "triggers"
field_word fields.Of = codes "of"
field_word fields.Valid = codes "valid"
