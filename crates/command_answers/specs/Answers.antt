-- The text of each answer.
use Rattle.std.specs.Prelude.{ℕ, Option, Some, None, List, [], ◌++◌, codes, decimal}
use Rattle.std.specs.Fmt.{signed_decimal}
use Rattle.std.specs.List.{flat_map, join_by}
use Rattle.command_answers.specs.Types.{Oid, Kind, CommandError, Shown, Column, Answer}
use Rattle.base_types.specs.declared.kind.Kind.TheVariants.{Table, Index}
use Rattle.base_types.specs.Words.{mode_word, type_word, field_word}
use Rattle.base_types.specs.Fields.{or_dash}
use Rattle.command_answers.specs.declared.error.CommandError.TheVariants as errors
use Rattle.command_answers.specs.declared.answer.Answer.TheVariants as answers

-- where a value was read, after one that others may change
abbrev pub as_of_text : Option ℕ → List ℕ
as_of_text None = []
as_of_text (Some at) = codes " as of " ++ decimal at

-- a field as it is shown
abbrev pub shown_text : Shown → List ℕ
shown_text shown = field_word shown.field ++ codes " " ++ shown.value ++ as_of_text shown.at

-- a table or an index, as an answer begins
abbrev pub relation_word : Kind → List ℕ
relation_word Table = codes "table "
relation_word Index = codes "index "

-- fields, `; ` before each
abbrev pub shown_list : List Shown → List ℕ
shown_list fields = flat_map (λ shown. codes "; " ++ shown_text shown) fields

-- a column of a list
abbrev pub column_text : Column → List ℕ
column_text column = column.name ++ codes ":" ++ type_word column.col_type

-- columns with a blank between them, or a dash for none
abbrev pub columns_text : List Column → List ℕ
columns_text columns = or_dash (join_by column_text (codes " ") columns)

-- the name of an oid, or that there is none
abbrev pub regclass_text : Oid → Option (List ℕ) → List ℕ
regclass_text rel None = decimal rel.0 ++ codes " none"
regclass_text rel (Some name) = name

-- an error: its SQLSTATE and what is wrong
abbrev pub error_text : CommandError → List ℕ
error_text errors.BlockFailed = codes "25P02 the transaction block has failed"
error_text errors.NoBlock = codes "25P01 no transaction block"
error_text (errors.NoSavepoint name) = codes "3B001 savepoint " ++ name ++ codes " does not exist"
error_text (errors.NotOpen name) = codes "55000 " ++ name ++ codes " is not open"
error_text (errors.NoRelation name at) = codes "42P01 relation " ++ name ++ codes " does not exist" ++ as_of_text (Some at)
error_text (errors.NoIndex name at) = codes "42704 index " ++ name ++ codes " does not exist" ++ as_of_text (Some at)
error_text (errors.NoConstraint name) = codes "42704 constraint " ++ name ++ codes " does not exist"
error_text (errors.NoTrigger name) = codes "42704 trigger " ++ name ++ codes " does not exist"
error_text (errors.Locked rel holder mode) = codes "55P03 relation " ++ decimal rel.0 ++ codes " is locked by backend " ++ decimal holder ++ codes " in " ++ mode_word mode
error_text (errors.NameInUse name xid) = codes "55P03 name " ++ name ++ codes " is in use by transaction " ++ decimal xid.0
error_text (errors.RelationExists name) = codes "42P07 relation " ++ name ++ codes " already exists"
error_text (errors.NotTable name) = codes "42809 " ++ name ++ codes " is not a table"
error_text (errors.NotIndex name) = codes "42809 " ++ name ++ codes " is not an index"
error_text (errors.NoField name field) = codes "42809 " ++ name ++ codes " has no field " ++ field_word field
error_text (errors.InUse rel) = codes "55006 relation " ++ decimal rel.0 ++ codes " is open in this session"
error_text (errors.Depends name) = codes "2BP01 other objects depend on relation " ++ name
error_text (errors.ColumnUsed name) = codes "0A000 column " ++ name ++ codes " is used by an index or constraint"
error_text (errors.ColumnExists name) = codes "42701 column " ++ name ++ codes " already exists"
error_text (errors.NoColumn name) = codes "42703 column " ++ name ++ codes " does not exist"
error_text (errors.ConstraintExists name) = codes "42710 constraint " ++ name ++ codes " already exists"
error_text (errors.TriggerExists name) = codes "42710 trigger " ++ name ++ codes " already exists"
error_text (errors.OutOfRange value) = codes "22023 value " ++ signed_decimal value ++ codes " is out of range"
error_text errors.TooManyColumns = codes "54011 too many columns"
error_text errors.WantOfMemory = codes "53200 want of memory"

-- the name that an error speaks of; some speak of none
abbrev pub error_name : CommandError → List ℕ
error_name (errors.NoSavepoint name) = name
error_name (errors.NotOpen name) = name
error_name (errors.NoRelation name at) = name
error_name (errors.NoIndex name at) = name
error_name (errors.NoConstraint name) = name
error_name (errors.NoTrigger name) = name
error_name (errors.NameInUse name xid) = name
error_name (errors.RelationExists name) = name
error_name (errors.NotTable name) = name
error_name (errors.NotIndex name) = name
error_name (errors.NoField name field) = name
error_name (errors.Depends name) = name
error_name (errors.ColumnUsed name) = name
error_name (errors.ColumnExists name) = name
error_name (errors.NoColumn name) = name
error_name (errors.ConstraintExists name) = name
error_name (errors.TriggerExists name) = name
error_name error = []

-- an answer
abbrev pub answer_text : Answer → List ℕ
answer_text answers.Ok = codes "ok"
answer_text answers.RolledBack = codes "rolled back"
answer_text (answers.Shown kind rel fields) = relation_word kind ++ decimal rel.0 ++ shown_list fields
answer_text (answers.One shown) = shown_text shown
answer_text (answers.Columns columns) = codes "columns " ++ columns_text columns
answer_text (answers.Column num col_type) = codes "column " ++ decimal num ++ codes " " ++ type_word col_type
answer_text (answers.Regclass rel name at) = codes "regclass " ++ regclass_text rel name ++ as_of_text (Some at)
answer_text (answers.Error error) = codes "error " ++ error_text error
