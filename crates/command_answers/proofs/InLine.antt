-- The text of an answer holds no line's end where its names and values hold none.
use Rattle.std.proofs.Common.{◌≡◌, ℕ, ◌+◌, ◌<◌, Option, Some, None, List, [], ◌∷◌, ◌++◌, length, take, get_or, refl, codes, decimal}
use Rattle.std.specs.Fmt.{signed_decimal}
use Rattle.std.specs.List.{flat_map}
use Rattle.command_answers.specs.Types.{Kind, ColType, Oid, CommandError, Shown, Column}
use Rattle.base_types.specs.declared.kind.Kind.TheVariants.{Table, Index}
use Rattle.base_types.specs.Names.{IsInLine}
use Rattle.base_types.specs.Fields.{or_dash}
use Rattle.base_types.specs.Words.{mode_word, type_word, field_word}
use Rattle.base_types.proofs.Added.{texts_more}
use Rattle.base_types.proofs.InLine.{decimal_in_line, signed_in_line, mode_in_line, type_in_line, field_in_line, joined_in_line}
use Rattle.command_answers.specs.declared.error.CommandError.TheVariants as errors
use Rattle.command_answers.specs.Answers.{as_of_text, shown_text, relation_word, column_text, columns_text, regclass_text, error_name, error_text}

-- a text between two others
between : (before text after : List ℕ) → IsInLine before → IsInLine text → IsInLine after → IsInLine (before ++ text ++ after)
between before text after p q r = joined_in_line (before ++ text) after (joined_in_line before text p q) r

pub as_of_in_line : (at : Option ℕ) → IsInLine (as_of_text at)
as_of_in_line None = refl
as_of_in_line (Some at) = decimal_in_line at

pub shown_in_line : (shown : Shown) → IsInLine shown.value → IsInLine (shown_text shown)
shown_in_line shown value =
    joined_in_line (field_word shown.field ++ codes " " ++ shown.value) (as_of_text shown.at)
    (between (field_word shown.field) (codes " ") shown.value (field_in_line shown.field) refl value) (as_of_in_line shown.at)

pub column_in_line : (column : Column) → IsInLine column.name → IsInLine (column_text column)
column_in_line column name = between column.name (codes ":") (type_word column.col_type) name refl (type_in_line column.col_type)

relation_word_in_line : (kind : Kind) → IsInLine (relation_word kind)
relation_word_in_line Table = refl
relation_word_in_line Index = refl

pub relation_in_line : (kind : Kind) (rel : ℕ) (fields : List ℕ) → IsInLine fields → IsInLine (relation_word kind ++ decimal rel ++ fields)
relation_in_line kind rel fields h = between (relation_word kind) (decimal rel) fields (relation_word_in_line kind) (decimal_in_line rel) h

pub one_column_in_line : (num : ℕ) (col_type : ColType) → IsInLine (codes "column " ++ decimal num ++ codes " " ++ type_word col_type)
one_column_in_line num col_type = between (codes "column " ++ decimal num) (codes " ") (type_word col_type) (decimal_in_line num) refl (type_in_line col_type)

-- one more text of a loop
pub more_in_line : {X : Type 0} (f : X → List ℕ) (xs : List X) (i : ℕ) (x : X) → i < length xs → x ≡ get_or xs i x → IsInLine (flat_map f (take i xs)) → IsInLine (f x)
    → IsInLine (flat_map f (take (i + 1) xs))
more_in_line f xs i x within is before one = rw (texts_more f xs i x within is) (joined_in_line (flat_map f (take i xs)) (f x) before one)

or_dash_in_line : (text : List ℕ) → IsInLine text → IsInLine (or_dash text)
or_dash_in_line [] h = refl
or_dash_in_line (byte ∷ bytes) h = h

-- a list of columns that has a first one
pub columns_in_line : (first : Column) (others : List Column) → IsInLine first.name → IsInLine (flat_map (λ column. codes " " ++ column_text column) others)
    → IsInLine (codes "columns " ++ columns_text (first ∷ others))
columns_in_line first others name more =
    or_dash_in_line (column_text first ++ flat_map (λ column. codes " " ++ column_text column) others)
    (joined_in_line (column_text first) (flat_map (λ column. codes " " ++ column_text column) others) (column_in_line first name) more)

pub regclass_in_line : (rel : Oid) (name : Option (List ℕ)) (at : ℕ) → IsInLine (regclass_text rel name) → IsInLine (codes "regclass " ++ regclass_text rel name ++ as_of_text (Some at))
regclass_in_line rel name at h = joined_in_line (codes "regclass " ++ regclass_text rel name) (as_of_text (Some at)) h (as_of_in_line (Some at))

pub error_in_line : (error : CommandError) → IsInLine (error_name error) → IsInLine (error_text error)
error_in_line errors.BlockFailed h = refl
error_in_line errors.NoBlock h = refl
error_in_line (errors.NoSavepoint name) h = between (codes "3B001 savepoint ") name (codes " does not exist") refl h refl
error_in_line (errors.NotOpen name) h = between (codes "55000 ") name (codes " is not open") refl h refl
error_in_line (errors.NoRelation name at) h = joined_in_line (codes "42P01 relation " ++ name ++ codes " does not exist") (as_of_text (Some at)) (between (codes "42P01 relation ") name (codes " does not exist") refl h refl) (as_of_in_line (Some at))
error_in_line (errors.NoIndex name at) h = joined_in_line (codes "42704 index " ++ name ++ codes " does not exist") (as_of_text (Some at)) (between (codes "42704 index ") name (codes " does not exist") refl h refl) (as_of_in_line (Some at))
error_in_line (errors.NoConstraint name) h = between (codes "42704 constraint ") name (codes " does not exist") refl h refl
error_in_line (errors.NoTrigger name) h = between (codes "42704 trigger ") name (codes " does not exist") refl h refl
error_in_line (errors.Locked rel holder mode) h =
    between (codes "55P03 relation " ++ decimal rel.0 ++ codes " is locked by backend " ++ decimal holder) (codes " in ") (mode_word mode)
    (between (codes "55P03 relation " ++ decimal rel.0) (codes " is locked by backend ") (decimal holder) (joined_in_line (codes "55P03 relation ") (decimal rel.0) refl (decimal_in_line rel.0)) refl (decimal_in_line holder)) refl (mode_in_line mode)
error_in_line (errors.NameInUse name xid) h = joined_in_line (codes "55P03 name " ++ name ++ codes " is in use by transaction ") (decimal xid.0) (between (codes "55P03 name ") name (codes " is in use by transaction ") refl h refl) (decimal_in_line xid.0)
error_in_line (errors.RelationExists name) h = between (codes "42P07 relation ") name (codes " already exists") refl h refl
error_in_line (errors.NotTable name) h = between (codes "42809 ") name (codes " is not a table") refl h refl
error_in_line (errors.NotIndex name) h = between (codes "42809 ") name (codes " is not an index") refl h refl
error_in_line (errors.NoField name field) h = joined_in_line (codes "42809 " ++ name ++ codes " has no field ") (field_word field) (between (codes "42809 ") name (codes " has no field ") refl h refl) (field_in_line field)
error_in_line (errors.InUse rel) h = between (codes "55006 relation ") (decimal rel.0) (codes " is open in this session") refl (decimal_in_line rel.0) refl
error_in_line (errors.Depends name) h = joined_in_line (codes "2BP01 other objects depend on relation ") name refl h
error_in_line (errors.ColumnUsed name) h = between (codes "0A000 column ") name (codes " is used by an index or constraint") refl h refl
error_in_line (errors.ColumnExists name) h = between (codes "42701 column ") name (codes " already exists") refl h refl
error_in_line (errors.NoColumn name) h = between (codes "42703 column ") name (codes " does not exist") refl h refl
error_in_line (errors.ConstraintExists name) h = between (codes "42710 constraint ") name (codes " already exists") refl h refl
error_in_line (errors.TriggerExists name) h = between (codes "42710 trigger ") name (codes " already exists") refl h refl
error_in_line (errors.OutOfRange value) h = between (codes "22023 value ") (signed_decimal value) (codes " is out of range") refl (signed_in_line value) refl
error_in_line errors.TooManyColumns h = refl
error_in_line errors.WantOfMemory h = refl
