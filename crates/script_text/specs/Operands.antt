-- What single tokens mean: numbers, names, words, types and fields; and how lock modes are said.
use Rattle.std.specs.Prelude.{ℕ, ℤ, Bool, false, pos, neg_ℤ, Option, Some, None, List, [], ◌∷◌, ◌==◌, ◌||◌, ◌&&◌, not, nat_lt, nat_le, length, option_map, is_none, codes, if◌then◌else◌}
use Rattle.std.specs.List.{list_all, find}
use Rattle.std.specs.Str.{bytes_eq}
use Rattle.base_types.specs.Names.{is_digit, number_of_digits, name_fault, short_fault, is_word_byte, is_text_byte}
use Rattle.base_types.specs.Words.{type_word, field_word, col_types, all_fields}
use Rattle.base_types.specs.declared.mode.Mode.{Mode}
use Rattle.base_types.specs.declared.mode.Mode.TheVariants.{AccessShare, RowShare, RowExclusive, ShareUpdateExclusive, Share, ShareRowExclusive, Exclusive, AccessExclusive}
use Rattle.base_types.specs.declared.col_type.ColType.{ColType}
use Rattle.base_types.specs.declared.col_type.ColType.TheVariants as types
use Rattle.base_types.specs.declared.field.Field.{Field}

-- the number of a text of at most so many digits
unfoldable pub number_of : ℕ → List ℕ → Option ℕ
number_of most text = if (length text == 0) || nat_lt most (length text) || not (list_all is_digit text) then None else Some (number_of_digits text)

-- the number, if it lies within bounds
abbrev pub within : ℕ → ℕ → Option ℕ → Option ℕ
within least most None = None
within least most (Some n) = if nat_le least n && nat_le n most then Some n else None

-- a number of nine digits at most within bounds
unfoldable pub number_within : ℕ → ℕ → List ℕ → Option ℕ
number_within least most text = within least most (number_of 9 text)

-- a number that may begin with a minus
unfoldable pub stat_of : List ℕ → Option ℤ
stat_of [] = None
stat_of (byte ∷ bytes) = if byte == 45 then option_map (λ n. neg_ℤ (pos n)) (number_of 9 bytes) else option_map (λ n. pos n) (number_of 9 (byte ∷ bytes))

-- the text itself, where it has no fault
abbrev pub if_none : {F : Type 0} → Option F → List ℕ → Option (List ℕ)
if_none fault text = if is_none fault then Some text else None

-- a name, which isn't that of a dropped column
unfoldable pub plain_name_of : List ℕ → Option (List ℕ)
plain_name_of text = if_none (name_fault text) text

-- the word of a default
unfoldable pub word_of : List ℕ → Option (List ℕ)
word_of text = if_none (short_fault is_word_byte text) text

-- the text of a check
unfoldable pub check_text_of : List ℕ → Option (List ℕ)
check_text_of text = if_none (short_fault is_text_byte text) text

-- the text is another word for a type
abbrev pub is_other_word : List ℕ → ColType → Bool
is_other_word text types.Bool = bytes_eq text (codes "boolean")
is_other_word text types.Int2 = bytes_eq text (codes "smallint")
is_other_word text types.Int4 = bytes_eq text (codes "integer") || bytes_eq text (codes "int")
is_other_word text types.Int8 = bytes_eq text (codes "bigint")
is_other_word text col_type = false

-- a column's type, by its name or another word for it
unfoldable pub type_of : List ℕ → Option ColType
type_of text = find (λ col_type. bytes_eq text (type_word col_type) || is_other_word text col_type) col_types

-- a field of a descriptor
unfoldable pub field_of : List ℕ → Option Field
field_of text = find (λ field. bytes_eq text (field_word field)) all_fields

-- how `lock table` says a lock mode
abbrev pub lock_words : Mode → List ℕ
lock_words AccessShare = codes "in access share mode"
lock_words RowShare = codes "in row share mode"
lock_words RowExclusive = codes "in row exclusive mode"
lock_words ShareUpdateExclusive = codes "in share update exclusive mode"
lock_words Share = codes "in share mode"
lock_words ShareRowExclusive = codes "in share row exclusive mode"
lock_words Exclusive = codes "in exclusive mode"
lock_words AccessExclusive = codes "in access exclusive mode"
