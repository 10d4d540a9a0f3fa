-- Which bytes make a name, a word or the text of a check, and what is wrong with others.
use Rattle.std.specs.Prelude.{◌≡◌, ℕ, Bool, true, false, Option, Some, None, List, [], ◌∷◌, ◌==◌, ◌&&◌, ◌||◌, ◌⊎◌, ◌++◌, ◌<◌, ◌≤◌, ◌+◌, ◌*◌, ◌-◌, not, nat_le, nat_lt, length, fold, codes, decimal, if◌then◌else◌}
use Rattle.std.specs.List.{position_from, list_all}
use Rattle.base_types.specs.declared.dropped.TheConstants.{MOST_COLUMNS}
use Rattle.base_types.specs.declared.short_text.TheConstants.{LONGEST_TEXT}
use Rattle.base_types.specs.declared.name_fault.NameFault.{NameFault}
use Rattle.base_types.specs.declared.name_fault.NameFault.TheVariants.{Empty, TooLong, BadByte}

-- a digit
abbrev pub is_digit : ℕ → Bool
is_digit byte = nat_le 48 byte && nat_le byte 57

-- a byte of a name: a small letter, a digit or `_`
abbrev pub is_name_byte : ℕ → Bool
is_name_byte byte = (nat_le 97 byte && nat_le byte 122) || is_digit byte || (byte == 95)

-- a byte of a name that a column may have: one of a name, or `.`
abbrev pub is_any_name_byte : ℕ → Bool
is_any_name_byte byte = is_name_byte byte || (byte == 46)

-- a byte of a word: one of a name, or `-`
abbrev pub is_word_byte : ℕ → Bool
is_word_byte byte = is_name_byte byte || (byte == 45)

-- a byte of a check's text: one of a word, or one of `<`, `=`, `>`, `*` and `+`
abbrev pub is_text_byte : ℕ → Bool
is_text_byte byte = is_word_byte byte || (nat_le 60 byte && nat_le byte 62) || (nat_le 42 byte && nat_le byte 43)

-- the fault of a byte that is not allowed, if there is one
abbrev pub bad_byte : Option ℕ → Option NameFault
bad_byte None = None
bad_byte (Some at) = Some (BadByte at)

-- the first byte that the test refuses
abbrev pub first_refused : (ℕ → Bool) → List ℕ → Option ℕ
first_refused allowed text = position_from (λ byte. not (allowed byte)) 0 text

-- the text begins with a digit
abbrev pub begins_with_digit : List ℕ → Bool
begins_with_digit [] = false
begins_with_digit (byte ∷ bytes) = is_digit byte

-- the first fault of a text that should have 1 to 63 bytes, all of which the test allows
abbrev pub short_fault : (ℕ → Bool) → List ℕ → Option NameFault
short_fault allowed text = if length text == 0 then Some Empty else if nat_lt LONGEST_TEXT (length text) then Some TooLong else bad_byte (first_refused allowed text)

-- the first fault of a name, which may not begin with a digit
abbrev pub name_fault : List ℕ → Option NameFault
name_fault text = if length text == 0 then Some Empty else if nat_lt LONGEST_TEXT (length text) then Some TooLong else if begins_with_digit text then Some (BadByte 0) else bad_byte (first_refused is_name_byte text)

-- the bytes are a name
abbrev pub IsName : List ℕ → Type 0
IsName text = name_fault text ≡ None

-- the bytes are a word
abbrev pub IsWord : List ℕ → Type 0
IsWord text = short_fault is_word_byte text ≡ None

-- the bytes are the text of a check
abbrev pub IsText : List ℕ → Type 0
IsText text = short_fault is_text_byte text ≡ None

-- the name that a dropped column of this number has
abbrev pub dropped_name : ℕ → List ℕ
dropped_name num = codes "........pg.dropped." ++ decimal num ++ codes "........"

-- the bytes are the name of the dropped column of this number
pub record IsDropped (num : ℕ) (text : List ℕ) : Type 0 where
  pub some : 0 < num
  pub most : num ≤ MOST_COLUMNS
  pub is : text ≡ dropped_name num

-- the bytes are the name of a dropped column
abbrev pub IsDroppedName : List ℕ → Type 0
IsDroppedName text = (num : ℕ) × IsDropped num text

-- the bytes are a name that a column may have
abbrev pub IsAnyName : List ℕ → Type 0
IsAnyName text = IsName text ⊎ IsDroppedName text

-- a number with one more digit, as its bytes give it
abbrev pub digit_more : ℕ → ℕ → ℕ
digit_more number byte = number * 10 + (byte - 48)

-- the number that digits write
abbrev pub number_of_digits : List ℕ → ℕ
number_of_digits digits = fold digit_more 0 digits

-- a byte that is no line's end
abbrev pub in_line : ℕ → Bool
in_line byte = not (byte == 10)

-- the bytes hold no line's end
abbrev pub IsInLine : List ℕ → Type 0
IsInLine text = list_all in_line text ≡ true
