-- Texts without a line's end: what the texts of fields and answers are made of.
use Rattle.std.proofs.Common.{◌≡◌, ℕ, ℤ, pos, negsuc, zero, suc, ◌/◌, ◌%◌, ◌==◌, ◌||◌, Bool, true, false, List, [], ◌∷◌, ◌++◌, Option, Some, None, if◌then◌else◌, inl, inr, refl, ap, arith, codes, decimal}
use Rattle.std.specs.Fmt.{digits, digits_onto, digit_glyph, signed_decimal}
use Rattle.std.specs.List.{list_all, AllPass, join_by, flat_map}
use Rattle.std.proofs.lemmas.List.Folds.{list_all-append}
use Rattle.std.proofs.lemmas.List.Sums.{list_all-from_AllPass}
use Rattle.std.proofs.lemmas.List.Elements.{All-weaker}
use Rattle.std.proofs.lemmas.Bool.Decides.{nat_tests}
use Rattle.base_types.specs.Types.{Mode, AccessShare, RowShare, RowExclusive, ShareUpdateExclusive, Share, ShareRowExclusive, Exclusive, AccessExclusive, Kind, ColType, IndexState, Field}
use Rattle.base_types.specs.declared.col_type.ColType.TheVariants as types
use Rattle.base_types.specs.declared.index_state.IndexState.TheVariants.{Neither, Valid}
use Rattle.base_types.specs.declared.field.Field.TheVariants as fields
use Rattle.base_types.specs.Names.{in_line, IsInLine, is_any_name_byte, is_word_byte, is_text_byte, IsAnyName, IsWord, IsText}
use Rattle.base_types.specs.Words.{mode_word, type_word, field_word, state_word, valid_word, on_word, fill_text, nums_text}
use Rattle.base_types.proofs.Names.{any_name_bytes, word_parts, text_parts}

-- ---- numbers

glyph_in_line : (digit : ℕ) → in_line (digit_glyph false digit) ≡ true
glyph_in_line digit = grind (arith, nat_tests)

chosen : (b : Bool) (x y : List ℕ) → IsInLine x → IsInLine y → IsInLine (if b then x else y)
chosen true x y p q = p
chosen false x y p q = q

glyphs_in_line : (k n : ℕ) (after : List ℕ) → IsInLine after → IsInLine (digits_onto k 10 false n after)
glyphs_in_line zero n after h = h
glyphs_in_line (suc k) n after h =
    let more : IsInLine (digit_glyph false (n % 10) ∷ after) = rw (glyph_in_line (n % 10), h) refl in
    chosen (n / 10 == 0) (digit_glyph false (n % 10) ∷ after) (digits_onto k 10 false (n / 10) (digit_glyph false (n % 10) ∷ after)) more
    (glyphs_in_line k (n / 10) (digit_glyph false (n % 10) ∷ after) more)

pub decimal_in_line : (n : ℕ) → IsInLine (decimal n)
unfolding digits
decimal_in_line n = glyphs_in_line 64 n [] refl

pub signed_in_line : (z : ℤ) → IsInLine (signed_decimal z)
signed_in_line (pos n) = decimal_in_line n
signed_in_line (negsuc n) = decimal_in_line (suc n)

-- ---- names and words

each_in_line : (allowed : ℕ → Bool) → ((byte : ℕ) → allowed byte ≡ true → in_line byte ≡ true) → (text : List ℕ) → AllPass allowed text → IsInLine text
each_in_line allowed each text pass = list_all-from_AllPass in_line text (All-weaker (λ byte. allowed byte ≡ true) (λ byte. in_line byte ≡ true) each text pass)

any_name_byte : (byte : ℕ) → is_any_name_byte byte ≡ true → in_line byte ≡ true
any_name_byte byte h = grind (arith, nat_tests)

word_byte : (byte : ℕ) → is_word_byte byte ≡ true → in_line byte ≡ true
word_byte byte h = grind (arith, nat_tests)

text_byte : (byte : ℕ) → is_text_byte byte ≡ true → in_line byte ≡ true
text_byte byte h = grind (arith, nat_tests)

pub name_in_line : (text : List ℕ) → IsAnyName text → IsInLine text
name_in_line text is = each_in_line is_any_name_byte any_name_byte text (any_name_bytes text is)

pub word_in_line : (text : List ℕ) → IsWord text → IsInLine text
word_in_line text is = each_in_line is_word_byte word_byte text (word_parts text is).bytes

pub text_in_line : (text : List ℕ) → IsText text → IsInLine text
text_in_line text is = each_in_line is_text_byte text_byte text (text_parts text is).bytes

pub mode_in_line : (mode : Mode) → IsInLine (mode_word mode)
mode_in_line AccessShare = refl
mode_in_line RowShare = refl
mode_in_line RowExclusive = refl
mode_in_line ShareUpdateExclusive = refl
mode_in_line Share = refl
mode_in_line ShareRowExclusive = refl
mode_in_line Exclusive = refl
mode_in_line AccessExclusive = refl

pub type_in_line : (col_type : ColType) → IsInLine (type_word col_type)
type_in_line types.Bool = refl
type_in_line types.Int2 = refl
type_in_line types.Int4 = refl
type_in_line types.Int8 = refl
type_in_line types.Text = refl
type_in_line types.Bytea = refl
type_in_line types.Date = refl
type_in_line types.Timestamptz = refl

pub field_in_line : (field : Field) → IsInLine (field_word field)
field_in_line fields.Name = refl
field_in_line fields.Columns = refl
field_in_line fields.Defaults = refl
field_in_line fields.Statistics = refl
field_in_line fields.Fillfactor = refl
field_in_line fields.Constraints = refl
field_in_line fields.Referenced = refl
field_in_line fields.Indexes = refl
field_in_line fields.Triggers = refl
field_in_line fields.Of = refl
field_in_line fields.Valid = refl

pub state_in_line : (state : IndexState) → IsInLine (state_word state)
state_in_line Neither = refl
state_in_line Valid = refl

pub valid_in_line : (valid : Bool) → IsInLine (valid_word valid)
valid_in_line true = refl
valid_in_line false = refl

pub on_in_line : (on : Bool) → IsInLine (on_word on)
on_in_line true = refl
on_in_line false = refl

-- ---- texts one after the other

pub joined_in_line : (a b : List ℕ) → IsInLine a → IsInLine b → IsInLine (a ++ b)
joined_in_line a b p q = rw (list_all-append in_line a b, p, q) refl

pub each_text_in_line : {X : Type 0} (f : X → List ℕ) → ((x : X) → IsInLine (f x)) → (xs : List X) → IsInLine (flat_map f xs)
each_text_in_line f each [] = refl
each_text_in_line f each (x ∷ xs) = joined_in_line (f x) (flat_map f xs) (each x) (each_text_in_line f each xs)

pub fill_in_line : (fill : Option ℕ) → IsInLine (fill_text fill)
fill_in_line None = refl
fill_in_line (Some n) = decimal_in_line n

pub nums_in_line : (nums : List ℕ) → IsInLine (nums_text nums)
nums_in_line [] = refl
nums_in_line (num ∷ nums) = joined_in_line (decimal num) (flat_map (λ n. codes "+" ++ decimal n) nums) (decimal_in_line num) (each_text_in_line (λ n. codes "+" ++ decimal n) decimal_in_line nums)
