-- What the bytes of a name, a word or a check's text are.
use Rattle.std.proofs.Common.{◌||◌, ◌++◌, inl, inr, nat_le, codes, decimal, ap, sym, subst, rules, ◌≡◌, ◌<◌, ◌≤◌, ℕ, Bool, true, false, not, ◌&&◌, ◌==◌, ◌+◌, nat_lt, cond, Option, Some, None, List, [], ◌∷◌, length, refl, arith}
use Rattle.std.specs.List.{position_from, list_all, AllPass}
use Rattle.std.proofs.lemmas.List.Sums.{AllPass-from_list_all}
use Rattle.std.proofs.lemmas.List.Elements.{All-append, All-weaker}
use Rattle.std.proofs.lemmas.Str.Parse.{numerals_by_value}
use Rattle.std.proofs.lemmas.Fmt.{digits_decimal}
use Rattle.std.proofs.lemmas.Bool.Decides.{nat_tests}
use Rattle.base_types.specs.Names.{is_digit, is_any_name_byte, IsAnyName, is_name_byte, is_word_byte, is_text_byte, bad_byte, first_refused, begins_with_digit, short_fault, IsName, IsWord, IsText}
use Rattle.base_types.specs.declared.name_fault.NameFault.{NameFault}

-- a choice that is none took no fault
untaken : (b : Bool) (fault : NameFault) (rest : Option NameFault) → cond b (Some fault) rest ≡ None → (b ≡ false) × (rest ≡ None)
untaken true fault rest h = cc
untaken false fault rest h = (refl, h)

no_place : (at : Option ℕ) → bad_byte at ≡ None → at ≡ None
no_place None h = refl
no_place (Some n) h = cc

one_passes : (b all : Bool) (n : ℕ) (rest : Option ℕ) → cond (not b) (Some n) rest ≡ None → (rest ≡ None → all ≡ true) → b && all ≡ true
one_passes true all n rest h more = more h
one_passes false all n rest h more = cc

none_refused : (allowed : ℕ → Bool) (n : ℕ) (text : List ℕ) → position_from (λ byte. not (allowed byte)) n text ≡ None → list_all allowed text ≡ true
none_refused allowed n [] h = refl
none_refused allowed n (byte ∷ bytes) h = one_passes (allowed byte) (list_all allowed bytes) n (position_from (λ b. not (allowed b)) (n + 1) bytes) h (none_refused allowed (n + 1) bytes)

-- where no byte is refused, each passes
pub each_passes : (allowed : ℕ → Bool) (text : List ℕ) → first_refused allowed text ≡ None → AllPass allowed text
each_passes allowed text h = AllPass-from_list_all allowed text (none_refused allowed 0 text h)

not_empty : (n : ℕ) → (n == 0) ≡ false → 0 < n
not_empty n h = grind (arith, nat_tests)

not_long : (n : ℕ) → nat_lt 63 n ≡ false → n ≤ 63
not_long n h = grind (arith, nat_tests)

-- bytes that the test allows, 1 to 63 of them
pub record IsShort (allowed : ℕ → Bool) (text : List ℕ) : Type 0 where
  pub some : 0 < length text
  pub short : length text ≤ 63
  pub bytes : AllPass allowed text

short_parts : (allowed : ℕ → Bool) (text : List ℕ) → short_fault allowed text ≡ None → IsShort allowed text
short_parts allowed text h =
    let empty = untaken (length text == 0) _ _ h in
    let long = untaken (nat_lt 63 (length text)) _ _ empty.1 in
    record { some = not_empty (length text) empty.0; short = not_long (length text) long.0; bytes = each_passes allowed text (no_place (first_refused allowed text) long.1) }

pub word_parts : (text : List ℕ) → IsWord text → IsShort is_word_byte text
word_parts text h = short_parts is_word_byte text h

pub text_parts : (text : List ℕ) → IsText text → IsShort is_text_byte text
text_parts text h = short_parts is_text_byte text h

pub name_parts : (text : List ℕ) → IsName text → IsShort is_name_byte text
name_parts text h =
    let empty = untaken (length text == 0) _ _ h in
    let long = untaken (nat_lt 63 (length text)) _ _ empty.1 in
    let digit = untaken (begins_with_digit text) _ _ long.1 in
    record { some = not_empty (length text) empty.0; short = not_long (length text) long.0; bytes = each_passes is_name_byte text (no_place (first_refused is_name_byte text) digit.1) }

or_more : (a b c : Bool) → b ≡ true → a || b || c ≡ true
or_more true b c h = refl
or_more false true c h = refl
or_more false false c h = cc

digit_is_any : (byte : ℕ) → is_digit byte ≡ true → is_any_name_byte byte ≡ true
digit_is_any byte h = ap (λ b. b || (byte == 46)) (or_more (nat_le 97 byte && nat_le byte 122) (is_digit byte) (byte == 95) h)

digits_of_decimal : (num : ℕ) → num ≤ 1600 → AllPass is_digit (decimal num)
digits_of_decimal num small = AllPass-from_list_all is_digit (decimal num) (digits_decimal (numerals_by_value (λ ds. list_all is_digit ds ≡ true) (search rules)) num (omega arith))

any_of_dropped : (digits : List ℕ) → AllPass is_any_name_byte digits → AllPass is_any_name_byte (codes "........pg.dropped." ++ digits ++ codes "........")
any_of_dropped digits h =
    let P : ℕ → Type 0 = λ byte. is_any_name_byte byte ≡ true in
    All-append P (codes "........pg.dropped." ++ digits) (codes "........")
    (All-append P (codes "........pg.dropped.") digits (AllPass-from_list_all is_any_name_byte (codes "........pg.dropped.") refl) h)
    (AllPass-from_list_all is_any_name_byte (codes "........") refl)

-- what the bytes of a name are, also of a dropped column's
pub any_name_bytes : (text : List ℕ) → IsAnyName text → AllPass is_any_name_byte text
any_name_bytes text (inl name) =
    let P : ℕ → Type 0 = λ byte. is_name_byte byte ≡ true in
    let Q : ℕ → Type 0 = λ byte. is_any_name_byte byte ≡ true in
    All-weaker P Q (λ byte h. ap (λ b. b || (byte == 46)) h) text (name_parts text name).bytes
any_name_bytes text (inr dropped) =
    let P : ℕ → Type 0 = λ byte. is_digit byte ≡ true in
    let Q : ℕ → Type 0 = λ byte. is_any_name_byte byte ≡ true in
    subst (λ (t : List ℕ). AllPass is_any_name_byte t) (sym dropped.1.is) (any_of_dropped (decimal dropped.0) (All-weaker P Q digit_is_any (decimal dropped.0) (digits_of_decimal dropped.0 dropped.1.most)))
