-- The tokens of a text made of other texts, and what single ones mean.
use Rattle.std.proofs.Common.{◌≡◌, ◌<◌, ◌≤◌, ◌^◌, ◌/◌, ◌%◌, ℕ, ℤ, pos, negsuc, zero, suc, Bool, true, false, not, ◌==◌, cond, List, [], ◌∷◌, ◌++◌, length, Some, codes, decimal, fold, refl, ap, ◌∙◌, arith, rules}
use Rattle.std.specs.Prelude.{nat_abs, nat_lt}
use Rattle.std.specs.Fmt.{digits, digits_onto, digit_glyph, signed_decimal}
use Rattle.std.specs.Str.{bytes_eq}
use Rattle.std.specs.List.{AllByRecursion, list_all, flat_map}
use Rattle.std.proofs.Math.Nat.{pow-le-pow_right}
use Rattle.std.proofs.lemmas.Bool.{and_parts, cond_both}
use Rattle.std.proofs.lemmas.Bool.Decides.{nat_tests}
use Rattle.std.proofs.lemmas.List.Sums.{list_all-from_AllPass}
use Rattle.std.proofs.lemmas.Str.Parse.{IsNumeralModel, numerals_by_fold}
use Rattle.std.proofs.lemmas.Fmt.{digits_value-decimal, length-decimal-le}
use Rattle.base_types.specs.Names.{IsName, IsWord, IsText, is_digit, is_name_byte, is_word_byte, is_text_byte, number_of_digits, digit_more}
use Rattle.base_types.proofs.Names.{name_parts, word_parts, text_parts}
use Rattle.script_text.specs.TextLines.{is_blank, with_byte}
use Rattle.script_text.specs.Tokens.{tokens, in_word, is_mark, goes_on}
use Rattle.script_text.specs.Operands.{number_of, stat_of}
use Rattle.script_text.specs.Commands.{enclosed}
use Rattle.script_text.proofs.Clean.{is_clean, IsPiece}
use Rattle.script_text.proofs.TokenLengths.{no_blank}

-- ---- tests of each byte

-- what a test says of each byte that passes it holds of each byte of a text that passes
pub each_byte : (p : ℕ → Bool) (Q : ℕ → Type 0) → ((b : ℕ) → p b ≡ true → Q b) → (text : List ℕ) → list_all p text ≡ true → AllByRecursion Q text
each_byte p Q says [] h = tt
each_byte p Q says (b ∷ bs) h = let parts = and_parts (p b) (list_all p bs) h in (says b parts.0, each_byte p Q says bs parts.1)

-- the text is bytes that pass the test, one or more
record IsWhole (p : ℕ → Bool) (text : List ℕ) : Type 0 where
  pub some : 1 ≤ length text
  pub bytes : list_all p text ≡ true

whole_name : (name : List ℕ) → IsName name → IsWhole is_name_byte name
whole_name name h = let parts = name_parts name h in record { some = parts.some; bytes = list_all-from_AllPass is_name_byte name parts.bytes }

whole_word : (word : List ℕ) → IsWord word → IsWhole is_word_byte word
whole_word word h = let parts = word_parts word h in record { some = parts.some; bytes = list_all-from_AllPass is_word_byte word parts.bytes }

whole_text : (text : List ℕ) → IsText text → IsWhole is_text_byte text
whole_text text h = let parts = text_parts text h in record { some = parts.some; bytes = list_all-from_AllPass is_text_byte text parts.bytes }

glyph : (n : ℕ) → is_digit (digit_glyph false (n % 10)) ≡ true
glyph n = let small : n % 10 < 10 = omega arith in grind (arith, nat_tests)

onto_digits : (k n : ℕ) (acc : List ℕ) → list_all is_digit acc ≡ true → list_all is_digit (digits_onto k 10 false n acc) ≡ true
onto_digits zero n acc h = h
onto_digits (suc k) n acc h =
    let ds = digit_glyph false (n % 10) ∷ acc in
    let pass : list_all is_digit ds ≡ true = rw (glyph n) h in
    cond_both (n / 10 == 0) ds (digits_onto k 10 false (n / 10) ds) (λ t. list_all is_digit t ≡ true) (λ last. pass) (λ more. onto_digits k (n / 10) ds pass)

pub decimal_digits : (n : ℕ) → list_all is_digit (decimal n) ≡ true
unfolding digits
decimal_digits n = onto_digits 64 n [] refl

onto_some : (k n : ℕ) (acc : List ℕ) → 1 ≤ length acc → 1 ≤ length (digits_onto k 10 false n acc)
onto_some zero n acc h = h
onto_some (suc k) n acc h =
    let ds = digit_glyph false (n % 10) ∷ acc in
    cond_both (n / 10 == 0) ds (digits_onto k 10 false (n / 10) ds) (λ t. 1 ≤ length t) (λ last. omega arith) (λ more. onto_some k (n / 10) ds (omega arith))

decimal_some : (n : ℕ) → 1 ≤ length (decimal n)
unfolding digits
decimal_some n =
    let ds = digit_glyph false (n % 10) ∷ [] in
    cond_both (n / 10 == 0) ds (digits_onto 63 10 false (n / 10) ds) (λ t. 1 ≤ length t) (λ last. omega arith) (λ more. onto_some 63 (n / 10) ds (omega arith))

-- ---- byte by byte

name_in_word : (b : ℕ) → is_name_byte b ≡ true → in_word b ≡ true
name_in_word b h = grind (arith, nat_tests)

word_in_word : (b : ℕ) → is_word_byte b ≡ true → in_word b ≡ true
word_in_word b h = grind (arith, nat_tests)

digit_in_word : (b : ℕ) → is_digit b ≡ true → in_word b ≡ true
digit_in_word b h = grind (arith, nat_tests)

name_clean : (b : ℕ) → is_name_byte b ≡ true → is_clean b ≡ true
name_clean b h = grind (arith, nat_tests)

word_clean : (b : ℕ) → is_word_byte b ≡ true → is_clean b ≡ true
word_clean b h = grind (arith, nat_tests)

digit_clean : (b : ℕ) → is_digit b ≡ true → is_clean b ≡ true
digit_clean b h = grind (arith, nat_tests)

text_clean : (b : ℕ) → is_text_byte b ≡ true → is_clean b ≡ true
text_clean b h = grind (arith, nat_tests)

text_not_blank : (b : ℕ) → is_text_byte b ≡ true → (is_blank b ≡ false) × ((b == 41) ≡ false)
text_not_blank b h = (grind (arith, nat_tests), grind (arith, nat_tests))

no_minus : (b : ℕ) → is_digit b ≡ true → (b == 45) ≡ false
no_minus b h = grind (arith, nat_tests)

small_enough : (most n : ℕ) → most ≤ 10 → n < 10 ^ most → n < 2 ^ 64
small_enough most n few lt = let top : 10 ^ most ≤ 10 ^ 10 = pow-le-pow_right {n = 10} (omega arith) few in omega arith

-- ---- one token

-- a byte before a longer token
pub longer : (b : ℕ) (bs : List ℕ) → in_word b ≡ true → goes_on bs ≡ true → tokens (b ∷ bs) ≡ with_byte b (tokens bs)
unfolding tokens
longer b bs word more = rw (word, no_blank b word, more) refl

-- bytes of a longer token alone are one token
one_token : (word : List ℕ) → 1 ≤ length word → AllByRecursion (λ b. in_word b ≡ true) word → tokens word ≡ word ∷ []
unfolding tokens
one_token [] some h = absurd (omega arith)
one_token (x ∷ []) some h = rw (h.0, no_blank x h.0) refl
one_token (x ∷ y ∷ word) some h =
    let others : tokens (y ∷ word) ≡ (y ∷ word) ∷ [] = one_token (y ∷ word) (omega arith) h.1 in
    longer x (y ∷ word) h.0 h.1.0 ∙ ap (with_byte x) others

whole_token : (p : ℕ → Bool) → ((b : ℕ) → p b ≡ true → in_word b ≡ true) → (text : List ℕ) → IsWhole p text → tokens text ≡ text ∷ []
whole_token p says text h = one_token text h.some (each_byte p (λ b. in_word b ≡ true) says text h.bytes)

whole_piece : (p : ℕ → Bool) → ((b : ℕ) → p b ≡ true → is_clean b ≡ true) → (text : List ℕ) → IsWhole p text → IsPiece text
whole_piece p says text h = (h.some, each_byte p (λ b. is_clean b ≡ true) says text h.bytes)

pub name_token : (name : List ℕ) → IsName name → tokens name ≡ name ∷ []
name_token name h = whole_token is_name_byte name_in_word name (whole_name name h)

pub name_piece : (name : List ℕ) → IsName name → IsPiece name
name_piece name h = whole_piece is_name_byte name_clean name (whole_name name h)

pub word_token : (word : List ℕ) → IsWord word → tokens word ≡ word ∷ []
word_token word h = whole_token is_word_byte word_in_word word (whole_word word h)

pub word_piece : (word : List ℕ) → IsWord word → IsPiece word
word_piece word h = whole_piece is_word_byte word_clean word (whole_word word h)

pub text_piece : (text : List ℕ) → IsText text → IsPiece text
text_piece text h = whole_piece is_text_byte text_clean text (whole_text text h)

whole_number : (n : ℕ) → IsWhole is_digit (decimal n)
whole_number n = record { some = decimal_some n; bytes = decimal_digits n }

pub number_token : (n : ℕ) → tokens (decimal n) ≡ decimal n ∷ []
number_token n = whole_token is_digit digit_in_word (decimal n) (whole_number n)

pub number_piece : (n : ℕ) → IsPiece (decimal n)
number_piece n = whole_piece is_digit digit_clean (decimal n) (whole_number n)

pub stat_token : (z : ℤ) → tokens (signed_decimal z) ≡ signed_decimal z ∷ []
stat_token (pos n) = number_token n
stat_token (negsuc n) = one_token (45 ∷ decimal (suc n)) (omega arith) (refl, each_byte is_digit (λ b. in_word b ≡ true) digit_in_word (decimal (suc n)) (decimal_digits (suc n)))

pub stat_piece : (z : ℤ) → IsPiece (signed_decimal z)
stat_piece (pos n) = number_piece n
stat_piece (negsuc n) = (omega arith, (refl, (number_piece (suc n)).1))

-- ---- the text of a check

-- the tokens of a text without blanks are the text, one after the other
joined_byte : (b : ℕ) (ts : List (List ℕ)) → flat_map (λ t. t) (with_byte b ts) ≡ b ∷ flat_map (λ t. t) ts
joined_byte b [] = refl
joined_byte b (t ∷ ts) = refl

no_closing : (b : ℕ) (ts : List (List ℕ)) → (b == 41) ≡ false → AllByRecursion (λ t. bytes_eq t (codes ")") ≡ false) ts → AllByRecursion (λ t. bytes_eq t (codes ")") ≡ false) (with_byte b ts)
no_closing b [] e h = (rw e refl, tt)
no_closing b (t ∷ ts) e h = (rw e refl, h.1)

-- what tokens of a text without blanks and closing parentheses are
record AreInside (text : List ℕ) (ts : List (List ℕ)) : Type 0 where
  pub joined : flat_map (λ t. t) ts ≡ text
  pub open_all : AllByRecursion (λ t. bytes_eq t (codes ")") ≡ false) ts

inside_by : (b : ℕ) (bs : List ℕ) (word more : Bool) → (b == 41) ≡ false → AreInside bs (tokens bs)
    → AreInside (b ∷ bs) (cond word (cond more (with_byte b (tokens bs)) ((b ∷ []) ∷ tokens bs)) ((b ∷ []) ∷ tokens bs))
inside_by b bs true true e h = record { joined = joined_byte b (tokens bs) ∙ ap (λ t. b ∷ t) h.joined; open_all = no_closing b (tokens bs) e h.open_all }
inside_by b bs true false e h = record { joined = ap (λ t. b ∷ t) h.joined; open_all = (rw e refl, h.open_all) }
inside_by b bs false more e h = record { joined = ap (λ t. b ∷ t) h.joined; open_all = (rw e refl, h.open_all) }

inside : (text : List ℕ) → AllByRecursion (λ b. (is_blank b ≡ false) × ((b == 41) ≡ false)) text → AreInside text (tokens text)
unfolding tokens
inside [] h = record { joined = refl; open_all = tt }
inside (b ∷ bs) h = rw h.0.0 (inside_by b bs (not (is_mark b)) (goes_on bs) h.0.1 (inside bs h.1))

enclosed_of : (ts rest : List (List ℕ)) → AllByRecursion (λ t. bytes_eq t (codes ")") ≡ false) ts → enclosed (ts ++ codes ")" ∷ rest) ≡ Some (flat_map (λ t. t) ts, rest)
unfolding enclosed
enclosed_of [] rest h = refl
enclosed_of (t ∷ ts) rest h = rw (h.0, enclosed_of ts rest h.1) refl

pub enclosed_tokens : (text : List ℕ) (rest : List (List ℕ)) → IsText text → enclosed (tokens text ++ codes ")" ∷ rest) ≡ Some (text, rest)
enclosed_tokens text rest h =
    let parts : AreInside text (tokens text) = inside text (each_byte is_text_byte (λ b. (is_blank b ≡ false) × ((b == 41) ≡ false)) text_not_blank text (whole_text text h).bytes) in
    enclosed_of (tokens text) rest parts.open_all ∙ ap (λ (t : List ℕ). Some (t, rest)) parts.joined

-- ---- numbers

own_digits : IsNumeralModel (λ ds. list_all is_digit ds ≡ true) number_of_digits
own_digits = numerals_by_fold _ (search rules) (fold digit_more) (search rules)

fits : (most len : ℕ) → 1 ≤ len → len ≤ most → ((len == 0) ≡ false) × (nat_lt most len ≡ false)
fits most len some few = (grind (arith, nat_tests), grind (arith, nat_tests))

-- a number of so many digits at most is read as what it is
pub digits_back : (most n : ℕ) → 0 < most → most ≤ 10 → n < 10 ^ most → number_of most (decimal n) ≡ Some n
unfolding number_of
digits_back most n some few lt =
    let wide : n < 2 ^ 64 = small_enough most n few lt in
    let len = fits most (length (decimal n)) (decimal_some n) (length-decimal-le most n some lt wide) in
    rw (len.0, len.1, decimal_digits n) (ap Some (digits_value-decimal own_digits n wide))

pub number_back : (n : ℕ) → n < 1000000000 → number_of 9 (decimal n) ≡ Some n
number_back n lt = digits_back 9 n (omega arith) (omega arith) lt

stat_digits : (n : ℕ) (ds : List ℕ) → list_all is_digit ds ≡ true → number_of 9 ds ≡ Some n → stat_of ds ≡ Some (pos n)
unfolding stat_of number_of
stat_digits n [] h e = absurd cc
stat_digits n (d ∷ ds) h e = rw (no_minus d (and_parts (is_digit d) (list_all is_digit ds) h).0, e) refl

pub stat_back : (z : ℤ) → nat_abs z < 1000000000 → stat_of (signed_decimal z) ≡ Some z
unfolding stat_of
stat_back (pos n) lt = stat_digits n (decimal n) (decimal_digits n) (number_back n lt)
stat_back (negsuc n) lt = rw (number_back (suc n) lt) refl
