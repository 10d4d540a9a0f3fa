-- A single value that is read is spelled so, and what is spelled so is read.
use Rattle.std.proofs.Common.{◌≡◌, ℕ, ◌^◌, ◌<◌, Bool, true, false, cond, ltb, leb, ◌&&◌, ◌||◌, ◌⊎◌, inl, inr, List, [], ◌∷◌, Option, Some, None, Result, Ok, Err, refl, sym, ap, subst, ◌∙◌, arith, rules, codes, decimal, fold}
use Rattle.std.specs.Prelude.{is_none, IfOk, IfErr}
use Rattle.std.specs.Result.{result_ok}
use Rattle.std.specs.List.{list_all}
use Rattle.std.specs.Str.{bytes_eq}
use Rattle.std.proofs.lemmas.Slice.Eq.{bytes_eq-Decides}
use Rattle.std.proofs.lemmas.List.Sums.{list_all-from_AllPass}
use Rattle.std.proofs.lemmas.List.Folds.{list_all-append}
use Rattle.std.proofs.lemmas.Bool.Decides.{nat_tests}
use Rattle.std.proofs.lemmas.Str.Parse.{IsNumeralModel, numerals_by_fold}
use Rattle.std.proofs.lemmas.Fmt.{digits_decimal, digits_value-decimal}
use Rattle.base_types.specs.Names.{digit_more, number_of_digits, is_digit, is_name_byte, is_word_byte, is_text_byte, short_fault, name_fault, dropped_name, IsWord, IsText, IsDropped, IsDroppedName, IsAnyName}
use Rattle.event_kinds.specs.Events.{NameFault}
use Rattle.base_types.proofs.Names.{name_parts, word_parts, text_parts}
use Rattle.base_types.proofs.DroppedNumbers.{shown}
use Rattle.event_kinds.specs.Entries.{IsNumber}
use Rattle.event_kinds.specs.Reading.{in_token, number_of, shown_digits, is_dropped_name, any_name_of, word_of, check_text_of, worded}
use Rattle.event_kinds.proofs.Spelling.{passed, both, Values}

-- a test that each byte passes passes each byte of the list
all_by : (p q : ℕ → Bool) → ((byte : ℕ) → p byte ≡ true → q byte ≡ true) → (text : List ℕ) → list_all p text ≡ true → list_all q text ≡ true
all_by p q each [] h = refl
all_by p q each (byte ∷ bytes) h =
    let parts = both (p byte) (list_all p bytes) h in
    rw (each byte parts.0, all_by p q each bytes parts.1) refl

bytes_same : (a b : List ℕ) → bytes_eq a b ≡ true → a ≡ b
bytes_same a b e = (bytes_eq-Decides a b).0 e

bytes_eq-refl : (a : List ℕ) → bytes_eq a a ≡ true
bytes_eq-refl a = (bytes_eq-Decides a a).1 refl

-- ---- numbers

own_digits : IsNumeralModel (λ ds. list_all is_digit ds ≡ true) number_of_digits
own_digits = numerals_by_fold _ (search rules) (fold digit_more) (search rules)

pub digits_pass : (n : ℕ) → IsNumber n → list_all is_digit (decimal n) ≡ true
digits_pass n h = digits_decimal own_digits n (omega arith)

pub value_of_decimal : (n : ℕ) → IsNumber n → number_of_digits (decimal n) ≡ n
value_of_decimal n h = digits_value-decimal own_digits n (omega arith)

pub digit_in_token : (byte : ℕ) → is_digit byte ≡ true → in_token byte ≡ true
digit_in_token byte h = grind (arith, nat_tests)

pub number_takes : (text : List ℕ) (n : ℕ) → number_of text ≡ Some n → (text ≡ decimal n) × IsNumber n
unfolding number_of
number_takes text n e =
    let v = number_of_digits text in
    let p = passed (bytes_eq (decimal v) text && ltb v (2 ^ 32)) v n e in
    let tests = both (bytes_eq (decimal v) text) (ltb v (2 ^ 32)) p.0 in
    let small : v < 2 ^ 32 = grind (arith, nat_tests, tests.1) in
    subst (λ (m : ℕ). (text ≡ decimal m) × (m < 2 ^ 32)) p.1 (sym (bytes_same (decimal v) text tests.0), small)

pub number_again : (n : ℕ) → IsNumber n → number_of (decimal n) ≡ Some n
unfolding number_of
number_again n h =
    let small : ltb n (2 ^ 32) ≡ true = grind (arith, nat_tests) in
    rw (value_of_decimal n h, bytes_eq-refl (decimal n), small) refl

pub number_values : Values in_token decimal IsNumber number_of
number_values = record { takes = number_takes; again = number_again; pass = λ n h. all_by is_digit in_token digit_in_token (decimal n) (digits_pass n h) }

pub digits_values : Values is_digit decimal IsNumber number_of
digits_values = record { takes = number_takes; again = number_again; pass = digits_pass }

-- ---- names, words and texts

no_fault : {X : Type 0} (o : Option X) → is_none o ≡ true → o ≡ None
no_fault None h = refl
no_fault (Some x) h = absurd cc

either : (a b : Bool) → a || b ≡ true → (a ≡ true) ⊎ (b ≡ true)
either true b h = inl refl
either false b h = inr h

dropped_yes : (text : List ℕ) → is_dropped_name text ≡ true → IsDroppedName text
unfolding is_dropped_name
dropped_yes text h =
    let num = number_of_digits (shown_digits text) in
    let last = both (ltb 0 num && leb num 1600) (bytes_eq text (dropped_name num)) h in
    let first = both (ltb 0 num) (leb num 1600) last.0 in
    (num, record { some = grind (arith, nat_tests, first.0); most = grind (arith, nat_tests, first.1); is = bytes_same text (dropped_name num) last.1 })

dropped_again : (num : ℕ) (text : List ℕ) → IsDropped num text → is_dropped_name text ≡ true
unfolding is_dropped_name
dropped_again num text d =
    let some : ltb 0 num ≡ true = grind (arith, nat_tests, d.some) in
    let most : leb num 1600 ≡ true = grind (arith, nat_tests, d.most) in
    let same : bytes_eq text (dropped_name num) ≡ true = (bytes_eq-Decides text (dropped_name num)).1 d.is in
    rw (shown num text d, some, most, same) refl

name_is : (text : List ℕ) → is_none (name_fault text) || is_dropped_name text ≡ true → IsAnyName text
name_is text h = elim (either (is_none (name_fault text)) (is_dropped_name text) h) [
  | inl plain ↦ inl (no_fault (name_fault text) plain)
  | inr dropped ↦ inr (dropped_yes text dropped)
]

yes_or : (a b : Bool) → b ≡ true → a || b ≡ true
yes_or true b h = refl
yes_or false b h = h

pub name_test : (text : List ℕ) → IsAnyName text → is_none (name_fault text) || is_dropped_name text ≡ true
name_test text (inl plain) = rw plain refl
name_test text (inr dropped) = yes_or (is_none (name_fault text)) (is_dropped_name text) (dropped_again dropped.0 text dropped.1)

name_byte_in_token : (byte : ℕ) → is_name_byte byte ≡ true → in_token byte ≡ true
name_byte_in_token byte h = grind (arith, nat_tests)

word_byte_in_token : (byte : ℕ) → is_word_byte byte ≡ true → in_token byte ≡ true
word_byte_in_token byte h = grind (arith, nat_tests)

text_byte_in_token : (byte : ℕ) → is_text_byte byte ≡ true → in_token byte ≡ true
text_byte_in_token byte h = grind (arith, nat_tests)

dropped_pass : (num : ℕ) (text : List ℕ) → IsDropped num text → list_all in_token text ≡ true
dropped_pass num text d =
    let digits : list_all in_token (decimal num) ≡ true = all_by is_digit in_token digit_in_token (decimal num) (digits_pass num (omega (arith, d.most))) in
    rw (d.is, list_all-append in_token (decimal num) (codes "........"), digits) refl

name_pass : (text : List ℕ) → IsAnyName text → list_all in_token text ≡ true
name_pass text (inl plain) = all_by is_name_byte in_token name_byte_in_token text (list_all-from_AllPass is_name_byte text (name_parts text plain).bytes)
name_pass text (inr dropped) = dropped_pass dropped.0 text dropped.1

pub name_values : Values in_token (λ text. text) IsAnyName any_name_of
unfolding any_name_of
name_values = record {
  takes = λ bytes text e. let p = passed (is_none (name_fault bytes) || is_dropped_name bytes) bytes text e in
      (p.1, subst IsAnyName p.1 (name_is bytes p.0));
  again = λ text h. rw (name_test text h) refl;
  pass = name_pass;
}

pub word_values : Values in_token (λ text. text) IsWord word_of
unfolding word_of
word_values = record {
  takes = λ bytes text e. let p = passed (is_none (short_fault is_word_byte bytes)) bytes text e in
      (p.1, subst IsWord p.1 (no_fault (short_fault is_word_byte bytes) p.0));
  again = λ text h. rw h refl;
  pass = λ text h. all_by is_word_byte in_token word_byte_in_token text (list_all-from_AllPass is_word_byte text (word_parts text h).bytes);
}

pub text_values : Values in_token (λ text. text) IsText check_text_of
unfolding check_text_of
text_values = record {
  takes = λ bytes text e. let p = passed (is_none (short_fault is_text_byte bytes)) bytes text e in
      (p.1, subst IsText p.1 (no_fault (short_fault is_text_byte bytes) p.0));
  again = λ text h. rw h refl;
  pass = λ text h. all_by is_text_byte in_token text_byte_in_token text (list_all-from_AllPass is_text_byte text (text_parts text h).bytes);
}

-- ---- words of a list

found : {X : Type 0} (b : Bool) (x y : X) (other : Option X) (P : Type 0) → cond b (Some x) other ≡ Some y → (b ≡ true → x ≡ y → P) → (other ≡ Some y → P) → P
found true x y other P e k l = k refl cc
found false x y other P e k l = l e

worded_takes : {X : Type 0} (word : X → List ℕ) (xs : List X) (text : List ℕ) (x : X) → worded word xs text ≡ Some x → text ≡ word x
worded_takes word [] text x e = absurd cc
worded_takes word (y ∷ ys) text x e = found (bytes_eq (word y) text) y x (worded word ys text) (text ≡ word x) e
    (λ same is. sym (bytes_same (word y) text same) ∙ ap word is)
    (λ rest. worded_takes word ys text x rest)

-- a value is read of its word, whose bytes are those of a token
abbrev pub IsReadOfWord : {X : Type 0} → (X → List ℕ) → List X → X → Type 0
IsReadOfWord word xs x = (worded word xs (word x) ≡ Some x) × (list_all in_token (word x) ≡ true)

-- every value is in the list
pub worded_values : {X : Type 0} (word : X → List ℕ) (xs : List X) → ((x : X) → IsReadOfWord word xs x) → Values in_token word (λ x. Unit {0}) (worded word xs)
worded_values word xs each = record { takes = λ text x e. (worded_takes word xs text x e, tt); again = λ x h. (each x).0; pass = λ x h. (each x).1 }

-- ---- what constructors answer

never : (b : Bool) → (b ≡ true → ⊥) → b ≡ false
never true h = absurd (h refl)
never false h = refl

some_fault : {X : Type 0} (o : Option X) (x : X) → o ≡ Some x → is_none o ≡ false
some_fault o x e = rw e refl

pub name_found : (text : List ℕ) (r : Result (List ℕ) NameFault) → IfOk r (λ name. (name ≡ text) × IsAnyName text)
    → IfErr r (λ fault. (name_fault text ≡ Some fault) × (IsDroppedName text → ⊥)) → result_ok r ≡ any_name_of text
unfolding any_name_of
name_found text (Ok name) ok err = rw (name_test text ok.1, ok.0) refl
name_found text (Err fault) ok err =
    let dropped : is_dropped_name text ≡ false = never (is_dropped_name text) (λ yes. err.1 (dropped_yes text yes)) in
    rw (some_fault (name_fault text) fault err.0, dropped) refl

pub word_found : (text : List ℕ) (r : Result (List ℕ) NameFault) → IfOk r (λ word. (word ≡ text) × IsWord text)
    → IfErr r (λ fault. short_fault is_word_byte text ≡ Some fault) → result_ok r ≡ word_of text
unfolding word_of
word_found text (Ok word) ok err = rw (ok.1, ok.0) refl
word_found text (Err fault) ok err = rw (some_fault (short_fault is_word_byte text) fault err) refl

pub text_found : (text : List ℕ) (r : Result (List ℕ) NameFault) → IfOk r (λ made. (made ≡ text) × IsText text)
    → IfErr r (λ fault. short_fault is_text_byte text ≡ Some fault) → result_ok r ≡ check_text_of text
unfolding check_text_of
text_found text (Ok made) ok err = rw (ok.1, ok.0) refl
text_found text (Err fault) ok err = rw (some_fault (short_fault is_text_byte text) fault err) refl
