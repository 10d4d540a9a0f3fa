-- The number in a dropped column's name.
use Rattle.std.proofs.Common.{◌≡◌, ◌<◌, ◌≤◌, ◌+◌, ◌-◌, ◌∙◌, ℕ, true, fold, List, [], ◌∷◌, ◌++◌, length, take, drop, get_or, codes, decimal, ap, sym, subst, arith, rules}
use Rattle.std.specs.Str.{all_ascii_digits}
use Rattle.std.proofs.lemmas.List.{take_more, take-append-drop, length-append}
use Rattle.std.proofs.Math.Seq.{take-append_seam}
use Rattle.std.proofs.lemmas.List.Sums.{fold-append}
use Rattle.std.proofs.lemmas.Str.Parse.{IsNumeralModel, numerals_by_fold}
use Rattle.std.proofs.lemmas.Fmt.{digits_value-decimal, decimal_nonempty}
use Rattle.base_types.specs.Names.{digit_more, number_of_digits, IsDropped, IsDroppedName}

grows : (n : ℕ) (digits : List ℕ) → n ≤ fold digit_more n digits
grows n [] = omega arith
grows n (d ∷ digits) = omega (arith, grows (digit_more n d) digits)

prefix_below : (digits : List ℕ) (k : ℕ) → number_of_digits (take k digits) ≤ number_of_digits digits
prefix_below digits k =
    let whole : number_of_digits digits ≡ fold digit_more (number_of_digits (take k digits)) (drop k digits) =
    ap number_of_digits (sym (take-append-drop k digits)) ∙ fold-append digit_more 0 (take k digits) (drop k digits) in
    omega (arith, whole, grows (number_of_digits (take k digits)) (drop k digits))

pub over : (most : ℕ) (digits : List ℕ) (i number : ℕ) → i < length digits → number ≡ number_of_digits (take i digits)
    → most < digit_more number (get_or digits i 0) → most < number_of_digits digits
over most digits i number within same high =
    let byte = get_or digits i 0 in
    let one : number_of_digits (take (i + 1) digits) ≡ digit_more number byte =
    ap number_of_digits (take_more digits i 0 within) ∙ fold-append digit_more 0 (take i digits) (byte ∷ []) ∙ ap (λ n. digit_more n byte) (sym same) in
    omega (arith, prefix_below digits (i + 1), one, high)

own : IsNumeralModel (λ ds. all_ascii_digits ds ≡ true) number_of_digits
own = numerals_by_fold _ (search rules) (fold digit_more) (search rules)

number_of_decimal : (m : ℕ) → m ≤ 1600 → number_of_digits (decimal m) ≡ m
number_of_decimal m small = digits_value-decimal own m (omega arith)

-- the digits of a dropped column's number, if the text is such a name
abbrev pub shown_digits : List ℕ → List ℕ
shown_digits text = take (length text - 8 - 19) (drop 19 text)

pub long_enough : (m : ℕ) (text : List ℕ) → IsDropped m text → 28 ≤ length text
long_enough m text d = omega (arith, ap length d.is, length-append (decimal m) (codes "........"), decimal_nonempty m (omega (arith, d.most)))

digits_shown : (digits : List ℕ) → shown_digits (codes "........pg.dropped." ++ digits ++ codes "........") ≡ digits
digits_shown digits =
    let whole : List ℕ = codes "........pg.dropped." ++ digits ++ codes "........" in
    let e : length whole - 8 - 19 ≡ length digits = omega (arith, length-append digits (codes "........")) in
    ap (λ n. take n (drop 19 whole)) e ∙ take-append_seam digits (codes "........")

pub shown : (m : ℕ) (text : List ℕ) → IsDropped m text → number_of_digits (shown_digits text) ≡ m
shown m text d = ap (λ t. number_of_digits (shown_digits t)) d.is ∙ ap number_of_digits (digits_shown (decimal m)) ∙ number_of_decimal m d.most

pub not_this : (text : List ℕ) (num : ℕ) → ((m : ℕ) → IsDropped m text → m ≡ num) → (IsDropped num text → ⊥) → IsDroppedName text → ⊥
not_this text num same isnt d = isnt (subst (λ (n : ℕ). IsDropped n text) (same d.0 d.1) d.1)
