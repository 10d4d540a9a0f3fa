-- The number that digits write is below the power of ten of their count.
use Rattle.std.proofs.Common.{◌≡◌, ◌<◌, ◌≤◌, ℕ, true, false, ◌+◌, ◌-◌, ◌*◌, ◌^◌, nat_lt, fold, Option, Some, None, IfSome, IfNone, List, [], ◌∷◌, length, ap, arith}
use Rattle.std.specs.List.{list_all}
use Rattle.std.proofs.lemmas.Bool.{and_parts}
use Rattle.std.proofs.lemmas.Bool.Decides.{nat_tests}
use Rattle.std.proofs.lemmas.Grind.{pow_more}
use Rattle.std.proofs.Math.Nat.{pow-le-pow_right}
use Rattle.base_types.specs.Names.{is_digit, digit_more, number_of_digits}

is_below_ten : (byte : ℕ) → is_digit byte ≡ true → byte - 48 < 10
is_below_ten byte e = grind (arith, nat_tests)

one_more : (n i d : ℕ) → n < 10 ^ i → d < 10 → n * 10 + d < 10 ^ (i + 1)
one_more n i d lt small = omega (arith, pow_more 10 i)

more_digits : (n i : ℕ) (text : List ℕ) → n < 10 ^ i → list_all is_digit text ≡ true → fold digit_more n text < 10 ^ (i + length text)
more_digits n i [] lt h = let same : i + 0 ≡ i = omega arith in rw same lt
more_digits n i (b ∷ bs) lt h =
    let parts = and_parts (is_digit b) (list_all is_digit bs) h in
    let same : i + length (b ∷ bs) ≡ i + 1 + length bs = omega arith in
    rw same (more_digits (digit_more n b) (i + 1) bs (one_more n i (b - 48) lt (is_below_ten b parts.0)) parts.1)

pub at_most : (n most : ℕ) → nat_lt most n ≡ false → n ≤ most
at_most n most h = grind (arith, nat_tests)

-- at most so many digits
pub few_digits : (text : List ℕ) (most : ℕ) → length text ≤ most → list_all is_digit text ≡ true → number_of_digits text < 10 ^ most
few_digits text most few h =
    let below : number_of_digits text < 10 ^ length text = let same : 0 + length text ≡ length text = omega arith in rw same at (more_digits 0 0 text (omega arith) h) in
    let powers : 10 ^ length text ≤ 10 ^ most = pow-le-pow_right {n = 10} (omega arith) few in
    omega arith

-- ten digits at most write a number that is read up to the greatest of ten digits
pub number_is : (text : List ℕ) (found : Option ℕ) → length text ≤ 10 → list_all is_digit text ≡ true
    → IfSome found (λ n. (n ≡ number_of_digits text) × (n ≤ 9999999999)) → IfNone found (9999999999 < number_of_digits text) → found ≡ Some (number_of_digits text)
number_is text None few h some none = absurd (omega (arith, few_digits text 10 few h, none))
number_is text (Some n) few h some none = ap Some some.0
