-- The numbers of the versions that pass a test: which they are, and what changes them.
use Rattle.std.proofs.Common.{◌≡◌, ◌<◌, ◌≤◌, ◌+◌, ◌∙◌, inl, inr, ℕ, zero, suc, Bool, true, false, if◌then◌else◌, Option, Some, None, List, [], ◌∷◌, ◌++◌, length, map, sym, ap, refl, subst, arith}
use Rattle.std.specs.List.{AllByRecursion}
use Rattle.catalog_rows.specs.Types.{Version}
use Rattle.catalog_rows.specs.Store.{numbers_where}
use Rattle.catalog_rows.specs.Numbers.{IsAscending}
use Rattle.catalog_rows.specs.Slots.{IsIn, slot_at, versions_in, numbers_at, slot_changed}
use Rattle.catalog_rows.proofs.Ascending.{all_more}

pub yes_at : (test : Version → Bool) (n : ℕ) (v : Version) (slots : List (Option Version)) → test v ≡ true → numbers_at test n (Some v ∷ slots) ≡ n ∷ numbers_at test (n + 1) slots
yes_at test n v slots is = ap (λ t. if t then n ∷ numbers_at test (n + 1) slots else numbers_at test (n + 1) slots) is

pub no_at : (test : Version → Bool) (n : ℕ) (v : Version) (slots : List (Option Version)) → test v ≡ false → numbers_at test n (Some v ∷ slots) ≡ numbers_at test (n + 1) slots
no_at test n v slots is = ap (λ t. if t then n ∷ numbers_at test (n + 1) slots else numbers_at test (n + 1) slots) is

-- each version has a number
pub numbers_each : (n : ℕ) (slots : List (Option Version)) → length (numbers_at (λ v. true) n slots) ≡ length (versions_in slots)
numbers_each n [] = refl
numbers_each n (None ∷ slots) = numbers_each (n + 1) slots
numbers_each n (Some v ∷ slots) = ap suc (numbers_each (n + 1) slots)

-- the numbers in two lists of slots
pub numbers_at-append : (test : Version → Bool) (n : ℕ) (xs ys : List (Option Version)) → numbers_at test n (xs ++ ys) ≡ numbers_at test n xs ++ numbers_at test (n + length xs) ys
numbers_at-append test n [] ys = ap (λ k. numbers_at test k ys) (omega arith)
numbers_at-append test n (None ∷ xs) ys =
    let far : n + 1 + length xs ≡ n + suc (length xs) = omega arith in
    numbers_at-append test (n + 1) xs ys ∙ ap (λ k. numbers_at test (n + 1) xs ++ numbers_at test k ys) far
numbers_at-append test n (Some v ∷ xs) ys = by (test v) refl (numbers_at-append test (n + 1) xs ys ∙ ap (λ k. numbers_at test (n + 1) xs ++ numbers_at test k ys) far)
  where
    far : n + 1 + length xs ≡ n + suc (length xs)
    far = omega arith

    by : (t : Bool) → test v ≡ t → numbers_at test (n + 1) (xs ++ ys) ≡ numbers_at test (n + 1) xs ++ numbers_at test (n + suc (length xs)) ys
        → numbers_at test n (Some v ∷ (xs ++ ys)) ≡ numbers_at test n (Some v ∷ xs) ++ numbers_at test (n + suc (length xs)) ys
    by true is rest = yes_at test n v (xs ++ ys) is ∙ ap (λ l. n ∷ l) rest ∙ sym (ap (λ l. l ++ numbers_at test (n + suc (length xs)) ys) (yes_at test n v xs is))
    by false is rest = no_at test n v (xs ++ ys) is ∙ rest ∙ sym (ap (λ l. l ++ numbers_at test (n + suc (length xs)) ys) (no_at test n v xs is))

-- they begin with the first and are below the one after the last
pub numbers_from_first : (test : Version → Bool) (n : ℕ) (slots : List (Option Version)) → AllByRecursion (λ m. n ≤ m) (numbers_at test n slots)
numbers_from_first test n [] = tt
numbers_from_first test n (None ∷ slots) = all_more (λ m. n + 1 ≤ m) (λ m. n ≤ m) (numbers_at test (n + 1) slots) (λ m le. omega (arith, le)) (numbers_from_first test (n + 1) slots)
numbers_from_first test n (Some v ∷ slots) = by (test v) refl (all_more (λ m. n + 1 ≤ m) (λ m. n ≤ m) (numbers_at test (n + 1) slots) (λ m le. omega (arith, le)) (numbers_from_first test (n + 1) slots))
  where
    by : (t : Bool) → test v ≡ t → AllByRecursion (λ m. n ≤ m) (numbers_at test (n + 1) slots) → AllByRecursion (λ m. n ≤ m) (numbers_at test n (Some v ∷ slots))
    by true is rest = subst (AllByRecursion (λ m. n ≤ m)) (sym (yes_at test n v slots is)) (omega arith, rest)
    by false is rest = subst (AllByRecursion (λ m. n ≤ m)) (sym (no_at test n v slots is)) rest

pub numbers_below_last : (test : Version → Bool) (n : ℕ) (slots : List (Option Version)) → AllByRecursion (λ m. m < n + length slots) (numbers_at test n slots)
numbers_below_last test n [] = tt
numbers_below_last test n (None ∷ slots) = all_more (λ m. m < n + 1 + length slots) (λ m. m < n + suc (length slots)) (numbers_at test (n + 1) slots) (λ m lt. omega (arith, lt)) (numbers_below_last test (n + 1) slots)
numbers_below_last test n (Some v ∷ slots) = by (test v) refl (all_more (λ m. m < n + 1 + length slots) (λ m. m < n + suc (length slots)) (numbers_at test (n + 1) slots) (λ m lt. omega (arith, lt)) (numbers_below_last test (n + 1) slots))
  where
    by : (t : Bool) → test v ≡ t → AllByRecursion (λ m. m < n + suc (length slots)) (numbers_at test (n + 1) slots) → AllByRecursion (λ m. m < n + suc (length slots)) (numbers_at test n (Some v ∷ slots))
    by true is rest = subst (AllByRecursion (λ m. m < n + suc (length slots))) (sym (yes_at test n v slots is)) (omega arith, rest)
    by false is rest = subst (AllByRecursion (λ m. m < n + suc (length slots))) (sym (no_at test n v slots is)) rest

pub numbers_within : (test : Version → Bool) (slots : List (Option Version)) (last : ℕ) → last ≡ length slots → AllByRecursion (λ m. (0 < m) × (m ≤ last)) (numbers_at test 1 slots)
numbers_within test slots last is = both (numbers_at test 1 slots) (numbers_from_first test 1 slots) (numbers_below_last test 1 slots)
  where
    both : (xs : List ℕ) → AllByRecursion (λ m. 1 ≤ m) xs → AllByRecursion (λ m. m < 1 + length slots) xs → AllByRecursion (λ m. (0 < m) × (m ≤ last)) xs
    both [] from below = tt
    both (x ∷ xs) from below = ((omega (arith, from.0), omega (arith, below.0, is)), both xs from.1 below.1)

pub above_first : (test : Version → Bool) (n : ℕ) (slots : List (Option Version)) → AllByRecursion (λ m. n < m) (numbers_at test (n + 1) slots)
above_first test n slots = all_more (λ m. n + 1 ≤ m) (λ m. n < m) (numbers_at test (n + 1) slots) (λ m le. omega (arith, le)) (numbers_from_first test (n + 1) slots)

pub numbers_ascending : (test : Version → Bool) (n : ℕ) (slots : List (Option Version)) → IsAscending (numbers_at test n slots)
numbers_ascending test n [] = tt
numbers_ascending test n (None ∷ slots) = numbers_ascending test (n + 1) slots
numbers_ascending test n (Some v ∷ slots) = by (test v) refl (numbers_ascending test (n + 1) slots)
  where
    by : (t : Bool) → test v ≡ t → IsAscending (numbers_at test (n + 1) slots) → IsAscending (numbers_at test n (Some v ∷ slots))
    by true is rest = subst IsAscending (sym (yes_at test n v slots is)) (above_first test n slots, rest)
    by false is rest = subst IsAscending (sym (no_at test n v slots is)) rest

-- steps that leave what the test reads
pub numbers_at-map : (test : Version → Bool) (f : Version → Version) → ((v : Version) → test (f v) ≡ test v) → (n : ℕ) (slots : List (Option Version)) → numbers_at test n (map (slot_changed f) slots) ≡ numbers_at test n slots
numbers_at-map test f same n [] = refl
numbers_at-map test f same n (None ∷ slots) = numbers_at-map test f same (n + 1) slots
numbers_at-map test f same n (Some v ∷ slots) = (λ i. if same v i then n ∷ numbers_at-map test f same (n + 1) slots i else numbers_at-map test f same (n + 1) slots i)

-- a version that passes is among them
pub has_number : (test : Version → Bool) (n : ℕ) (slots : List (Option Version)) (j : ℕ) (v : Version) → slot_at slots j ≡ Some v → test v ≡ true → IsIn (n + j) (numbers_at test n slots)
has_number test n [] j v at is = let never : None ≡ Some v = at in absurd (cc)
has_number test n (None ∷ slots) zero v at is = let never : None ≡ Some v = at in absurd (cc)
has_number test n (None ∷ slots) (suc j) v at is = let far : n + 1 + j ≡ n + suc j = omega arith in subst (λ k. IsIn k (numbers_at test (n + 1) slots)) far (has_number test (n + 1) slots j v at is)
has_number test n (Some w ∷ slots) zero v at is =
    let same : w ≡ v = cc in
    let here : n + 0 ≡ n = omega arith in
    subst (IsIn (n + 0)) (sym (yes_at test n w slots (ap test same ∙ is))) (inl here)
has_number test n (Some w ∷ slots) (suc j) v at is = by (test w) refl (subst (λ k. IsIn k (numbers_at test (n + 1) slots)) far (has_number test (n + 1) slots j v at is))
  where
    far : n + 1 + j ≡ n + suc j
    far = omega arith

    by : (t : Bool) → test w ≡ t → IsIn (n + suc j) (numbers_at test (n + 1) slots) → IsIn (n + suc j) (numbers_at test n (Some w ∷ slots))
    by true is_one rest = subst (IsIn (n + suc j)) (sym (yes_at test n w slots is_one)) (inr rest)
    by false is_none rest = subst (IsIn (n + suc j)) (sym (no_at test n w slots is_none)) rest

-- the numbers of the versions that pass, from the numbers of all
pub numbers_where_at : (test : Version → Bool) (n : ℕ) (slots : List (Option Version)) → numbers_where test (versions_in slots) (numbers_at (λ v. true) n slots) ≡ numbers_at test n slots
numbers_where_at test n [] = refl
numbers_where_at test n (None ∷ slots) = numbers_where_at test (n + 1) slots
numbers_where_at test n (Some v ∷ slots) = ap (λ l. if test v then n ∷ l else l) (numbers_where_at test (n + 1) slots)

pub numbers_at-agree : (f g : Version → Bool) → ((v : Version) → f v ≡ g v) → (n : ℕ) (slots : List (Option Version)) → numbers_at f n slots ≡ numbers_at g n slots
numbers_at-agree f g same n slots = ap (λ test. numbers_at test n slots) (λ i v. same v i)
