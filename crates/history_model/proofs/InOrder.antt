-- The answer of a scan in order of number doesn't depend on the order in which its rows are found.
use Rattle.std.proofs.Common.{◌≡◌, ◌<◌, ◌∙◌, ◌⊎◌, inl, inr, ℕ, zero, suc, Bool, true, false, List, [], ◌∷◌, fold, map, filter, refl, sym, ap, subst, arith}
use Rattle.std.specs.Prelude.{⊤}
use Rattle.std.specs.List.{AllByRecursion, insert, list_any, position_or_len}
use Rattle.std.proofs.lemmas.Bool.{ltb-false, cases_order, or_left, or_right}
use Rattle.base_types.specs.declared.row.Row.{Row}
use Rattle.base_types.specs.declared.scan.Purpose.{Purpose}
use Rattle.base_types.specs.Scans.{selects, row_number, number_before, goes_before, put_in_order, scan_of, IsInOrder}
use Rattle.base_types.proofs.ScanOrder.{scan_of-answers}
use Rattle.history_model.proofs.Every.{every-weaker, every, every-map, every-both, SomeOf, some-map, from_some}
use Rattle.history_model.proofs.Seen.{Pairwise}

-- an element of the list
abbrev pub IsIn : {X : Type 0} → X → List X → Type 0
IsIn x xs = SomeOf (λ y. x ≡ y) xs

pub every_self : {X : Type 0} (xs : List X) → AllByRecursion (λ x. IsIn x xs) xs
every_self [] = tt
every_self (x ∷ xs) = (inl refl, every-weaker (λ y. IsIn y xs) (λ y. IsIn y (x ∷ xs)) (λ y there. inr there) xs (every_self xs))

-- what holds of each holds of it, and a test that it passes some passes
pub of_in : {X : Type 0} (P : X → Type 0) (x : X) (xs : List X) → AllByRecursion P xs → IsIn x xs → P x
of_in P x xs all there = from_some (λ y. x ≡ y) (P x) xs (every-weaker P (λ y. x ≡ y → P x) (λ y is same. subst P (sym same) is) xs all) there

pub any_in : {X : Type 0} (p : X → Bool) (x : X) (xs : List X) → IsIn x xs → p x ≡ true → list_any p xs ≡ true
any_in p x [] there is = absurd there
any_in p x (y ∷ xs) (inl same) is = or_left (p y) (list_any p xs) (ap p (sym same) ∙ is)
any_in p x (y ∷ xs) (inr later) is = or_right (p y) (list_any p xs) (any_in p x xs later is)

-- two rows have different numbers
abbrev pub Differ : Row → Row → Type 0
Differ row other = row_number row ≡ row_number other → ⊥

-- each row has a smaller number than those after it
abbrev pub Rises : List Row → Type 0
Rises = Pairwise (λ row other. row_number row < row_number other)

-- a row put somewhere
pub every_inserted : (P : Row → Type 0) (given : List Row) (n : ℕ) (row : Row) → AllByRecursion P given → P row → AllByRecursion P (insert given n row)
every_inserted P given zero row all one = (one, all)
every_inserted P [] (suc n) row all one = (one, all)
every_inserted P (x ∷ given) (suc n) row all one = (all.0, every_inserted P given n row all.1 one)

in_inserted : (P : Row → Type 0) (given : List Row) (n : ℕ) (row : Row) → P row ⊎ SomeOf P given → SomeOf P (insert given n row)
in_inserted P given zero row some = some
in_inserted P [] (suc n) row (inl here) = inl here
in_inserted P [] (suc n) row (inr there) = absurd there
in_inserted P (x ∷ given) (suc n) row (inl here) = inr (in_inserted P given n row (inl here))
in_inserted P (x ∷ given) (suc n) row (inr (inl there)) = inl there
in_inserted P (x ∷ given) (suc n) row (inr (inr later)) = inr (in_inserted P given n row (inr later))

pub pair_inserted : (R : Row → Row → Type 0) → ((row other : Row) → R row other → R other row) → (given : List Row) (n : ℕ) (row : Row) → Pairwise R given → AllByRecursion (R row) given → Pairwise R (insert given n row)
pair_inserted R back given zero row pairs all = (all, pairs)
pair_inserted R back [] (suc n) row pairs all = (tt, tt)
pair_inserted R back (x ∷ given) (suc n) row pairs all = (every_inserted (R x) given n row pairs.0 (back row x all.0), pair_inserted R back given n row pairs.1 all.1)

-- what a scan gives has what it found
pub every_given : (P : Row → Type 0) (d : Purpose) (given rows : List Row) → AllByRecursion P given → AllByRecursion P rows → AllByRecursion P (fold (put_in_order d) given rows)
every_given P d given [] all also = all
every_given P d given (row ∷ rows) all also = every_given P d (put_in_order d given row) rows (every_inserted P given (position_or_len (goes_before d row) given) row all also.0) also.1

pub some_given : (P : Row → Type 0) (d : Purpose) (given rows : List Row) → SomeOf P given ⊎ SomeOf P rows → SomeOf P (fold (put_in_order d) given rows)
some_given P d given [] (inl there) = there
some_given P d given [] (inr none) = absurd none
some_given P d given (row ∷ rows) (inl there) = some_given P d (put_in_order d given row) rows (inl (in_inserted P given (position_or_len (goes_before d row) given) row (inr there)))
some_given P d given (row ∷ rows) (inr (inl here)) = some_given P d (put_in_order d given row) rows (inl (in_inserted P given (position_or_len (goes_before d row) given) row (inl here)))
some_given P d given (row ∷ rows) (inr (inr later)) = some_given P d (put_in_order d given row) rows (inr later)

pair_with : (R : Row → Row → Type 0) → ((row other : Row) → R row other → R other row) → (d : Purpose) (given rows : List Row) → Pairwise R given → AllByRecursion (λ row. AllByRecursion (R row) given) rows → Pairwise R rows → Pairwise R (fold (put_in_order d) given rows)
pair_with R back d given [] pairs apart also = pairs
pair_with R back d given (row ∷ rows) pairs apart also =
    pair_with R back d (put_in_order d given row) rows (pair_inserted R back given (position_or_len (goes_before d row) given) row pairs apart.0)
    (every-weaker (λ x. AllByRecursion (R x) given × R row x) (λ x. AllByRecursion (R x) (put_in_order d given row))
    (λ x h. every_inserted (R x) given (position_or_len (goes_before d row) given) row h.0 (back row x h.1)) rows
    (every-both (λ x. AllByRecursion (R x) given) (R row) rows apart.1 also.0)) also.1

-- what holds of each two rows, in either order, holds of each two that a scan gives of them
pub pair_given : (R : Row → Row → Type 0) → ((row other : Row) → R row other → R other row) → (d : Purpose) (rows : List Row) → Pairwise R rows → Pairwise R (fold (put_in_order d) [] rows)
pair_given R back d rows pairs = pair_with R back d [] rows tt (every (λ row. ⊤) (λ row. tt) rows) pairs

-- rows in order whose numbers differ
in_order_rises : (given : List Row) → IsInOrder number_before given → Pairwise Differ given → Rises given
in_order_rises [] order pairs = tt
in_order_rises (row ∷ given) order pairs = (
  every-weaker (λ x. (number_before x row ≡ false) × Differ row x) (λ x. row_number row < row_number x) (λ x h. below x h.0 h.1) given (every-both (λ x. number_before x row ≡ false) (Differ row) given order.0 pairs.0),
  in_order_rises given order.1 pairs.1,
)
  where
    below : (x : Row) → number_before x row ≡ false → Differ row x → row_number row < row_number x
    below x not_before differ = of (cases_order (row_number row) (row_number x))
      where
        of : (row_number row ≡ row_number x) ⊎ ((row_number row < row_number x) ⊎ (row_number x < row_number row)) → row_number row < row_number x
        of (inl same) = absurd (differ same)
        of (inr (inl less)) = less
        of (inr (inr more)) = absurd (omega (arith, more, ltb-false (row_number x) (row_number row) not_before))

-- and rows of one number whose numbers differ: there is one at most
one_rises : (n : ℕ) (given : List Row) → AllByRecursion (λ row. row_number row ≡ n) given → Pairwise Differ given → Rises given
one_rises n [] all pairs = tt
one_rises n (row ∷ given) all pairs = (
  every-weaker (λ x. (row_number x ≡ n) × Differ row x) (λ x. row_number row < row_number x) (λ x h. absurd (h.1 (all.0 ∙ sym h.0))) given (every-both (λ x. row_number x ≡ n) (Differ row) given all.1 pairs.0),
  one_rises n given all.1 pairs.1,
)

-- two rising lists with the same elements are one
rising_same : (xs ys : List Row) → Rises xs → Rises ys → AllByRecursion (λ x. IsIn x ys) xs → AllByRecursion (λ y. IsIn y xs) ys → xs ≡ ys
rising_same [] [] up up' all also = refl
rising_same [] (y ∷ ys) up up' all also = absurd also.0
rising_same (x ∷ xs) [] up up' all also = absurd all.0
rising_same (x ∷ xs) (y ∷ ys) up up' all also =
    ap (λ z. z ∷ xs) first ∙ ap (λ zs. y ∷ zs)
    (rising_same xs ys up.1 up'.1 (rest xs ys x y (λ z above. omega (arith, above, ap row_number first)) up.0 all.1)
    (rest ys xs y x (λ z above. omega (arith, above, ap row_number first)) up'.0 also.1))
  where
    above : (z : Row) (zs : List Row) (w : Row) → AllByRecursion (λ v. row_number z < row_number v) zs → IsIn w zs → row_number z < row_number w
    above z zs w all' is = from_some (λ v. w ≡ v) (row_number z < row_number w) zs (every-weaker (λ v. row_number z < row_number v) (λ v. w ≡ v → row_number z < row_number w) (λ v less same. subst (λ u. row_number z < row_number u) (sym same) less) zs all') is

    of : (x ≡ y) ⊎ IsIn x ys → (y ≡ x) ⊎ IsIn y xs → x ≡ y
    of (inl same) other = same
    of (inr later) (inl same) = sym same
    of (inr later) (inr also') = absurd (omega (arith, above y ys x up'.0 later, above x xs y up.0 also'))

    first : x ≡ y
    first = of all.0 also.0

    rest : (zs ws : List Row) (z w : Row) → ((v : Row) → row_number z < row_number v → row_number w < row_number v) → AllByRecursion (λ v. row_number z < row_number v) zs → AllByRecursion (λ v. IsIn v (w ∷ ws)) zs → AllByRecursion (λ v. IsIn v ws) zs
    rest [] ws z w lower less in_ = tt
    rest (v ∷ zs) ws z w lower less in_ = (tail (less.0) in_.0, rest zs ws z w lower less.1 in_.1)
      where
        tail : row_number z < row_number v → (v ≡ w) ⊎ IsIn v ws → IsIn v ws
        tail low (inl same) = absurd (omega (arith, lower v low, ap row_number same))
        tail low (inr later) = later

rises-map : (f : Row → Row) → ((row : Row) → row_number (f row) ≡ row_number row) → (xs : List Row) → Rises xs → Rises (map f xs)
rises-map f same [] up = tt
rises-map f same (x ∷ xs) up = (firsts xs up.0, rises-map f same xs up.1)
  where
    firsts : (ys : List Row) → AllByRecursion (λ y. row_number x < row_number y) ys → AllByRecursion (λ y. row_number (f x) < row_number y) (map f ys)
    firsts [] all = tt
    firsts (y ∷ ys) all = (omega (arith, all.0, same x, same y), firsts ys all.1)

-- a scan that gives its rows in order of number, or asks for rows of one number
abbrev pub IsByNumber : Purpose → List Row → Type 0
IsByNumber d rows = ((row other : Row) → goes_before d row other ≡ number_before row other) ⊎ ((n : ℕ) × AllByRecursion (λ row. row_number row ≡ n) rows)

in_order_by : (before other : Row → Row → Bool) → ((row x : Row) → before row x ≡ other row x) → (given : List Row) → IsInOrder before given → IsInOrder other given
in_order_by before other same [] order = tt
in_order_by before other same (row ∷ given) order = (every-weaker (λ x. before x row ≡ false) (λ x. other x row ≡ false) (λ x is. sym (same x row) ∙ is) given order.0, in_order_by before other same given order.1)

-- what such a scan gives rises, where the numbers of its rows differ
pub given_rises : (d : Purpose) (rows : List Row) → IsInOrder (goes_before d) (fold (put_in_order d) [] rows) → IsByNumber d rows → Pairwise Differ rows → Rises (fold (put_in_order d) [] rows)
given_rises d rows order by_number pairs = of by_number
  where
    apart : Pairwise Differ (fold (put_in_order d) [] rows)
    apart = pair_given Differ (λ row other differ same. differ (sym same)) d rows pairs

    of : IsByNumber d rows → Rises (fold (put_in_order d) [] rows)
    of (inl numbered) = in_order_rises (fold (put_in_order d) [] rows) (in_order_by (goes_before d) number_before numbered (fold (put_in_order d) [] rows) order) apart
    of (inr one) = one_rises one.0 (fold (put_in_order d) [] rows) (every_given (λ row. row_number row ≡ one.0) d [] rows tt one.1) apart

-- two scans of rows that agree but for what a function takes away, each with different numbers, give the same but for that
pub scan_same : (d : Purpose) (f : Row → Row) → ((row : Row) → row_number (f row) ≡ row_number row) → (seen other : List Row)
    → IsByNumber d (filter (selects d) seen) → IsByNumber d (filter (selects d) other) → Pairwise Differ (filter (selects d) seen) → Pairwise Differ (filter (selects d) other)
    → AllByRecursion (λ x. SomeOf (λ y. f x ≡ f y) (filter (selects d) other)) (filter (selects d) seen) → AllByRecursion (λ y. SomeOf (λ x. f y ≡ f x) (filter (selects d) seen)) (filter (selects d) other)
    → map f (scan_of d seen) ≡ map f (scan_of d other)
scan_same d f same seen other num num' differ differ' all also =
    rising_same (map f (scan_of d seen)) (map f (scan_of d other)) (rises seen num differ) (rises other num' differ') (found seen other all) (found other seen also)
  where
    rises : (rows : List Row) → IsByNumber d (filter (selects d) rows) → Pairwise Differ (filter (selects d) rows) → Rises (map f (scan_of d rows))
    rises rows by_number apart = rises-map f same (scan_of d rows) (given_rises d (filter (selects d) rows) (scan_of-answers d rows).order by_number apart)

    found : (rows others : List Row) → AllByRecursion (λ x. SomeOf (λ y. f x ≡ f y) (filter (selects d) others)) (filter (selects d) rows) → AllByRecursion (λ z. IsIn z (map f (scan_of d others))) (map f (scan_of d rows))
    found rows others some = every-map (λ z. IsIn z (map f (scan_of d others))) f (scan_of d rows)
        (every_given (λ x. IsIn (f x) (map f (scan_of d others))) d [] (filter (selects d) rows) tt
        (every-weaker (λ x. SomeOf (λ y. f x ≡ f y) (filter (selects d) others)) (λ x. IsIn (f x) (map f (scan_of d others)))
        (λ x is. some-map (λ y. f x ≡ y) f (scan_of d others) (some_given (λ y. f x ≡ f y) d [] (filter (selects d) others) (inr is))) (filter (selects d) rows) some))
