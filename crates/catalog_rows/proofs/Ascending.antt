-- Ascending numbers, of which one is added at the end or taken out.
use Rattle.std.proofs.Common.{◌≡◌, ◌≢◌, ◌<◌, ◌==◌, ◌||◌, ◌&&◌, ◌∙◌, inl, inr, ℕ, Bool, true, false, not, cond, zero, suc, None, Some, List, [], ◌∷◌, ◌++◌, ◌+◌, ◌-◌, length, take, slice_get, filter, eq-eqb, ne_eqb, sym, ap, refl, subst, arith}
use Rattle.std.specs.List.{AllByRecursion}
use Rattle.catalog_rows.specs.Numbers.{IsAscending, added, removed}
use Rattle.catalog_rows.specs.Slots.{IsIn}

pub all_push : {X : Type 0} (P : X → Type 0) (xs : List X) (x : X) → AllByRecursion P xs → P x → AllByRecursion P (xs ++ x ∷ [])
all_push P [] x all is = (is, tt)
all_push P (y ∷ xs) x all is = (all.0, all_push P xs x all.1 is)

pub all_more : {X : Type 0} (P Q : X → Type 0) (xs : List X) → ((x : X) → P x → Q x) → AllByRecursion P xs → AllByRecursion Q xs
all_more P Q [] f all = tt
all_more P Q (x ∷ xs) f all = (f x all.0, all_more P Q xs f all.1)

pub all_in : {X : Type 0} (P : X → Type 0) (xs : List X) (x : X) → AllByRecursion P xs → IsIn x xs → P x
all_in P [] x all is = absurd is
all_in P (y ∷ xs) x all (inl same) = subst P (sym same) all.0
all_in P (y ∷ xs) x all (inr rest) = all_in P xs x all.1 rest

all_last : (P : ℕ → Type 0) (xs : List ℕ) (x : ℕ) → AllByRecursion P (xs ++ x ∷ []) → P x
all_last P [] x all = all.0
all_last P (y ∷ xs) x all = all_last P xs x all.1

all_filter : (P : ℕ → Type 0) (test : ℕ → Bool) (xs : List ℕ) → AllByRecursion P xs → AllByRecursion P (filter test xs)
all_filter P test [] all = tt
all_filter P test (x ∷ xs) all = by (test x) refl (all_filter P test xs all.1)
  where
    by : (t : Bool) → test x ≡ t → AllByRecursion P (filter test xs) → AllByRecursion P (filter test (x ∷ xs))
    by true is rest = subst (λ b. AllByRecursion P (cond b (x ∷ filter test xs) (filter test xs))) (sym is) (all.0, rest)
    by false is rest = subst (λ b. AllByRecursion P (cond b (x ∷ filter test xs) (filter test xs))) (sym is) rest

-- a number that isn't the one that is taken out
other_kept : (n x : ℕ) (xs : List ℕ) → x ≢ n → removed true n (x ∷ xs) ≡ x ∷ removed true n xs
other_kept n x xs apart = ap (λ b. cond (not b) (x ∷ removed true n xs) (removed true n xs)) (ne_eqb x n apart)

one_out : (n : ℕ) (xs : List ℕ) → removed true n (n ∷ xs) ≡ removed true n xs
one_out n xs = ap (λ b. cond (not b) (n ∷ removed true n xs) (removed true n xs)) (eq-eqb n n refl)

-- a number that is below, or above, all of these isn't there to be taken out
pub removed_below : (n : ℕ) (xs : List ℕ) → AllByRecursion (λ m. m < n) xs → removed true n xs ≡ xs
removed_below n [] all = refl
removed_below n (x ∷ xs) all = let apart : x ≢ n = omega (arith, all.0) in other_kept n x xs apart ∙ ap (λ l. x ∷ l) (removed_below n xs all.1)

pub removed_above : (n : ℕ) (xs : List ℕ) → AllByRecursion (λ m. n < m) xs → removed true n xs ≡ xs
removed_above n [] all = refl
removed_above n (x ∷ xs) all = let apart : x ≢ n = omega (arith, all.0) in other_kept n x xs apart ∙ ap (λ l. x ∷ l) (removed_above n xs all.1)

pub first_out : (n : ℕ) (xs : List ℕ) → AllByRecursion (λ m. n < m) xs → removed true n (n ∷ xs) ≡ xs
first_out n xs all = one_out n xs ∙ removed_above n xs all

pub later_out : (n x : ℕ) (xs : List ℕ) → x < n → removed true n (x ∷ xs) ≡ x ∷ removed true n xs
later_out n x xs lt = let apart : x ≢ n = omega (arith, lt) in other_kept n x xs apart

-- the last number is taken out
pub last_out : (xs : List ℕ) (n : ℕ) → IsAscending (xs ++ n ∷ []) → removed true n (xs ++ n ∷ []) ≡ xs
last_out [] n up = one_out n []
last_out (x ∷ xs) n up = later_out n x (xs ++ n ∷ []) (all_last (λ m. x < m) xs n up.0) ∙ ap (λ l. x ∷ l) (last_out xs n up.1)

pub ascending_push : (xs : List ℕ) (n : ℕ) → IsAscending xs → AllByRecursion (λ m. m < n) xs → IsAscending (xs ++ n ∷ [])
ascending_push [] n up all = (tt, tt)
ascending_push (x ∷ xs) n up all = (all_push (λ m. x < m) xs n up.0 all.0, ascending_push xs n up.1 all.1)

pub ascending_removed : (here : Bool) (n : ℕ) (xs : List ℕ) → IsAscending xs → IsAscending (removed here n xs)
ascending_removed false n xs up = up
ascending_removed true n [] up = tt
ascending_removed true n (x ∷ xs) up = by (x == n) refl (ascending_removed true n xs up.1)
  where
    by : (t : Bool) → (x == n) ≡ t → IsAscending (removed true n xs) → IsAscending (removed true n (x ∷ xs))
    by true is rest = subst (λ b. IsAscending (cond (not b) (x ∷ removed true n xs) (removed true n xs))) (sym is) rest
    by false is rest = subst (λ b. IsAscending (cond (not b) (x ∷ removed true n xs) (removed true n xs))) (sym is) (all_filter (λ m. x < m) (λ m. not (m == n)) xs up.0, rest)

-- a number that is taken out isn't there to be taken out again
removed_twice : (n : ℕ) (xs : List ℕ) → removed true n (removed true n xs) ≡ removed true n xs
removed_twice n [] = refl
removed_twice n (x ∷ xs) = by (x == n) refl (removed_twice n xs)
  where
    by : (t : Bool) → (x == n) ≡ t → removed true n (removed true n xs) ≡ removed true n xs → removed true n (removed true n (x ∷ xs)) ≡ removed true n (x ∷ xs)
    by true is rest =
        let out : removed true n (x ∷ xs) ≡ removed true n xs = ap (λ b. cond (not b) (x ∷ removed true n xs) (removed true n xs)) is in
        ap (removed true n) out ∙ rest ∙ sym out
    by false is rest =
        let kept : (ys : List ℕ) → removed true n (x ∷ ys) ≡ x ∷ removed true n ys = λ ys. ap (λ b. cond (not b) (x ∷ removed true n ys) (removed true n ys)) is in
        ap (removed true n) (kept xs) ∙ kept (removed true n xs) ∙ ap (λ l. x ∷ l) rest ∙ sym (kept xs)

-- added and taken out again
pub added_removed : (n : ℕ) (xs : List ℕ) → IsAscending xs → AllByRecursion (λ m. m < n) xs → removed true n (xs ++ n ∷ []) ≡ xs
added_removed n xs up all = last_out xs n (ascending_push xs n up all)

-- taken out at three places, of which one may be
pub removed_each : (a b d : Bool) (n : ℕ) (xs : List ℕ) → removed d n (removed b n (removed a n xs)) ≡ removed (a || (b || d)) n xs
removed_each false false d n xs = refl
removed_each false true false n xs = refl
removed_each false true true n xs = removed_twice n xs
removed_each true false false n xs = refl
removed_each true false true n xs = removed_twice n xs
removed_each true true false n xs = removed_twice n xs
removed_each true true true n xs = ap (removed true n) (removed_twice n xs) ∙ removed_twice n xs

pub append_none : {X : Type 0} (xs : List X) → xs ++ [] ≡ xs
append_none [] = refl
append_none (x ∷ xs) = ap (λ l. x ∷ l) (append_none xs)

-- added at two places, of which at most one is
pub added_both : (a b : Bool) (n : ℕ) (xs : List ℕ) → (a && b) ≡ false → added b n (added a n xs) ≡ added (a || b) n xs
added_both true true n xs ab = absurd (cc)
added_both true false n xs ab = append_none (xs ++ n ∷ [])
added_both false true n xs ab = ap (λ l. l ++ n ∷ []) (append_none xs)
added_both false false n xs ab = append_none (xs ++ [])

-- added at three places, of which at most one is
pub added_each : (a b d : Bool) (n : ℕ) (xs : List ℕ) → (a && b) ≡ false → (a && d) ≡ false → (b && d) ≡ false → added d n (added b n (added a n xs)) ≡ added (a || (b || d)) n xs
added_each true true d n xs ab ad bd = absurd (cc)
added_each true false true n xs ab ad bd = absurd (cc)
added_each true false false n xs ab ad bd = append_none ((xs ++ n ∷ []) ++ []) ∙ append_none (xs ++ n ∷ [])
added_each false true true n xs ab ad bd = absurd (cc)
added_each false true false n xs ab ad bd = append_none ((xs ++ []) ++ n ∷ []) ∙ ap (λ l. l ++ n ∷ []) (append_none xs)
added_each false false true n xs ab ad bd = ap (λ l. l ++ n ∷ []) (append_none (xs ++ []) ∙ append_none xs)
added_each false false false n xs ab ad bd = append_none ((xs ++ []) ++ []) ∙ append_none (xs ++ [])

last_parts : (xs : List ℕ) (m n : ℕ) → m + 1 ≡ length xs → slice_get xs m ≡ Some n → xs ≡ take m xs ++ n ∷ []
last_parts [] m n long is = absurd (omega (arith, long))
last_parts (x ∷ []) zero n long is = let same : x ≡ n = cc in ap (λ y. y ∷ []) same
last_parts (x ∷ y ∷ ys) zero n long is = absurd (omega (arith, long))
last_parts (x ∷ xs) (suc m) n long is = ap (λ l. x ∷ l) (last_parts xs m n (omega (arith, long)) is)

-- what is left before the last number
pub popped : (old new : List ℕ) (number : ℕ) → IsAscending old → new ≡ take (length old - 1) old → slice_get old (length old - 1) ≡ Some number → new ≡ removed true number old
popped [] new number up rest is = let never : None ≡ Some number = is in absurd (cc)
popped (x ∷ xs) new number up rest is =
    let longer : x ∷ xs ≡ take (length (x ∷ xs) - 1) (x ∷ xs) ++ number ∷ [] = last_parts (x ∷ xs) (length (x ∷ xs) - 1) number (omega arith) is in
    rest ∙ sym (last_out (take (length (x ∷ xs) - 1) (x ∷ xs)) number (subst IsAscending longer up)) ∙ sym (ap (removed true number) longer)
