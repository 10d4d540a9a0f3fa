-- Filters, one after another.
use Rattle.std.proofs.Common.{◌≡◌, ◌∙◌, Bool, true, false, cond, Some, List, [], ◌∷◌, filter, sym, ap, refl}
use Rattle.std.specs.List.{find}

-- what is sought among those that pass a test is found there, if it passes the test
pub find-filter : {X : Type 0} (sought test : X → Bool) → ((x : X) → sought x ≡ true → test x ≡ true) → (xs : List X) → find sought (filter test xs) ≡ find sought xs
find-filter sought test passes [] = refl
find-filter sought test passes (x ∷ xs) = by (test x) refl (sought x) refl (find-filter sought test passes xs)
  where
    by : (t : Bool) → test x ≡ t → (s : Bool) → sought x ≡ s → find sought (filter test xs) ≡ find sought xs → find sought (filter test (x ∷ xs)) ≡ find sought (x ∷ xs)
    by true is s seek rest = ap (λ b. find sought (cond b (x ∷ filter test xs) (filter test xs))) is ∙ ap (λ r. cond (sought x) (Some x) r) rest
    by false is true seek rest = let never : false ≡ true = sym is ∙ passes x seek in absurd (cc)
    by false is false seek rest = ap (λ b. find sought (cond b (x ∷ filter test xs) (filter test xs))) is ∙ rest ∙ sym (ap (λ b. cond b (Some x) (find sought xs)) seek)

pub filter_step : {X : Type 0} (test : X → Bool) (x : X) (xs : List X) (t : Bool) → test x ≡ t → filter test (x ∷ xs) ≡ cond t (x ∷ filter test xs) (filter test xs)
filter_step test x xs t is = ap (λ b. cond b (x ∷ filter test xs) (filter test xs)) is

pub filter-filter : {X : Type 0} (p q : X → Bool) (xs : List X) → filter p (filter q xs) ≡ filter q (filter p xs)
filter-filter p q [] = refl
filter-filter p q (x ∷ xs) = by (p x) refl (q x) refl (filter-filter p q xs)
  where
    by : (s : Bool) → p x ≡ s → (t : Bool) → q x ≡ t → filter p (filter q xs) ≡ filter q (filter p xs) → filter p (filter q (x ∷ xs)) ≡ filter q (filter p (x ∷ xs))
    by true ps true qs rest =
        ap (filter p) (filter_step q x xs true qs) ∙ filter_step p x (filter q xs) true ps ∙ ap (λ l. x ∷ l) rest ∙ sym (ap (filter q) (filter_step p x xs true ps) ∙ filter_step q x (filter p xs) true qs)
    by true ps false qs rest = ap (filter p) (filter_step q x xs false qs) ∙ rest ∙ sym (ap (filter q) (filter_step p x xs true ps) ∙ filter_step q x (filter p xs) false qs)
    by false ps true qs rest = ap (filter p) (filter_step q x xs true qs) ∙ filter_step p x (filter q xs) false ps ∙ rest ∙ sym (ap (filter q) (filter_step p x xs false ps))
    by false ps false qs rest = ap (filter p) (filter_step q x xs false qs) ∙ rest ∙ sym (ap (filter q) (filter_step p x xs false ps))

pub filter_twice : {X : Type 0} (p : X → Bool) (xs : List X) → filter p (filter p xs) ≡ filter p xs
filter_twice p [] = refl
filter_twice p (x ∷ xs) = by (p x) refl (filter_twice p xs)
  where
    by : (s : Bool) → p x ≡ s → filter p (filter p xs) ≡ filter p xs → filter p (filter p (x ∷ xs)) ≡ filter p (x ∷ xs)
    by true is rest = ap (filter p) (filter_step p x xs true is) ∙ filter_step p x (filter p xs) true is ∙ ap (λ l. x ∷ l) rest ∙ sym (filter_step p x xs true is)
    by false is rest = ap (filter p) (filter_step p x xs false is) ∙ rest ∙ sym (filter_step p x xs false is)

-- a filter that lets all pass which pass a test leaves those
pub filter_all : {X : Type 0} (keep test : X → Bool) → ((x : X) → test x ≡ true → keep x ≡ true) → (xs : List X) → filter keep (filter test xs) ≡ filter test xs
filter_all keep test kept [] = refl
filter_all keep test kept (x ∷ xs) = by (test x) refl (filter_all keep test kept xs)
  where
    by : (t : Bool) → test x ≡ t → filter keep (filter test xs) ≡ filter test xs → filter keep (filter test (x ∷ xs)) ≡ filter test (x ∷ xs)
    by true is rest = ap (filter keep) (filter_step test x xs true is) ∙ filter_step keep x (filter test xs) true (kept x is) ∙ ap (λ l. x ∷ l) rest ∙ sym (filter_step test x xs true is)
    by false is rest = ap (filter keep) (filter_step test x xs false is) ∙ rest ∙ sym (filter_step test x xs false is)
