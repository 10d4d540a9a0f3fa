-- What stands at a place of a list that has one element more, or another one.
use Rattle.std.proofs.Common.{◌≡◌, ◌≢◌, ◌⊎◌, inl, inr, ℕ, zero, suc, Some, List, [], ◌∷◌, ◌++◌, refl, ap, length, slice_get, slice_set, arith}

-- it is the new one, or one that was there
pub last_or_before : {X : Type 0} (xs : List X) (y x : X) (i : ℕ) → slice_get (xs ++ y ∷ []) i ≡ Some x → (slice_get xs i ≡ Some x) ⊎ ((i ≡ length xs) × (y ≡ x))
last_or_before [] y x zero at = inr (refl, cc)
last_or_before [] y x (suc i) at = absurd (cc)
last_or_before (z ∷ xs) y x zero at = inl at
last_or_before (z ∷ xs) y x (suc i) at = later (last_or_before xs y x i at)
  where
    later : (slice_get xs i ≡ Some x) ⊎ ((i ≡ length xs) × (y ≡ x)) → (slice_get (z ∷ xs) (suc i) ≡ Some x) ⊎ ((suc i ≡ length (z ∷ xs)) × (y ≡ x))
    later (inl before) = inl before
    later (inr last) = let n = last.0 in inr (omega arith, last.1)

-- what stands where a list was set
pub get_of_set : {X : Type 0} (xs : List X) (i : ℕ) (now was found : X) → slice_get xs i ≡ Some was → slice_get (slice_set xs i now) i ≡ Some found → found ≡ now
get_of_set [] i now was found is at = absurd (cc)
get_of_set (x ∷ xs) zero now was found is at = cc
get_of_set (x ∷ xs) (suc i) now was found is at = get_of_set xs i now was found is at

-- and what stands beside it
pub get_beside_set : {X : Type 0} (xs : List X) (i j : ℕ) (now : X) → i ≢ j → slice_get (slice_set xs i now) j ≡ slice_get xs j
get_beside_set [] i j now apart = refl
get_beside_set (x ∷ xs) zero zero now apart = absurd (apart refl)
get_beside_set (x ∷ xs) zero (suc j) now apart = refl
get_beside_set (x ∷ xs) (suc i) zero now apart = refl
get_beside_set (x ∷ xs) (suc i) (suc j) now apart = get_beside_set xs i j now (λ same. apart (ap (λ n. suc n) same))
