-- The free list: the places that may be used next.
use Rattle.std.proofs.Common.{◌≡◌, ◌≢◌, ◌∙◌, ◌⊎◌, inl, inr, ℕ, ◌<◌, zero, suc, Bool, true, false, Option, Some, None, sym, ap, refl, subst, arith}
use Rattle.std.proofs.lemmas.Bool.{cases_eq}
use Rattle.pin_pool.specs.Vacant.{is_free_list}

-- what comes after a place in a free list
abbrev goes_on : (link : ℕ → Option (Option ℕ)) → ℕ → Option (Option ℕ) → Bool
goes_on link n (Some next) = is_free_list link n next
goes_on link n None = false

step : (link : ℕ → Option (Option ℕ)) (n place : ℕ) → is_free_list link (suc n) (Some place) ≡ goes_on link n (link place)
step link n place = by (link place)
  where
    by : (o : Option (Option ℕ)) → (elim o [ Some next ↦ is_free_list link n next | None ↦ false ]) ≡ goes_on link n o
    by None = refl
    by (Some next) = refl

-- a free list that isn't at its end begins with a place that has a link
pub linked : (link : ℕ → Option (Option ℕ)) (n place : ℕ) → is_free_list link (suc n) (Some place) ≡ true → (next : Option ℕ) × (link place ≡ Some next) × (is_free_list link n next ≡ true)
linked link n place free = by (link place) refl
  where
    by : (o : Option (Option ℕ)) → link place ≡ o → (next : Option ℕ) × (link place ≡ Some next) × (is_free_list link n next ≡ true)
    by None is = let never : false ≡ true = sym (step link n place ∙ ap (goes_on link n) is) ∙ free in absurd (cc)
    by (Some next) is = (next, is, sym (step link n place ∙ ap (goes_on link n) is) ∙ free)

-- a place before a free list makes one that is longer
pub longer : (link : ℕ → Option (Option ℕ)) (n place : ℕ) (next : Option ℕ) → link place ≡ Some next → is_free_list link n next ≡ true → is_free_list link (suc n) (Some place) ≡ true
longer link n place next is free = step link n place ∙ ap (goes_on link n) is ∙ free

-- two free lists from one place are as long
one_length : (link : ℕ → Option (Option ℕ)) (n m : ℕ) (from : Option ℕ) → is_free_list link n from ≡ true → is_free_list link m from ≡ true → n ≡ m
one_length link zero zero from one two = refl
one_length link zero (suc m) None one two = absurd (cc)
one_length link zero (suc m) (Some place) one two = absurd (cc)
one_length link (suc n) zero None one two = absurd (cc)
one_length link (suc n) zero (Some place) one two = absurd (cc)
one_length link (suc n) (suc m) None one two = absurd (cc)
one_length link (suc n) (suc m) (Some place) one two =
    let a = linked link n place one in
    let b = linked link m place two in
    let same : Some a.0 ≡ Some b.0 = sym a.1 ∙ b.1 in
    let next : a.0 ≡ b.0 = cc in
    ap suc (one_length link n m a.0 a.2 (subst (λ o. is_free_list link m o ≡ true) (sym next) b.2))

module _ (old new : ℕ → Option (Option ℕ)) where
  -- where each link stays, a free list does
  pub same_list : ((place : ℕ) → new place ≡ old place) → (n : ℕ) (from : Option ℕ) → is_free_list old n from ≡ true → is_free_list new n from ≡ true
  same_list same zero from free = free
  same_list same (suc n) None free = free
  same_list same (suc n) (Some place) free =
      let a = linked old n place free in
      longer new n place a.0 (same place ∙ a.1) (same_list same n a.0 a.2)

  -- a free list stays where only links change that were none
  pub list_beside : ((place : ℕ) (next : Option ℕ) → old place ≡ Some next → new place ≡ old place) → (n : ℕ) (from : Option ℕ) → is_free_list old n from ≡ true → is_free_list new n from ≡ true
  list_beside same zero from free = free
  list_beside same (suc n) None free = free
  list_beside same (suc n) (Some place) free =
      let a = linked old n place free in
      longer new n place a.0 (same place a.0 a.1 ∙ a.1) (list_beside same n a.0 a.2)

  -- a free list that is shorter than the one from a place doesn't have that place
  pub list_without : (first m : ℕ) → is_free_list old m (Some first) ≡ true → ((place : ℕ) → place ≢ first → new place ≡ old place) → (n : ℕ) (from : Option ℕ) → n < m → is_free_list old n from ≡ true → is_free_list new n from ≡ true
  list_without first m all same zero from less free = free
  list_without first m all same (suc n) None less free = free
  list_without first m all same (suc n) (Some place) less free =
      let a = linked old n place free in
      by (cases_eq place first) a.0 a.1 (list_without first m all same n a.0 (omega (arith, less)) a.2)
    where
      by : (place ≡ first) ⊎ (place ≢ first) → (next : Option ℕ) → old place ≡ Some next → is_free_list new n next ≡ true → is_free_list new (suc n) (Some place) ≡ true
      by (inl is) next at rest = let length = one_length old (suc n) m (Some first) (subst (λ p. is_free_list old (suc n) (Some p) ≡ true) is free) all in absurd (omega (arith, length, less))
      by (inr differs) next at rest = longer new n place next (same place differs ∙ at) rest
