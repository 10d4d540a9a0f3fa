-- Which of some numbers in a row pass a test.
use Rattle.std.proofs.Common.{◌≡◌, ◌≢◌, ◌≤◌, ◌<◌, ◌+◌, ◌∙◌, ◌⊎◌, inl, inr, ℕ, zero, suc, Bool, true, false, Some, [], ◌∷◌, ◌==◌, refl, sym, ap, cond, filter, slice_get, arith}
use Rattle.std.specs.List.{range_with_len}
use Rattle.std.proofs.lemmas.Bool.Decides.{eqb_tells}

-- the first of some numbers that passes, where all before it fail
pub first_that_passes : (passes : ℕ → Bool) (a n b : ℕ) → a ≤ b → b < a + n → ((c : ℕ) → a ≤ c → c < b → passes c ≡ false) → passes b ≡ true → slice_get (filter passes (range_with_len a n)) 0 ≡ Some b
first_that_passes passes a zero b low high fail pass = absurd (omega arith)
first_that_passes passes a (suc n) b low high fail pass = of (eqb_tells a b) (λ below. first_that_passes passes (a + 1) n b (omega arith) (omega arith) (λ c from to. fail c (omega arith) to) pass)
  where
    of : (((a == b) ≡ true) × (a ≡ b)) ⊎ (((a == b) ≡ false) × (a ≢ b)) → (a < b → slice_get (filter passes (range_with_len (a + 1) n)) 0 ≡ Some b)
        → slice_get (cond (passes a) (a ∷ filter passes (range_with_len (a + 1) n)) (filter passes (range_with_len (a + 1) n))) 0 ≡ Some b
    of (inl same) rest = ap (λ t. slice_get (cond t (a ∷ filter passes (range_with_len (a + 1) n)) (filter passes (range_with_len (a + 1) n))) 0) (ap passes same.1 ∙ pass) ∙ ap Some same.1
    of (inr apart) rest =
        let ne = apart.1 in
        let below : a < b = omega arith in
        ap (λ t. slice_get (cond t (a ∷ filter passes (range_with_len (a + 1) n)) (filter passes (range_with_len (a + 1) n))) 0) (fail a (omega arith) below) ∙ rest below

-- none of some numbers passes
pub none_passes : (passes : ℕ → Bool) (a n : ℕ) → ((c : ℕ) → a ≤ c → c < a + n → passes c ≡ false) → filter passes (range_with_len a n) ≡ []
none_passes passes a zero fail = refl
none_passes passes a (suc n) fail =
    ap (λ t. cond t (a ∷ filter passes (range_with_len (a + 1) n)) (filter passes (range_with_len (a + 1) n))) (fail a (omega arith) (omega arith))
    ∙ none_passes passes (a + 1) n (λ c from to. fail c (omega arith) (omega arith))

-- and where none does, each of them fails
pub each_fails : (passes : ℕ → Bool) (a n : ℕ) → filter passes (range_with_len a n) ≡ [] → (b : ℕ) → a ≤ b → b < a + n → passes b ≡ false
each_fails passes a zero none b low high = absurd (omega arith)
each_fails passes a (suc n) none b low high = by_first (passes a) refl (λ rest below. each_fails passes (a + 1) n rest b (omega arith) (omega arith))
  where
    by_first : (first : Bool) → passes a ≡ first → (filter passes (range_with_len (a + 1) n) ≡ [] → a < b → passes b ≡ false) → passes b ≡ false
    by_first true is rest =
        let passing : filter passes (range_with_len a (suc n)) ≡ a ∷ filter passes (range_with_len (a + 1) n) = ap (λ t. cond t (a ∷ filter passes (range_with_len (a + 1) n)) (filter passes (range_with_len (a + 1) n))) is in
        let never = sym passing ∙ none in
        absurd cc
    by_first false is rest =
        let failing : filter passes (range_with_len a (suc n)) ≡ filter passes (range_with_len (a + 1) n) = ap (λ t. cond t (a ∷ filter passes (range_with_len (a + 1) n)) (filter passes (range_with_len (a + 1) n))) is in
        by_place (eqb_tells a b) (rest (sym failing ∙ none))
      where
        by_place : (((a == b) ≡ true) × (a ≡ b)) ⊎ (((a == b) ≡ false) × (a ≢ b)) → (a < b → passes b ≡ false) → passes b ≡ false
        by_place (inl same) after = ap passes (sym same.1) ∙ is
        by_place (inr apart) after = let ne = apart.1 in after (omega arith)
