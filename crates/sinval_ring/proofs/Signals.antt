-- Who is signaled is furthest back.
use Rattle.std.proofs.Common.{◌≡◌, ◌≤◌, ◌<◌, ◌+◌, ◌⊎◌, inl, inr, ◌∙◌, ℕ, Bool, true, false, cond, nat_lt, Some, None, List, [], ◌∷◌, get_or, zero, suc, refl, sym, ap, subst, arith}
use Rattle.std.proofs.lemmas.Bool.{ltb-true, ltb-false}
use Rattle.sinval_ring.specs.declared.call.Call.{Call}
use Rattle.sinval_ring.specs.Readers.{Reader, Inactive, At, Reset}
use Rattle.sinval_ring.specs.Cleanups.{called_by, called_from, furthest}

-- a reader that wasn't signaled is further back than that, further than those before it, and at least as far as all others
pub record IsFurthest (bound : ℕ) (readers : List Reader) (b : ℕ) : Type 0 where
  pub position : ℕ
  pub at : get_or readers b Inactive ≡ At position false
  pub under : position < bound
  pub least : (a p : ℕ) → get_or readers a Inactive ≡ At p false → position ≤ p
  pub first : (a p : ℕ) → a < b → get_or readers a Inactive ≡ At p false → position < p

-- none is further back than who is called
called_by-less : (b : ℕ) (call : Call) (reader : Reader) → (called_by b call reader).below ≤ call.below
called_by-less b call Inactive = omega arith
called_by-less b call Reset = omega arith
called_by-less b call (At position true) = omega arith
called_by-less b call (At position false) = by_test (nat_lt position call.below) refl
  where
    by_test : (t : Bool) → nat_lt position call.below ≡ t → (cond t (record { backend = Some b; below = position }) call).below ≤ call.below
    by_test true is = omega (arith, ltb-true position call.below is)
    by_test false is = omega arith

called_by-least : (b : ℕ) (call : Call) (p : ℕ) → (called_by b call (At p false)).below ≤ p
called_by-least b call p = by_test (nat_lt p call.below) refl
  where
    by_test : (t : Bool) → nat_lt p call.below ≡ t → (cond t (record { backend = Some b; below = p }) call).below ≤ p
    by_test true is = omega arith
    by_test false is = omega (arith, ltb-false p call.below is)

called_from-less : (b : ℕ) (call : Call) (readers : List Reader) → (called_from b call readers).below ≤ call.below
called_from-less b call [] = omega arith
called_from-less b call (reader ∷ rest) = omega (arith, called_from-less (b + 1) (called_by b call reader) rest, called_by-less b call reader)

called_from-least : (b : ℕ) (call : Call) (readers : List Reader) (a p : ℕ) → get_or readers a Inactive ≡ At p false → (called_from b call readers).below ≤ p
called_from-least b call [] a p is = cc
called_from-least b call (reader ∷ rest) zero p is =
    omega (arith, called_from-less (b + 1) (called_by b call reader) rest, subst (λ r. (called_by b call r).below ≤ p) (sym is) (called_by-least b call p))
called_from-least b call (reader ∷ rest) (suc a) p is = called_from-least (b + 1) (called_by b call reader) rest a p is

-- who is called is one of the readers, and further back than those before it
record Found (b below : ℕ) (readers : List Reader) (call : Call) : Type 0 where
  pub place : ℕ
  pub who : call.backend ≡ Some (b + place)
  pub at : get_or readers place Inactive ≡ At call.below false
  pub under : call.below < below
  pub first : (a p : ℕ) → a < place → get_or readers a Inactive ≡ At p false → call.below < p

passed_over : (b below : ℕ) (reader : Reader) (rest : List Reader) (call : Call) → ((p : ℕ) → reader ≡ At p false → below ≤ p) → Found (b + 1) below rest call → Found b below (reader ∷ rest) call
passed_over b below reader rest call above f = record { place = suc f.place; who = f.who ∙ ap Some (omega arith); at = f.at; under = f.under; first = first }
  where
    first : (a p : ℕ) → a < suc f.place → get_or (reader ∷ rest) a Inactive ≡ At p false → call.below < p
    first zero p less is = omega (arith, above p is, f.under)
    first (suc a) p less is = f.first a p (omega arith) is

either_over : (b : ℕ) (call made : Call) (reader : Reader) (rest : List Reader) → ((p : ℕ) → reader ≡ At p false → call.below ≤ p) → (made ≡ call) ⊎ Found (b + 1) call.below rest made → (made ≡ call) ⊎ Found b call.below (reader ∷ rest) made
either_over b call made reader rest above (inl same) = inl same
either_over b call made reader rest above (inr f) = inr (passed_over b call.below reader rest made above f)

taken_first : (b below position : ℕ) (rest : List Reader) (made : Call) → position < below → (made ≡ record { backend = Some b; below = position }) ⊎ Found (b + 1) position rest made → Found b below (At position false ∷ rest) made
taken_first b below position rest made less (inl same) = record {
  place = zero;
  who = ap (λ (c : Call). c.backend) same ∙ ap Some (omega arith);
  at = ap (λ (c : Call). At c.below false) (sym same);
  under = omega (arith, less, ap (λ (c : Call). c.below) same);
  first = λ a p none is. absurd (omega arith);
}
taken_first b below position rest made less (inr f) = record { place = suc f.place; who = f.who ∙ ap Some (omega arith); at = f.at; under = omega (arith, less, f.under); first = first }
  where
    place_at : Reader → ℕ
    place_at (At p mark) = p
    place_at reader = 0

    first : (a p : ℕ) → a < suc f.place → get_or (At position false ∷ rest) a Inactive ≡ At p false → made.below < p
    first zero p less is = let same : position ≡ p = cc in omega (arith, same, f.under)
    first (suc a) p less is = f.first a p (omega arith) is

found_from : (b : ℕ) (call : Call) (readers : List Reader) → (called_from b call readers ≡ call) ⊎ Found b call.below readers (called_from b call readers)
found_from b call [] = inl refl
found_from b call (Inactive ∷ rest) = either_over b call (called_from (b + 1) call rest) Inactive rest (λ p is. cc) (found_from (b + 1) call rest)
found_from b call (Reset ∷ rest) = either_over b call (called_from (b + 1) call rest) Reset rest (λ p is. cc) (found_from (b + 1) call rest)
found_from b call (At position true ∷ rest) = either_over b call (called_from (b + 1) call rest) (At position true) rest (λ p is. cc) (found_from (b + 1) call rest)
found_from b call (At position false ∷ rest) = by_test (nat_lt position call.below) refl (found_from (b + 1) (record { backend = Some b; below = position }) rest) (found_from (b + 1) call rest)
  where
    by_test : (t : Bool) → nat_lt position call.below ≡ t
        → (called_from (b + 1) (record { backend = Some b; below = position }) rest ≡ record { backend = Some b; below = position }) ⊎ Found (b + 1) position rest (called_from (b + 1) (record { backend = Some b; below = position }) rest)
        → (called_from (b + 1) call rest ≡ call) ⊎ Found (b + 1) call.below rest (called_from (b + 1) call rest)
        → (called_from (b + 1) (cond t (record { backend = Some b; below = position }) call) rest ≡ call) ⊎ Found b call.below (At position false ∷ rest) (called_from (b + 1) (cond t (record { backend = Some b; below = position }) call) rest)
    by_test true is taken passed = inr (taken_first b call.below position rest (called_from (b + 1) (record { backend = Some b; below = position }) rest) (ltb-true position call.below is) taken)
    by_test false is taken passed = either_over b call (called_from (b + 1) call rest) (At position false) rest (λ p same. let is_same : position ≡ p = cc in omega (arith, is_same, ltb-false position call.below is)) passed

-- who is signaled is furthest back, the first of several
pub furthest_is : (bound : ℕ) (readers : List Reader) (b : ℕ) → furthest bound readers ≡ Some b → IsFurthest bound readers b
furthest_is bound readers b is = by_found (found_from 0 none readers)
  where
    none : Call
    none = record { backend = None; below = bound }

    by_found : (called_from 0 none readers ≡ none) ⊎ Found 0 bound readers (called_from 0 none readers) → IsFurthest bound readers b
    by_found (inl same) = absurd (nobody (sym (ap (λ (c : Call). c.backend) same) ∙ is))
      where
        nobody : None ≡ Some b → ⊥
        nobody none_is = cc
    by_found (inr f) =
        let same : Some (0 + f.place) ≡ Some b = sym f.who ∙ is in
        let sum_is : 0 + f.place ≡ b = cc in
        let place_is : f.place ≡ b = omega arith in
        subst (IsFurthest bound readers) place_is (record {
          position = (called_from 0 none readers).below;
          at = f.at;
          under = f.under;
          least = called_from-least 0 none readers;
          first = f.first;
        })

-- and where nobody is, every one that wasn't signaled is nearer than that
pub furthest_none : (bound : ℕ) (readers : List Reader) → furthest bound readers ≡ None → (a p : ℕ) → get_or readers a Inactive ≡ At p false → bound ≤ p
furthest_none bound readers is a p at = by_found (found_from 0 none readers)
  where
    none : Call
    none = record { backend = None; below = bound }

    by_found : (called_from 0 none readers ≡ none) ⊎ Found 0 bound readers (called_from 0 none readers) → bound ≤ p
    by_found (inl same) = omega (arith, ap (λ (c : Call). c.below) same, called_from-least 0 none readers a p at)
    by_found (inr f) = absurd (somebody (sym f.who ∙ is))
      where
        somebody : Some (0 + f.place) ≡ None → ⊥
        somebody some_is = cc
