-- The first descriptor of a relation that lacks a scan, by the descriptors that are noted as those which may lack one.
use Rattle.std.proofs.Common.{◌≡◌, ◌∙◌, ◌≤◌, ◌<◌, ◌&&◌, ◌||◌, ℕ, zero, suc, Bool, true, false, Option, Some, None, List, [], ◌∷◌, cond, refl, sym, ap, length, get_or, slice_get, nat_le, nat_lt, arith}
use Rattle.std.specs.List.{find, list_any}
use Rattle.std.specs.List.Sorted.{IsNonDecreasingBy, IsPartitionedBy, IsPartitionPoint}
use Rattle.std.proofs.lemmas.Bool.{and_parts, le-leb, ltb-true, ltb-false, lt-ltb, eqb-false}
use Rattle.base_types.specs.Scans.{same_oid}
use Rattle.cacheless.specs.Suspects.{lacks, same_opening, follows, ascend, AreSuspects}
use Rattle.backend_core.specs.Types.{Oid, Purpose, Opening}
use Rattle.backend_core.specs.Frames.{lesser, if_so}
use Rattle.backend_core.proofs.Stacking.Among.{oid_is}
use Rattle.backend_core.proofs.Stacking.Least.{same_is, least, beyond, alone, none_less, first_least}

-- it is of the relation, and this is so
abbrev pub of : Oid → (Opening → Bool) → Opening → Bool
of rel Q o = same_oid rel o.rel && Q o

-- nothing is found where nothing is so
none_found : (p : Opening → Bool) (xs : List Opening) → list_any p xs ≡ false → find p xs ≡ None
none_found p [] none = refl
none_found p (x ∷ xs) none = by_test (p x) none (none_found p xs)
  where
    by_test : (t : Bool) → (t || list_any p xs) ≡ false → (list_any p xs ≡ false → find p xs ≡ None) → cond t (Some x) (find p xs) ≡ None
    by_test true never more = absurd (cc)
    by_test false rest more = more rest

-- one of the relation has no greater oid than another one of it
not_greater : (rel : Oid) (Q : Opening → Bool) (n : ℕ) (x : Opening) → rel.0 ≡ n → of rel Q x ≡ true → (nat_le x.rel.0 n && of rel Q x) ≡ true
not_greater rel Q n x at so = λ i. le-leb x.rel.0 n below i && so i
  where
    same : rel ≡ x.rel
    same = oid_is rel x.rel (and_parts (same_oid rel x.rel) (Q x) so).0

    numbers : rel.0 ≡ x.rel.0
    numbers = ap (λ (r : Oid). r.0) same

    below : x.rel.0 ≤ n
    below = omega (arith, numbers, at)

-- those with a greater oid are of another relation
greater_none : (rel : Oid) (Q : Opening → Bool) (o : Opening) (os : List Opening) → rel.0 < o.rel.0 → ascend (Some o) os ≡ true → list_any (of rel Q) os ≡ false
greater_none rel Q o os less is = none_less (λ x. nat_le x.rel.0 rel.0 && of rel Q x) (of rel Q) os (λ x. not_greater rel Q rel.0 x refl) (beyond rel.0 o os (of rel Q) less is)

-- none of those after one of the relation that isn't so is
again_none : (rel : Oid) (Q : Opening → Bool) (o : Opening) (os : List Opening) → same_oid rel o.rel ≡ true → of rel Q o ≡ false → ascend (Some o) os ≡ true → list_any (of rel Q) os ≡ false
again_none rel Q o os same none is = none_less (λ x. nat_le x.rel.0 o.rel.0 && of rel Q x) (of rel Q) os (λ x. not_greater rel Q o.rel.0 x (ap (λ (r : Oid). r.0) (oid_is rel o.rel same))) (alone o os (of rel Q) is none)

-- where one's oid isn't less, the first that is so is it, or there is none
first_there : (rel : Oid) (Q : Opening → Bool) (o : Opening) (os : List Opening) → nat_lt o.rel.0 rel.0 ≡ false → ascend (Some o) os ≡ true → find (of rel Q) (o ∷ os) ≡ if_so (of rel Q) (Some o)
first_there rel Q o os most is = by_test (of rel Q o) refl
  where
    later : of rel Q o ≡ false → (s : Bool) → same_oid rel o.rel ≡ s → list_any (of rel Q) os ≡ false
    later none true same = again_none rel Q o os same none is
    later none false apart = greater_none rel Q o os (let at = ltb-false o.rel.0 rel.0 most in let other = eqb-false rel.0 o.rel.0 apart in omega (arith, at, other)) is

    by_test : (t : Bool) → of rel Q o ≡ t → cond t (Some o) (find (of rel Q) os) ≡ cond t (Some o) None
    by_test true so = refl
    by_test false none = none_found (of rel Q) os (later none (same_oid rel o.rel) refl)

-- what is so of a relation is found at the first place where oids aren't less
find_there : (rel : Oid) (Q : Opening → Bool) (last : Option Opening) (xs : List Opening) (at : ℕ) → ascend last xs ≡ true
    → ((k : ℕ) (d : Opening) → k < at → nat_lt (get_or xs k d).rel.0 rel.0 ≡ true) → ((k : ℕ) (d : Opening) → at ≤ k → k < length xs → nat_lt (get_or xs k d).rel.0 rel.0 ≡ false)
    → find (of rel Q) xs ≡ if_so (of rel Q) (slice_get xs at)
find_there rel Q last [] at is less most = refl
find_there rel Q last (x ∷ xs) zero is less most = first_there rel Q x xs (most 0 x (omega arith) (omega arith)) (and_parts (follows last x) (ascend (Some x) xs) is).1
find_there rel Q last (x ∷ xs) (suc n) is less most = by_same (same_oid rel x.rel) refl (less 0 x (omega arith))
    (find_there rel Q (Some x) xs n (and_parts (follows last x) (ascend (Some x) xs) is).1 (λ k d within. less (suc k) d (omega arith)) (λ k d above within. most (suc k) d (omega arith) (omega arith)))
  where
    by_same : (s : Bool) → same_oid rel x.rel ≡ s → nat_lt x.rel.0 rel.0 ≡ true → find (of rel Q) xs ≡ if_so (of rel Q) (slice_get xs n) → cond (s && Q x) (Some x) (find (of rel Q) xs) ≡ if_so (of rel Q) (slice_get xs n)
    by_same true same below more = absurd (let one = ap (λ (r : Oid). r.0) (oid_is rel x.rel same) in let under = ltb-true x.rel.0 rel.0 below in omega (arith, one, under))
    by_same false apart below more = more

-- their oids don't decrease
above_last : (last : Opening) (xs : List Opening) → ascend (Some last) xs ≡ true → (j : ℕ) (d : Opening) → j < length xs → last.rel.0 ≤ (get_or xs j d).rel.0
above_last last [] is j d within = absurd (omega arith)
above_last last (x ∷ xs) is j d within = by_place j within (above_last x xs (and_parts (follows (Some last) x) (ascend (Some x) xs) is).1)
  where
    parts : (follows (Some last) x ≡ true) × (ascend (Some x) xs ≡ true)
    parts = and_parts (follows (Some last) x) (ascend (Some x) xs) is

    by_test : (t : Bool) → nat_lt last.rel.0 x.rel.0 ≡ t → (t || same_opening last x) ≡ true → last.rel.0 ≤ x.rel.0
    by_test true at one = let less = ltb-true last.rel.0 x.rel.0 at in omega (arith, less)
    by_test false at one = let same = ap (λ (o : Opening). o.rel.0) (same_is last x one) in omega (arith, same)

    first : last.rel.0 ≤ x.rel.0
    first = by_test (nat_lt last.rel.0 x.rel.0) refl parts.0

    by_place : (k : ℕ) → k < length (x ∷ xs) → ((m : ℕ) (e : Opening) → m < length xs → x.rel.0 ≤ (get_or xs m e).rel.0) → last.rel.0 ≤ (get_or (x ∷ xs) k d).rel.0
    by_place zero in_it later = first
    by_place (suc k) in_it later = let more = later k d (omega arith) in omega (arith, more, first)

pub ascend_rises : (last : Option Opening) (xs : List Opening) → ascend last xs ≡ true → IsNonDecreasingBy (λ (o : Opening). o.rel.0) xs
ascend_rises last [] is i j d most within = absurd (omega arith)
ascend_rises last (x ∷ xs) is i j d most within = by_places i j most within (ascend_rises (Some x) xs (and_parts (follows last x) (ascend (Some x) xs) is).1)
  where
    rest : ascend (Some x) xs ≡ true
    rest = (and_parts (follows last x) (ascend (Some x) xs) is).1

    by_places : (n m : ℕ) → n ≤ m → m < length (x ∷ xs) → IsNonDecreasingBy (λ (o : Opening). o.rel.0) xs → (get_or (x ∷ xs) n d).rel.0 ≤ (get_or (x ∷ xs) m d).rel.0
    by_places zero zero up in_it later = omega arith
    by_places zero (suc m) up in_it later = above_last x xs rest m d (omega arith)
    by_places (suc n) zero up in_it later = absurd (omega arith)
    by_places (suc n) (suc m) up in_it later = later n m d (omega arith) (omega arith)

pub sought_there : (rel : Oid) (Q : Opening → Bool) (xs : List Opening) (at : ℕ) → ascend None xs ≡ true → IsPartitionPoint (λ o. nat_lt o.rel.0 rel.0 ≡ true) (λ o. nat_lt o.rel.0 rel.0 ≡ false) xs at → find (of rel Q) xs ≡ if_so (of rel Q) (slice_get xs at)
sought_there rel Q xs at is points = find_there rel Q None xs at is (λ k d within. points.0 k d (omega arith) within) (λ k d above within. points.1 k d above within)

-- where all that is so has one oid, the first is the least
kept_first : (left : Opening → Bool) (n : ℕ) → ((o : Opening) → left o ≡ true → o.rel.0 ≡ n) → (b : Opening) → b.rel.0 ≡ n → (xs : List Opening) → least left (Some b) xs ≡ Some b
kept_first left n one b at [] = refl
kept_first left n one b at (x ∷ xs) = by_left (left x) refl (kept_first left n one b at xs)
  where
    by_left : (t : Bool) → left x ≡ t → least left (Some b) xs ≡ Some b → least left (cond t (lesser (Some b) x) (Some b)) xs ≡ Some b
    by_left true so rest = let same = one x so in ap (λ t. least left (cond t (Some b) (Some x)) xs) (le-leb b.rel.0 x.rel.0 (omega (arith, same, at))) ∙ rest
    by_left false none rest = rest

pub first_one : (left : Opening → Bool) (n : ℕ) → ((o : Opening) → left o ≡ true → o.rel.0 ≡ n) → (xs : List Opening) → least left None xs ≡ find left xs
first_one left n one [] = refl
first_one left n one (x ∷ xs) = by_left (left x) refl (first_one left n one xs)
  where
    by_left : (t : Bool) → left x ≡ t → least left None xs ≡ find left xs → least left (cond t (Some x) None) xs ≡ cond t (Some x) (find left xs)
    by_left true so more = kept_first left n one x (one x so) xs
    by_left false none more = more

-- so those with a lesser oid come first
pub ascend_parts : (n : ℕ) (xs : List Opening) → ascend None xs ≡ true → IsPartitionedBy (λ (o : Opening). nat_lt o.rel.0 n) xs
ascend_parts n xs is i j d most within less = let under = ltb-true (get_or xs j d).rel.0 n less in let up = ascend_rises None xs is i j d most within in lt-ltb (get_or xs i d).rel.0 n (omega (arith, under, up))

-- the first of the relation that lacks one is that of those that are noted
pub noted_lacking : (has : Purpose → Bool) (rel : Oid) (held found : List Opening) → AreSuspects has held found → find (of rel (lacks has)) found ≡ find (of rel (lacks has)) held
noted_lacking has rel held found are = first_least (of rel (lacks has)) found held are.ascending (λ p. both p found ∙ are.same (λ o. same_oid rel o.rel && p o) ∙ sym (both p held))
    ∙ first_one (of rel (lacks has)) rel.0 (λ o so. sym (ap (λ (r : Oid). r.0) (oid_is rel o.rel (and_parts (same_oid rel o.rel) (lacks has o) so).0))) held
  where
    turned : (a b c : Bool) → ((a && b) && c) ≡ (b && (a && c))
    turned true b c = refl
    turned false true c = refl
    turned false false c = refl

    both : (p : Opening → Bool) (xs : List Opening) → list_any (λ o. of rel (lacks has) o && p o) xs ≡ list_any (λ o. lacks has o && (same_oid rel o.rel && p o)) xs
    both p xs = ap (λ (q : Opening → Bool). list_any q xs) (λ i o. turned (same_oid rel o.rel) (lacks has o) (p o) i)
