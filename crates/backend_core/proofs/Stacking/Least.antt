-- What a reset has left first, by the descriptors that are noted as those which may lack a scan.
use Rattle.std.proofs.Common.{◌≡◌, ◌∙◌, ◌≤◌, ◌<◌, ◌&&◌, ◌||◌, ℕ, Bool, true, false, not, Option, Some, None, List, [], ◌∷◌, cond, refl, sym, ap, subst, fold, nat_le, nat_lt, if◌then◌else◌, arith}
use Rattle.std.specs.List.{find, list_any}
use Rattle.std.proofs.lemmas.Bool.{both_ways, and_parts, or_left, or_right, leb-true, leb-false, le-leb, ltb-true, ltb-false}
use Rattle.std.proofs.Math.Bool.{and-false}
use Rattle.base_types.specs.Scans.{same_oid}
use Rattle.base_types.specs.declared.kind.Kind.{Kind}
use Rattle.base_types.specs.declared.kind.Kind.TheVariants.{Table, Index}
use Rattle.cacheless.specs.Suspects.{lacks, same_kind, same_opening, follows, ascend, AreSuspects}
use Rattle.backend_core.specs.Types.{Purpose, Opening, Frame}
use Rattle.backend_core.specs.Frames.{is_rebuilding, is_left, lesser, least_left}
use Rattle.backend_core.proofs.Stacking.Among.{oid_is, oid_itself}

-- two kinds are one
pub kind_is : (kind other : Kind) → same_kind kind other ≡ true → kind ≡ other
kind_is Table Table is = refl
kind_is Table Index is = absurd (cc)
kind_is Index Table is = absurd (cc)
kind_is Index Index is = refl

kind_self : (kind : Kind) → same_kind kind kind ≡ true
kind_self Table = refl
kind_self Index = refl

pub same_is : (o other : Opening) → same_opening o other ≡ true → o ≡ other
same_is o other is =
    let parts = and_parts (same_kind o.kind other.kind) (same_oid o.rel other.rel) is in
    λ i. record { rel = oid_is o.rel other.rel parts.1 i; kind = kind_is o.kind other.kind parts.0 i }

same_self : (o : Opening) → same_opening o o ≡ true
same_self o = λ i. kind_self o.kind i && oid_itself o.rel i

abbrev pub least : (Opening → Bool) → Option Opening → List Opening → Option Opening
least left best xs = fold (λ b o. if left o then lesser b o else b) best xs

-- a number that isn't greater is no lesser one
not_below : (n m : ℕ) → n < m → nat_le m n ≡ false
not_below n m above = by_le (nat_le m n) refl
  where
    by_le : (t : Bool) → nat_le m n ≡ t → t ≡ false
    by_le true at = absurd (let below : m ≤ n = leb-true m n at in omega arith)
    by_le false at = refl

not_less : (n m : ℕ) → m ≤ n → nat_lt n m ≡ false
not_less n m above = by_lt (nat_lt n m) refl
  where
    by_lt : (t : Bool) → nat_lt n m ≡ t → t ≡ false
    by_lt true at = absurd (let below : n < m = ltb-true n m at in omega arith)
    by_lt false at = refl

-- what comes after one with a greater oid has a greater oid
pub beyond : (n : ℕ) (o : Opening) (os : List Opening) (Q : Opening → Bool) → n < o.rel.0 → ascend (Some o) os ≡ true → list_any (λ x. nat_le x.rel.0 n && Q x) os ≡ false
beyond n o [] Q less is = refl
beyond n o (x ∷ os) Q less is =
    let parts = and_parts (nat_lt o.rel.0 x.rel.0 || same_opening o x) (ascend (Some x) os) is in
    let above = by_test (nat_lt o.rel.0 x.rel.0) refl parts.0 in
    λ i. (not_below n x.rel.0 above i && Q x) || beyond n x os Q above parts.1 i
  where
    by_test : (t : Bool) → nat_lt o.rel.0 x.rel.0 ≡ t → (t || same_opening o x) ≡ true → n < x.rel.0
    by_test true at one = let more : o.rel.0 < x.rel.0 = ltb-true o.rel.0 x.rel.0 at in omega arith
    by_test false at one = subst (λ (y : Opening). n < y.rel.0) (same_is o x one) less

-- of those after it whose oid isn't greater each is it
pub alone : (o : Opening) (os : List Opening) (Q : Opening → Bool) → ascend (Some o) os ≡ true → Q o ≡ false → list_any (λ x. nat_le x.rel.0 o.rel.0 && Q x) os ≡ false
alone o [] Q is none = refl
alone o (x ∷ os) Q is none =
    let parts = and_parts (nat_lt o.rel.0 x.rel.0 || same_opening o x) (ascend (Some x) os) is in
    by_test (nat_lt o.rel.0 x.rel.0) refl parts.0 parts.1 (λ rest. alone o os Q rest none)
  where
    by_same : (y : Opening) → o ≡ y → ascend (Some y) os ≡ true → (ascend (Some o) os ≡ true → list_any (λ z. nat_le z.rel.0 o.rel.0 && Q z) os ≡ false) → list_any (λ z. nat_le z.rel.0 o.rel.0 && Q z) (y ∷ os) ≡ false
    by_same y one rest more = subst (λ (z : Opening). ascend (Some z) os ≡ true → list_any (λ v. nat_le v.rel.0 o.rel.0 && Q v) (z ∷ os) ≡ false) one
        (λ after. λ i. (ap (λ t. nat_le o.rel.0 o.rel.0 && t) none ∙ and-false (nat_le o.rel.0 o.rel.0)) i || more after i) rest

    by_test : (t : Bool) → nat_lt o.rel.0 x.rel.0 ≡ t → (t || same_opening o x) ≡ true → ascend (Some x) os ≡ true → (ascend (Some o) os ≡ true → list_any (λ z. nat_le z.rel.0 o.rel.0 && Q z) os ≡ false) → list_any (λ y. nat_le y.rel.0 o.rel.0 && Q y) (x ∷ os) ≡ false
    by_test true at one rest more = let above = ltb-true o.rel.0 x.rel.0 at in λ i. (not_below o.rel.0 x.rel.0 above i && Q x) || beyond o.rel.0 x os Q above rest i
    by_test false at one rest more = by_same x (same_is o x one) rest more

-- less is so of none
pub none_less : (p q : Opening → Bool) (xs : List Opening) → ((x : Opening) → q x ≡ true → p x ≡ true) → list_any p xs ≡ false → list_any q xs ≡ false
none_less p q [] on none = refl
none_less p q (x ∷ xs) on none = by_q (q x) refl (p x) refl none (none_less p q xs on)
  where
    by_q : (t : Bool) → q x ≡ t → (s : Bool) → p x ≡ s → (s || list_any p xs) ≡ false → (list_any p xs ≡ false → list_any q xs ≡ false) → (t || list_any q xs) ≡ false
    by_q true at true so never more = absurd (cc)
    by_q true at false so rest more = absurd (both_ways (p x) so (on x at))
    by_q false at true so never more = absurd (cc)
    by_q false at false so rest more = more rest

-- the first of them: none is where none is found
first_none : (left : Opening → Bool) (xs : List Opening) → find left xs ≡ None → list_any left xs ≡ false
first_none left [] none = refl
first_none left (x ∷ xs) none = by_left (left x) none (first_none left xs)
  where
    by_left : (t : Bool) → cond t (Some x) (find left xs) ≡ None → (find left xs ≡ None → list_any left xs ≡ false) → (t || list_any left xs) ≡ false
    by_left true never more = absurd (cc)
    by_left false is more = more is

-- and where one is found, it is one of them, and those with no greater oid are it
record IsFirst (left : Opening → Bool) (xs : List Opening) (f : Opening) : Type 0 where
  pub left_is : left f ≡ true
  pub among : (p : Opening → Bool) → p f ≡ true → list_any p xs ≡ true
  pub alone_is : (Q : Opening → Bool) → Q f ≡ false → list_any (λ x. left x && (nat_le x.rel.0 f.rel.0 && Q x)) xs ≡ false

and_weaker : (a b : Bool) → (a && b) ≡ true → b ≡ true
and_weaker a b is = (and_parts a b is).1

first_is : (left : Opening → Bool) (last : Option Opening) (xs : List Opening) (f : Opening) → ascend last xs ≡ true → find left xs ≡ Some f → IsFirst left xs f
first_is left last [] f is found = absurd (cc)
first_is left last (x ∷ xs) f is found = by_left (left x) refl found (and_parts (follows last x) (ascend (Some x) xs) is).1 (first_is left (Some x) xs f)
  where
    here : left x ≡ true → ascend (Some x) xs ≡ true → IsFirst left (x ∷ xs) x
    here at rest = record {
      left_is = at;
      among = λ p holds. or_left (p x) (list_any p xs) holds;
      alone_is = λ Q none. λ i. (ap (λ t. left x && (nat_le x.rel.0 x.rel.0 && t)) none ∙ ap (λ t. left x && t) (and-false (nat_le x.rel.0 x.rel.0)) ∙ and-false (left x)) i
          || none_less (λ y. nat_le y.rel.0 x.rel.0 && Q y) (λ y. left y && (nat_le y.rel.0 x.rel.0 && Q y)) xs (λ y. and_weaker (left y) (nat_le y.rel.0 x.rel.0 && Q y)) (alone x xs Q rest none) i;
    }

    later : left x ≡ false → IsFirst left xs f → IsFirst left (x ∷ xs) f
    later at more = record {
      left_is = more.left_is;
      among = λ p holds. or_right (p x) (list_any p xs) (more.among p holds);
      alone_is = λ Q none. λ i. (at i && (nat_le x.rel.0 f.rel.0 && Q x)) || more.alone_is Q none i;
    }

    by_left : (t : Bool) → left x ≡ t → cond t (Some x) (find left xs) ≡ Some f → ascend (Some x) xs ≡ true → (ascend (Some x) xs ≡ true → find left xs ≡ Some f → IsFirst left xs f) → IsFirst left (x ∷ xs) f
    by_left true at one rest more = let it : x ≡ f = cc one in subst (λ (y : Opening). IsFirst left (x ∷ xs) y) it (here at rest)
    by_left false at found rest more = later at (more rest found)

-- the least of them: one of them, and none has a lesser oid
record IsLeast (left : Opening → Bool) (xs : List Opening) (m : Opening) : Type 0 where
  pub left_is : left m ≡ true
  pub among : (p : Opening → Bool) → p m ≡ true → list_any p xs ≡ true
  pub none_below : list_any (λ x. left x && nat_lt x.rel.0 m.rel.0) xs ≡ false

-- what a search for it gives, from the least of those before
data IsLeastFrom (left : Opening → Bool) (xs : List Opening) (best given : Option Opening) : Type 0 where
  NoneLeft : given ≡ None → best ≡ None → list_any left xs ≡ false → IsLeastFrom left xs best given
  Before : (m : Opening) → given ≡ Some m → best ≡ Some m → list_any (λ x. left x && nat_lt x.rel.0 m.rel.0) xs ≡ false → IsLeastFrom left xs best given
  Here : (m : Opening) → given ≡ Some m → ((b : Opening) → best ≡ Some b → m.rel.0 < b.rel.0) → IsLeast left xs m → IsLeastFrom left xs best given

-- one that isn't left is passed over
passed : (left : Opening → Bool) (x : Opening) (xs : List Opening) (best given : Option Opening) → left x ≡ false → IsLeastFrom left xs best given → IsLeastFrom left (x ∷ xs) best given
passed left x xs best given at (NoneLeft none before rest) = NoneLeft none before (λ i. at i || rest i)
passed left x xs best given at (Before m is before rest) = Before m is before (λ i. (at i && nat_lt x.rel.0 m.rel.0) || rest i)
passed left x xs best given at (Here m is less it) = Here m is less (record {
  left_is = it.left_is;
  among = λ p holds. or_right (p x) (list_any p xs) (it.among p holds);
  none_below = λ i. (at i && nat_lt x.rel.0 m.rel.0) || it.none_below i;
})

-- one that isn't lesser than the least before too
no_lesser : (left : Opening → Bool) (x : Opening) (xs : List Opening) (b : Opening) (given : Option Opening) → b.rel.0 ≤ x.rel.0 → IsLeastFrom left xs (Some b) given → IsLeastFrom left (x ∷ xs) (Some b) given
no_lesser left x xs b given most (NoneLeft none before rest) = absurd (cc before)
no_lesser left x xs b given most (Before m is before rest) =
    let it : b ≡ m = cc before in
    let above : m.rel.0 ≤ x.rel.0 = subst (λ (y : Opening). y.rel.0 ≤ x.rel.0) it most in
    Before m is before (λ i. (ap (λ t. left x && t) (not_less x.rel.0 m.rel.0 above) ∙ and-false (left x)) i || rest i)
no_lesser left x xs b given most (Here m is less it) =
    let below : m.rel.0 < b.rel.0 = less b refl in
    let above : m.rel.0 ≤ x.rel.0 = omega arith in
    Here m is less (record {
      left_is = it.left_is;
      among = λ p holds. or_right (p x) (list_any p xs) (it.among p holds);
      none_below = λ i. (ap (λ t. left x && t) (not_less x.rel.0 m.rel.0 above) ∙ and-false (left x)) i || it.none_below i;
    })

-- a lesser one is the least so far
taken : (left : Opening → Bool) (x : Opening) (xs : List Opening) (best given : Option Opening) → left x ≡ true → ((b : Opening) → best ≡ Some b → x.rel.0 < b.rel.0) → IsLeastFrom left xs (Some x) given → IsLeastFrom left (x ∷ xs) best given
taken left x xs best given at less (NoneLeft none before rest) = absurd (cc before)
taken left x xs best given at less (Before m is before rest) = let it : x ≡ m = cc before in Here m is (λ b has. subst (λ (y : Opening). y.rel.0 < b.rel.0) it (less b has))
    (subst (λ (y : Opening). IsLeast left (x ∷ xs) y) it (record {
      left_is = at;
      among = λ p holds. or_left (p x) (list_any p xs) holds;
      none_below = λ i. (ap (λ t. left x && t) (not_less x.rel.0 x.rel.0 (omega arith)) ∙ and-false (left x)) i || subst (λ (y : Opening). list_any (λ z. left z && nat_lt z.rel.0 y.rel.0) xs ≡ false) (sym it) rest i;
    }))
taken left x xs best given at less (Here m is lower it) =
    let below : m.rel.0 < x.rel.0 = lower x refl in
    Here m is (λ b has. let above : x.rel.0 < b.rel.0 = less b has in omega arith) (record {
      left_is = it.left_is;
      among = λ p holds. or_right (p x) (list_any p xs) (it.among p holds);
      none_below = λ i. (ap (λ t. left x && t) (not_less x.rel.0 m.rel.0 (omega arith)) ∙ and-false (left x)) i || it.none_below i;
    })

least_from : (left : Opening → Bool) (xs : List Opening) (best : Option Opening) → IsLeastFrom left xs best (least left best xs)
least_from left [] None = NoneLeft refl refl refl
least_from left [] (Some m) = Before m refl refl refl
least_from left (x ∷ xs) best = by_left (left x) refl best (least_from left xs)
  where
    by_le : (b : Opening) (t : Bool) → nat_le b.rel.0 x.rel.0 ≡ t → left x ≡ true → ((now : Option Opening) → IsLeastFrom left xs now (least left now xs)) → IsLeastFrom left (x ∷ xs) (Some b) (least left (cond t (Some b) (Some x)) xs)
    by_le b true most at later = no_lesser left x xs b (least left (Some b) xs) (leb-true b.rel.0 x.rel.0 most) (later (Some b))
    by_le b false more at later = taken left x xs (Some b) (least left (Some x) xs) at (λ c has. let it : b ≡ c = cc has in subst (λ (y : Opening). x.rel.0 < y.rel.0) it (leb-false b.rel.0 x.rel.0 more)) (later (Some x))

    by_best : (b : Option Opening) → left x ≡ true → ((now : Option Opening) → IsLeastFrom left xs now (least left now xs)) → IsLeastFrom left (x ∷ xs) b (least left (lesser b x) xs)
    by_best None at later = taken left x xs None (least left (Some x) xs) at (λ c has. absurd (cc has)) (later (Some x))
    by_best (Some b) at later = by_le b (nat_le b.rel.0 x.rel.0) refl at later

    by_left : (t : Bool) → left x ≡ t → (b : Option Opening) → ((now : Option Opening) → IsLeastFrom left xs now (least left now xs)) → IsLeastFrom left (x ∷ xs) b (least left (cond t (lesser b x) b) xs)
    by_left true at b later = by_best b at later
    by_left false at b later = passed left x xs b (least left b xs) at (later b)

-- the first of an ascending list is the least of another one, where some of both are so alike
pub first_least : (left : Opening → Bool) (found held : List Opening) → ascend None found ≡ true → ((p : Opening → Bool) → list_any (λ o. left o && p o) found ≡ list_any (λ o. left o && p o) held) → find left found ≡ least left None held
first_least left found held ascends alike = by_both (find left found) refl (least left None held) (least_from left held None)
  where
    all_left : (xs : List Opening) → list_any (λ o. left o && true) xs ≡ list_any left xs
    all_left xs = ap (λ (p : Opening → Bool). list_any p xs) (λ i o. plain (left o) i)
      where
        plain : (t : Bool) → (t && true) ≡ t
        plain true = refl
        plain false = refl

    some_left : list_any left found ≡ list_any left held
    some_left = sym (all_left found) ∙ alike (λ o. true) ∙ all_left held

    two : (f m : Opening) → IsFirst left found f → IsLeast left held m → f ≡ m
    two f m first it = same_is f m (by_same (same_opening f m) refl)
      where
        below : m.rel.0 ≤ f.rel.0
        below = by_lt (nat_lt f.rel.0 m.rel.0) refl
          where
            by_lt : (t : Bool) → nat_lt f.rel.0 m.rel.0 ≡ t → m.rel.0 ≤ f.rel.0
            by_lt true at = absurd (both_ways _ it.none_below (sym (alike (λ o. nat_lt o.rel.0 m.rel.0)) ∙ first.among (λ o. left o && nat_lt o.rel.0 m.rel.0) (λ i. first.left_is i && at i)))
            by_lt false at = let most = ltb-false f.rel.0 m.rel.0 at in omega (arith, most)

        by_same : (t : Bool) → same_opening f m ≡ t → t ≡ true
        by_same true at = refl
        by_same false at = absurd (both_ways _ (first.alone_is (λ o. same_opening o m) at) (alike (λ o. nat_le o.rel.0 f.rel.0 && same_opening o m) ∙ it.among (λ o. left o && (nat_le o.rel.0 f.rel.0 && same_opening o m)) (λ i. it.left_is i && (le-leb m.rel.0 f.rel.0 below i && same_self m i))))

    by_both : (f : Option Opening) → find left found ≡ f → (g : Option Opening) → IsLeastFrom left held None g → f ≡ g
    by_both None at g (NoneLeft none before rest) = sym none
    by_both None at g (Before m is before rest) = absurd (cc before)
    by_both None at g (Here m is less it) = absurd (both_ways _ (first_none left found at) (some_left ∙ it.among left it.left_is))
    by_both (Some f) at g (NoneLeft none before rest) = let first = first_is left None found f ascends at in absurd (both_ways _ rest (sym some_left ∙ first.among left first.left_is))
    by_both (Some f) at g (Before m is before rest) = absurd (cc before)
    by_both (Some f) at g (Here m is less it) = ap (λ (x : Opening). Some x) (two f m (first_is left None found f ascends at) it) ∙ sym is

-- the first that is left of those that are noted is the least that is left of those that are held
pub noted_least : (has : Purpose → Bool) (frames : List Frame) (held found : List Opening) → AreSuspects has held found → find (is_left has frames) found ≡ least_left has frames held
noted_least has frames held found are = first_least (is_left has frames) found held are.ascending (λ p. both p found ∙ are.same (λ o. not (is_rebuilding frames o.rel) && p o) ∙ sym (both p held))
  where
    and_both : (a b c : Bool) → ((a && b) && c) ≡ (a && (b && c))
    and_both true b c = refl
    and_both false b c = refl

    both : (p : Opening → Bool) (xs : List Opening) → list_any (λ o. is_left has frames o && p o) xs ≡ list_any (λ o. lacks has o && (not (is_rebuilding frames o.rel) && p o)) xs
    both p xs = ap (λ (q : Opening → Bool). list_any q xs) (λ i o. and_both (lacks has o) (not (is_rebuilding frames o.rel)) (p o) i)
