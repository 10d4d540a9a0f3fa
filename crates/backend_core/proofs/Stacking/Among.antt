-- What is among the held descriptors.
use Rattle.std.proofs.Common.{◌≡◌, ◌∙◌, Bool, true, false, Some, None, List, [], ◌∷◌, cond, refl, sym, ap, is_some, ◌||◌, subst}
use Rattle.std.specs.List.{find, list_any, AllByRecursion}
use Rattle.std.proofs.lemmas.Bool.{both_ways, or_left, or_right, false_from_ne_true, eq-eqb, eqb-true}
use Rattle.base_types.specs.Scans.{same_oid}
use Rattle.backend_core.specs.Types.{Oid, Opening}
use Rattle.backend_core.specs.Frames.{IsAmong}

-- two oids are one
pub oid_is : (a b : Oid) → same_oid a b ≡ true → a ≡ b
oid_is a b same = ap (λ n. record { 0 = n }) (eqb-true a.0 b.0 same)

pub oid_itself : (a : Oid) → same_oid a a ≡ true
oid_itself a = eq-eqb a.0 a.0 refl

pub oid_turned : (a b : Oid) → same_oid a b ≡ true → same_oid b a ≡ true
oid_turned a b same = eq-eqb b.0 a.0 (sym (eqb-true a.0 b.0 same))

pub oid_apart : (a b : Oid) → same_oid a b ≡ false → same_oid b a ≡ false
oid_apart a b apart = false_from_ne_true (same_oid b a) (λ same. both_ways _ apart (oid_turned b a same))

-- something is found where something is so
pub found_any : {X : Type 0} (p : X → Bool) (xs : List X) → is_some (find p xs) ≡ list_any p xs
found_any p [] = refl
found_any p (x ∷ xs) = by_test (p x) (found_any p xs)
  where
    by_test : (t : Bool) → is_some (find p xs) ≡ list_any p xs → is_some (cond t (Some x) (find p xs)) ≡ (t || list_any p xs)
    by_test true more = refl
    by_test false more = more

-- what is found is so
pub find_is : {X : Type 0} (p : X → Bool) (xs : List X) (x : X) → find p xs ≡ Some x → p x ≡ true
find_is p [] x is = absurd (cc is)
find_is p (y ∷ xs) x is = by_test (p y) refl is (find_is p xs x)
  where
    by_test : (t : Bool) → p y ≡ t → cond t (Some y) (find p xs) ≡ Some x → (find p xs ≡ Some x → p x ≡ true) → p x ≡ true
    by_test true at here more = let same : y ≡ x = cc here in ap p (sym same) ∙ at
    by_test false at later more = more later

-- and among them
pub find_among : (p : Opening → Bool) (held : List Opening) (o : Opening) → find p held ≡ Some o → IsAmong held o
find_among p [] o is = absurd (cc is)
find_among p (x ∷ held) o is = by_test (p x) is (find_among p held o)
  where
    by_test : (t : Bool) → cond t (Some x) (find p held) ≡ Some o → (find p held ≡ Some o → IsAmong held o) → IsAmong (x ∷ held) o
    by_test true here more = λ q holds. let same : x ≡ o = cc here in or_left (q x) (list_any q held) (ap q same ∙ holds)
    by_test false later more = λ q holds. or_right (q x) (list_any q held) (more later q holds)

-- where none is found none of them is so
pub none_among : (p : Opening → Bool) (held : List Opening) (o : Opening) → find p held ≡ None → IsAmong held o → p o ≡ false
none_among p held o none among = false_from_ne_true (p o) (λ is. both_ways _ (ap (λ f. is_some f) none) (found_any p held ∙ among p is))

-- where some is so, one of them is
pub record IsWitness (p : Opening → Bool) (held : List Opening) : Type 0 where
  pub one : Opening
  pub among : IsAmong held one
  pub is : p one ≡ true

pub any_among : (p : Opening → Bool) (held : List Opening) → list_any p held ≡ true → IsWitness p held
any_among p [] some = absurd (cc some)
any_among p (x ∷ held) some = by_test (p x) refl some (any_among p held)
  where
    by_test : (t : Bool) → p x ≡ t → list_any p (x ∷ held) ≡ true → (list_any p held ≡ true → IsWitness p held) → IsWitness p (x ∷ held)
    by_test true at any more = record { one = x; among = λ q holds. or_left (q x) (list_any q held) holds; is = at }
    by_test false at any more = let w = more (sym (ap (λ t. t || list_any p held) at) ∙ any) in record { one = w.one; among = λ q holds. or_right (q x) (list_any q held) (w.among q holds); is = w.is }

-- none of an empty list
pub none_held : {X : Type 0} (o : Opening) → IsAmong [] o → X
none_held o among = absurd (let no : false ≡ true = among (λ x. true) refl in cc no)

-- what is found of a list is as all its elements are
pub find_all : {X : Type 0} (P : X → Type 0) (p : X → Bool) (xs : List X) (x : X) → AllByRecursion P xs → find p xs ≡ Some x → P x
find_all P p [] x all is = absurd (cc is)
find_all P p (y ∷ xs) x all is = by_test (p y) is (find_all P p xs x all.1)
  where
    by_test : (t : Bool) → cond t (Some y) (find p xs) ≡ Some x → (find p xs ≡ Some x → P x) → P x
    by_test true one more = let same : y ≡ x = cc one in subst P same all.0
    by_test false later more = more later
