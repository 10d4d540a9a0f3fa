-- Lists side by side, and lists that are read from the last element on.
use Rattle.std.proofs.Common.{◌≡◌, ◌<◌, ◌∙◌, ℕ, zero, suc, List, [], ◌∷◌, ◌++◌, length, map, get_or, refl, sym, ap, subst, append_assoc, append-nil, arith}
use Rattle.std.specs.List.{AllByRecursion}
use Rattle.std.proofs.lemmas.List.{length_push, map-append}
use Rattle.thread_run.specs.Seats.{AllPairs, from_last}

-- lists that agree place by place
pub map_same : {A : Type 0} (f : A → ℕ) (xs ys : List A) → length ys ≡ length xs → ((i : ℕ) (d : A) → i < length xs → f (get_or ys i d) ≡ f (get_or xs i d)) → map f ys ≡ map f xs
map_same f [] [] len same = refl
map_same f [] (y ∷ ys) len same = absurd (omega (arith, len))
map_same f (x ∷ xs) [] len same = absurd (omega (arith, len))
map_same f (x ∷ xs) (y ∷ ys) len same = λ i. same zero x (omega arith) i ∷ map_same f xs ys (omega (arith, len)) (λ k d h. same (suc k) d (omega arith)) i

-- of one element more
pub from_last_more : {A B : Type 0} (f : A → B) (xs : List A) (x : A) → from_last f (xs ++ x ∷ []) ≡ f x ∷ from_last f xs
from_last_more f [] x = refl
from_last_more f (y ∷ xs) x = ap (λ l. l ++ f y ∷ []) (from_last_more f xs x)

-- what is read goes with what is mapped
pub map_from_last : {A B C : Type 0} (g : B → C) (f : A → B) (xs : List A) → map g (from_last f xs) ≡ from_last (λ x. g (f x)) xs
map_from_last g f [] = refl
map_from_last g f (x ∷ xs) = map-append g (from_last f xs) (f x ∷ []) ∙ ap (λ l. l ++ g (f x) ∷ []) (map_from_last g f xs)

-- as many are read as there are
pub length_from_last : {A B : Type 0} (f : A → B) (xs : List A) → length (from_last f xs) ≡ length xs
length_from_last f [] = refl
length_from_last f (x ∷ xs) = let rest = length_from_last f xs in let more = length_push (from_last f xs) (f x) in omega (arith, rest, more)

-- lists with the same values, read from the last on
pub from_last_same : {A : Type 0} (f : A → ℕ) (xs ys : List A) → map f xs ≡ map f ys → from_last f xs ≡ from_last f ys
from_last_same f xs ys same = of_map f xs ∙ ap turned same ∙ sym (of_map f ys)
  where
    turned : List ℕ → List ℕ
    turned l = from_last (λ n. n) l

    of_map : {A : Type 0} (f : A → ℕ) (xs : List A) → from_last f xs ≡ from_last (λ n. n) (map f xs)
    of_map f [] = refl
    of_map f (x ∷ xs) = ap (λ l. l ++ f x ∷ []) (of_map f xs)

-- a last element, whose value goes over from one list to the other
pub one_over : {A B C : Type 0} (f : A → C) (g : B → C) (xs ys : List A) (zs ws : List B) (x : A) (z : B) (all : List C) → xs ≡ ys ++ x ∷ [] → ws ≡ zs ++ z ∷ [] → f x ≡ g z → map f xs ++ from_last g zs ≡ all → map f ys ++ from_last g ws ≡ all
one_over f g xs ys zs ws x z all was now same before = ap (λ l. map f ys ++ from_last g l) now ∙ ap (λ l. map f ys ++ l) (from_last_more g zs z) ∙ step f ys x (g z) (from_last g zs) same ∙ ap (λ l. map f l ++ from_last g zs) (sym was) ∙ before
  where
    step : {A C : Type 0} (f : A → C) (ys : List A) (x : A) (c : C) (rest : List C) → f x ≡ c → map f ys ++ c ∷ rest ≡ map f (ys ++ x ∷ []) ++ rest
    step f [] x c rest same = ap (λ v. v ∷ rest) (sym same)
    step f (y ∷ ys) x c rest same = ap (λ l. f y ∷ l) (step f ys x c rest same)

-- the same back
pub one_back : {A B C : Type 0} (f : A → C) (g : B → C) (xs ys : List A) (zs ws : List B) (x : A) (z : B) (all : List C) → ys ≡ xs ++ x ∷ [] → zs ≡ ws ++ z ∷ [] → f x ≡ g z → map f xs ++ from_last g zs ≡ all → map f ys ++ from_last g ws ≡ all
one_back f g xs ys zs ws x z all now was same before = ap (λ l. map f l ++ from_last g ws) now ∙ step f xs x (g z) (from_last g ws) same ∙ ap (λ l. map f xs ++ l) (sym (from_last_more g ws z)) ∙ ap (λ l. map f xs ++ from_last g l) (sym was) ∙ before
  where
    step : {A C : Type 0} (f : A → C) (ys : List A) (x : A) (c : C) (rest : List C) → f x ≡ c → map f (ys ++ x ∷ []) ++ rest ≡ map f ys ++ c ∷ rest
    step f [] x c rest same = ap (λ v. v ∷ rest) same
    step f (y ∷ ys) x c rest same = ap (λ l. f y ∷ l) (step f ys x c rest same)

not_pair : {A B : Type 0} (R : A → B → Type 0) (ys : List B) (y : B) → AllPairs R [] (ys ++ y ∷ []) → ⊥
not_pair R [] y pairs = pairs
not_pair R (z ∷ ys) y pairs = pairs

not_pair_left : {A B : Type 0} (R : A → B → Type 0) (xs : List A) (x : A) → AllPairs R (xs ++ x ∷ []) [] → ⊥
not_pair_left R [] x pairs = pairs
not_pair_left R (z ∷ xs) x pairs = pairs

-- of pairs the last one, and those before it
pub pairs_last : {A B : Type 0} (R : A → B → Type 0) (xs : List A) (ys : List B) (x : A) (y : B) → AllPairs R (xs ++ x ∷ []) (ys ++ y ∷ []) → AllPairs R xs ys × R x y
pairs_last R [] [] x y pairs = (tt, pairs.0)
pairs_last R [] (z ∷ ys) x y pairs = absurd (not_pair R ys y pairs.1)
pairs_last R (w ∷ xs) [] x y pairs = absurd (not_pair_left R xs x pairs.1)
pairs_last R (w ∷ xs) (z ∷ ys) x y pairs = let rest = pairs_last R xs ys x y pairs.1 in ((pairs.0, rest.0), rest.1)

-- the same of lists that were taken apart
pub pairs_taken : {A B : Type 0} (R : A → B → Type 0) (all xs : List A) (every ys : List B) (x : A) (y : B) → all ≡ xs ++ x ∷ [] → every ≡ ys ++ y ∷ [] → AllPairs R all every → AllPairs R xs ys × R x y
pairs_taken R all xs every ys x y one two pairs = pairs_last R xs ys x y (subst (λ l. AllPairs R l (ys ++ y ∷ [])) one (subst (AllPairs R all) two pairs))

-- one pair more
pub pairs_more : {A B : Type 0} (R : A → B → Type 0) (xs : List A) (ys : List B) (x : A) (y : B) → AllPairs R xs ys → R x y → AllPairs R (xs ++ x ∷ []) (ys ++ y ∷ [])
pairs_more R [] [] x y pairs pair = (pair, tt)
pairs_more R [] (z ∷ ys) x y pairs pair = absurd pairs
pairs_more R (w ∷ xs) [] x y pairs pair = absurd pairs
pairs_more R (w ∷ xs) (z ∷ ys) x y pairs pair = (pairs.0, pairs_more R xs ys x y pairs.1 pair)

-- of all elements the last one, and those before it
pub all_last : {A : Type 0} (P : A → Type 0) (xs : List A) (x : A) → AllByRecursion P (xs ++ x ∷ []) → AllByRecursion P xs × P x
all_last P [] x all = (tt, all.0)
all_last P (y ∷ xs) x all = let rest = all_last P xs x all.1 in ((all.0, rest.0), rest.1)

pub all_more : {A : Type 0} (P : A → Type 0) (xs : List A) (x : A) → AllByRecursion P xs → P x → AllByRecursion P (xs ++ x ∷ [])
all_more P [] x all here = (here, tt)
all_more P (y ∷ xs) x all here = (all.0, all_more P xs x all.1 here)

-- the same of a list that was taken apart, or put together
pub all_taken : {A : Type 0} (P : A → Type 0) (every xs : List A) (x : A) → every ≡ xs ++ x ∷ [] → AllByRecursion P every → AllByRecursion P xs × P x
all_taken P every xs x is all = all_last P xs x (subst (AllByRecursion P) is all)

pub all_put : {A : Type 0} (P : A → Type 0) (every xs : List A) (x : A) → every ≡ xs ++ x ∷ [] → AllByRecursion P xs → P x → AllByRecursion P every
all_put P every xs x is all here = subst (AllByRecursion P) (sym is) (all_more P xs x all here)

-- a last element that goes over from one list to the other, as it is
pub item_over : {B C : Type 0} (g : B → C) (xs ys : List C) (zs ws : List B) (x : C) (z : B) (all : List C) → xs ≡ ys ++ x ∷ [] → ws ≡ zs ++ z ∷ [] → x ≡ g z → xs ++ from_last g zs ≡ all → ys ++ from_last g ws ≡ all
item_over g xs ys zs ws x z all was now same before = ap (λ l. ys ++ from_last g l) now ∙ ap (λ l. ys ++ l) (from_last_more g zs z) ∙ ap (λ v. ys ++ v ∷ from_last g zs) (sym same) ∙ sym (append_assoc ys (x ∷ []) (from_last g zs)) ∙ ap (λ l. l ++ from_last g zs) (sym was) ∙ before

pub item_back : {B C : Type 0} (g : B → C) (xs ys : List C) (zs ws : List B) (x : C) (z : B) (all : List C) → ys ≡ xs ++ x ∷ [] → zs ≡ ws ++ z ∷ [] → x ≡ g z → xs ++ from_last g zs ≡ all → ys ++ from_last g ws ≡ all
item_back g xs ys zs ws x z all now was same before = ap (λ l. l ++ from_last g ws) now ∙ append_assoc xs (x ∷ []) (from_last g ws) ∙ ap (λ v. xs ++ v ∷ from_last g ws) same ∙ ap (λ l. xs ++ l) (sym (from_last_more g ws z)) ∙ ap (λ l. xs ++ from_last g l) (sym was) ∙ before

-- where no element is left, all have gone over
pub nothing_left : {B C : Type 0} (g : B → C) (xs all : List C) (zs : List B) → zs ≡ [] → xs ++ from_last g zs ≡ all → xs ≡ all
nothing_left g xs all zs none before = sym (append-nil xs) ∙ ap (λ l. xs ++ from_last g l) (sym none) ∙ before
