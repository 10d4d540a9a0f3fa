-- Elements of a list, as a slice of it gives them and as a loop takes them one by one.
use Rattle.std.proofs.Common.{◌≡◌, ◌≤◌, ◌<◌, ◌∙◌, ◌+◌, ◌&&◌, ℕ, zero, suc, Some, None, slice_get, get_or, ltb, cond, map, filter, replicate, append_assoc, take, drop, Bool, true, false, List, [], ◌∷◌, ◌++◌, length, refl, sym, ap, subst, arith}
use Rattle.std.specs.List.{flat_map, list_all}
use Rattle.std.proofs.lemmas.Bool.{ltb-false}
use Rattle.std.proofs.lemmas.List.{flat_map_more, map-append, replicate_more, take_all, take_more}
use Rattle.std.proofs.lemmas.List.Elements.{filter_more}
use Rattle.std.proofs.lemmas.Option.{slice_get-get_or, slice_get_read, slice_get_past}

-- the element at a place, or none past the end
pub given_at : {X : Type 0} (all given : List X) (i : ℕ) (x : X) → given ≡ all → i < length given → x ≡ get_or given i x → slice_get all i ≡ Some x
given_at all given i x same within is = ap (λ l. slice_get l i) (sym same) ∙ slice_get_read given (length given) i x refl within is

pub none_at : {X : Type 0} (all given : List X) (i : ℕ) → given ≡ all → false ≡ ltb i (length given) → slice_get all i ≡ None
none_at all given i same past = ap (λ l. slice_get l i) (sym same) ∙ slice_get_past given i (ltb-false i (length given) (sym past))

-- the elements up to a place, with the one there
pub prefix_more : {X : Type 0} (xs : List X) (i : ℕ) (x d : X) → i < length xs → x ≡ get_or xs i d → take (i + 1) xs ≡ take i xs ++ x ∷ []
prefix_more xs i x d within is = take_more xs i d within ∙ ap (λ y. take i xs ++ y ∷ []) (sym is)

-- what was copied, with one element more
pub take_next : {X : Type 0} (xs : List X) (i : ℕ) (x d : X) (found : List X) → i < length xs → x ≡ get_or xs i d → found ≡ take i xs → found ++ x ∷ [] ≡ take (i + 1) xs
take_next xs i x d found within is before = ap (λ l. l ++ x ∷ []) before ∙ sym (prefix_more xs i x d within is)

-- what is made of each element, with one element more
pub map_next : {X A : Type 0} (f : X → A) (first : List A) (xs : List X) (i : ℕ) (x d : X) (found : List A) → i < length xs → x ≡ get_or xs i d → found ≡ first ++ map f (take i xs) → found ++ f x ∷ [] ≡ first ++ map f (take (i + 1) xs)
map_next f first xs i x d found within is before =
    ap (λ l. l ++ f x ∷ []) before ∙ append_assoc first (map f (take i xs)) (f x ∷ []) ∙ ap (λ l. first ++ l) (sym (map-append f (take i xs) (x ∷ [])) ∙ ap (map f) (sym (prefix_more xs i x d within is)))

pub flat_map_next : {X A : Type 0} (f : X → List A) (first : List A) (xs : List X) (i : ℕ) (x d : X) (found : List A) → i < length xs → x ≡ get_or xs i d → found ≡ first ++ flat_map f (take i xs) → found ++ f x ≡ first ++ flat_map f (take (i + 1) xs)
flat_map_next f first xs i x d found within is before = ap (λ l. l ++ f x) before ∙ flat_map_more f first (take i xs) x ∙ ap (λ l. first ++ flat_map f l) (sym (prefix_more xs i x d within is))

-- those that pass a test, with one element more
pub filter_next : {X : Type 0} (p : X → Bool) (xs : List X) (i : ℕ) (x d : X) (found : List X) (test : Bool) → i < length xs → x ≡ get_or xs i d → p x ≡ test → found ≡ filter p (take i xs) → found ++ cond test (x ∷ []) [] ≡ filter p (take (i + 1) xs)
filter_next p xs i x d found test within is passes before =
    ap (λ l. l ++ cond test (x ∷ []) []) before ∙ ap (λ t. filter p (take i xs) ++ cond t (x ∷ []) []) (sym passes) ∙ ap (λ y. filter p (take i xs) ++ cond (p y) (y ∷ []) []) is ∙ sym (filter_more p xs i d within)

-- and at the end all of them
pub all_done : {X Y : Type 0} (f : List X → Y) (xs : List X) (i : ℕ) (made : Y) → length xs ≤ i → made ≡ f (take i xs) → made ≡ f xs
all_done f xs i made past before = before ∙ ap f (take_all i xs past)

-- one more of the same after a list
pub filled_next : {X : Type 0} (first : List X) (n : ℕ) (x : X) (found : List X) → found ≡ first ++ replicate n x → found ++ x ∷ [] ≡ first ++ replicate (n + 1) x
filled_next first n x found before = ap (λ l. l ++ x ∷ []) before ∙ append_assoc first (replicate n x) (x ∷ []) ∙ ap (λ l. first ++ l) (replicate_more n x)

-- whether all from a place on pass a test, where there is an element, and where there is none
pub all_next : {X : Type 0} (f : X → Bool) (xs : List X) (i : ℕ) (x : X) → slice_get xs i ≡ Some x → list_all f (drop i xs) ≡ (f x && list_all f (drop (i + 1) xs))
all_next f [] i x at = absurd (cc)
all_next f (y ∷ xs) zero x at = let same : y ≡ x = ap (λ o. elim o [ None ↦ y | Some z ↦ z ]) at in ap (λ z. f z && list_all f xs) same
all_next f (y ∷ xs) (suc i) x at = let further : suc (i + 1) ≡ suc i + 1 = omega arith in all_next f xs i x at ∙ ap (λ n. f x && list_all f (drop n (y ∷ xs))) further

pub all_end : {X : Type 0} (f : X → Bool) (xs : List X) (i : ℕ) → slice_get xs i ≡ None → list_all f (drop i xs) ≡ true
all_end f [] zero at = refl
all_end f [] (suc i) at = refl
all_end f (y ∷ xs) zero at = absurd (cc)
all_end f (y ∷ xs) (suc i) at = all_end f xs i at

all_from : {X : Type 0} (f : X → Bool) (xs : List X) (i : ℕ) (x d : X) → i < length xs → x ≡ get_or xs i d → list_all f (drop i xs) ≡ (f x && list_all f (drop (i + 1) xs))
all_from f xs i x d within is = all_next f xs i x (slice_get-get_or xs i d within ∙ ap Some (sym is))

-- where one more was tested, what is left decides as before
pub all_at : {X : Type 0} (f : X → Bool) (xs ys : List X) (i : ℕ) (x d : X) (t : Bool) → xs ≡ ys → i < length xs → x ≡ get_or xs i d → t ≡ f x → (t && list_all f (drop (i + 1) ys)) ≡ list_all f (drop i ys)
all_at f xs ys i x d t same within is passes =
    sym (all_from f ys i x d (subst (λ l. i < length l) same within) (is ∙ ap (λ l. get_or l i d) same) ∙ ap (λ b. b && list_all f (drop (i + 1) ys)) (sym passes))
