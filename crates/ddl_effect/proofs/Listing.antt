-- What some of a list's elements give, one element more.
use Rattle.std.proofs.Common.{◌≡◌, ◌<◌, ◌+◌, ◌∙◌, ℕ, Option, Some, None, List, [], ◌∷◌, ◌++◌, filter_map, length, take, get_or, ap, sym, append-nil}
use Rattle.std.specs.List.{cons_option}
use Rattle.std.proofs.lemmas.List.{take_more}
use Rattle.std.proofs.lemmas.List.Elements.{filter_map-append}

taken : {X Y : Type 0} (h : X → Option Y) (xs : List X) (i : ℕ) (x : X) → i < length xs → x ≡ get_or xs i x → filter_map h (take (i + 1) xs) ≡ filter_map h (take i xs) ++ cons_option (h x) []
taken h xs i x within is = ap (filter_map h) (take_more xs i x within ∙ ap (λ y. take i xs ++ y ∷ []) (sym is)) ∙ filter_map-append h (take i xs) (x ∷ [])

-- an element that gives something
pub taken_some : {X Y : Type 0} (h : X → Option Y) (xs : List X) (i : ℕ) (x : X) (y : Y) → i < length xs → x ≡ get_or xs i x → h x ≡ Some y → filter_map h (take (i + 1) xs) ≡ filter_map h (take i xs) ++ y ∷ []
taken_some h xs i x y within is gives = taken h xs i x within is ∙ ap (λ o. filter_map h (take i xs) ++ cons_option o []) gives

-- and one that gives nothing
pub taken_none : {X Y : Type 0} (h : X → Option Y) (xs : List X) (i : ℕ) (x : X) → i < length xs → x ≡ get_or xs i x → h x ≡ None → filter_map h (take (i + 1) xs) ≡ filter_map h (take i xs)
taken_none h xs i x within is gives = taken h xs i x within is ∙ ap (λ o. filter_map h (take i xs) ++ cons_option o []) gives ∙ append-nil (filter_map h (take i xs))
