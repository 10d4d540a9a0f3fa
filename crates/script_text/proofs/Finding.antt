-- The first element of a list that passes a test, as a loop looks for it.
use Rattle.std.proofs.Common.{◌≡◌, ◌<◌, ◌≤◌, ℕ, Bool, true, false, ◌+◌, Option, Some, None, List, length, get_or, drop, refl, sym, ap, ◌∙◌, add-one, drop-cons}
use Rattle.std.specs.List.{find}
use Rattle.std.proofs.lemmas.List.{drop_all}

-- this one
pub finds : {X : Type 0} (p : X → Bool) (xs : List X) (i : ℕ) (x : X) (whole : Option X) → i < length xs → x ≡ get_or xs i x → p x ≡ true → find p (drop i xs) ≡ whole → Some x ≡ whole
finds p xs i x whole lt is pass so_far =
    let step : find p (drop i xs) ≡ Some x = rw (drop-cons xs i x lt, ← is, pass) refl in
    sym step ∙ so_far

-- one after this
pub finds_later : {X : Type 0} (p : X → Bool) (xs : List X) (i : ℕ) (x : X) (whole : Option X) → i < length xs → x ≡ get_or xs i x → p x ≡ false → find p (drop i xs) ≡ whole → find p (drop (i + 1) xs) ≡ whole
finds_later p xs i x whole lt is fail so_far =
    let step : find p (drop i xs) ≡ find p (drop (i + 1) xs) = rw (add-one, drop-cons xs i x lt, ← is, fail) refl in
    sym step ∙ so_far

-- none is left
pub finds_none : {X : Type 0} (p : X → Bool) (xs : List X) (i : ℕ) (whole : Option X) → length xs ≤ i → find p (drop i xs) ≡ whole → None ≡ whole
finds_none p xs i whole le so_far = sym (ap (find p) (drop_all i xs le)) ∙ so_far
