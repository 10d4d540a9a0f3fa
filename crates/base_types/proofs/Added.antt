-- Texts added one after the other, and a loop that adds a text for each item.
use Rattle.std.proofs.Common.{◌≡◌, ℕ, ◌+◌, ◌<◌, List, [], ◌∷◌, ◌++◌, length, take, get_or, Result, Err, sym, ap, ◌∙◌, append_assoc, append-nil}
use Rattle.std.specs.List.{flat_map}
use Rattle.std.proofs.lemmas.List.{take_more}
use Rattle.std.proofs.lemmas.Grind.{flat_map-append}
use Rattle.base_types.specs.Adding.{Extends, Adds}

-- what begins with a list begins with each prefix of it
pub extends_more : (old mid new first : List ℕ) → mid ≡ old ++ first → Extends mid new → Extends old new
extends_more old mid new first p q = record { more = first ++ q.more; is = q.is ∙ ap (λ l. l ++ q.more) p ∙ append_assoc old first q.more }

-- memory ran out within the first part
pub first_not_added : {T E : Type 0} (old new : List ℕ) (result : Result T E) (e : E) (whole : List ℕ) → result ≡ Err e → Extends old new → Adds old new result whole
first_not_added old new result e whole failed p = rw failed p

-- the texts of the first items and that of one more
pub texts_more : {X : Type 0} (f : X → List ℕ) (xs : List X) (i : ℕ) (x : X) → i < length xs → x ≡ get_or xs i x → flat_map f (take (i + 1) xs) ≡ flat_map f (take i xs) ++ f x
texts_more f xs i x within is =
    ap (flat_map f) (take_more xs i x within) ∙ flat_map-append f (take i xs) (get_or xs i x ∷ []) ∙ ap (λ l. flat_map f (take i xs) ++ l) (append-nil (f (get_or xs i x)) ∙ ap f (sym is))

-- one more turn of a loop that adds a text for each item
pub adding_more : {X : Type 0} (f : X → List ℕ) (xs : List X) (i : ℕ) (x : X) (old mid new : List ℕ) → i < length xs → x ≡ get_or xs i x
    → mid ≡ old ++ flat_map f (take i xs) → new ≡ mid ++ f x → new ≡ old ++ flat_map f (take (i + 1) xs)
adding_more f xs i x old mid new within is p q =
    q ∙ ap (λ l. l ++ f x) p ∙ append_assoc old (flat_map f (take i xs)) (f x) ∙ ap (λ l. old ++ l) (sym (texts_more f xs i x within is))
