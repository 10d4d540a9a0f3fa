-- The first name that repeats an earlier one, found by a set of the names before it.
use Rattle.std.proofs.Common.{◌≡◌, ◌<◌, ◌+◌, ◌∙◌, ℕ, Bool, true, false, cond, not, ◌||◌, Some, List, [], ◌∷◌, ◌++◌, length, take, drop, get_or, if◌then◌else◌, ap, sym, refl}
use Rattle.std.specs.List.{list_any}
use Rattle.std.specs.Str.{bytes_eq}
use Rattle.std.specs.Ordering.{nat_cmp, is_eq}
use Rattle.std.specs.Cmp.Lexicographic.{slice_cmp}
use Rattle.std.proofs.lemmas.Cmp.{nat_list_eq_equiv}
use Rattle.std.proofs.lemmas.List.{take_more, drop_more}
use Rattle.std.proofs.lemmas.List.Folds.{list_any_more}
use Rattle.std.proofs.lemmas.Map.Text.{is_eq-slice_cmp}
use Rattle.ddl_effect.specs.Commands.{first_twice}

-- the name at an index, after those before it
first_from : (names : List (List ℕ)) (i : ℕ) (y : List ℕ) → i < length names → y ≡ get_or names i y
    → first_twice (take i names) (drop i names) ≡ (if list_any (bytes_eq y) (take i names) then Some y else first_twice (take i names ++ y ∷ []) (drop (i + 1) names))
first_from names i y within is = ap (first_twice (take i names)) (drop_more names i y within ∙ ap (λ x. x ∷ drop (i + 1) names) (sym is))

-- a name that is there already is the one
pub repeated_at : (names : List (List ℕ)) (i : ℕ) (y : List ℕ) → i < length names → y ≡ get_or names i y → list_any (bytes_eq y) (take i names) ≡ true
    → first_twice (take i names) (drop i names) ≡ Some y
repeated_at names i y within is there = first_from names i y within is ∙ ap (λ b. cond b (Some y) (first_twice (take i names ++ y ∷ []) (drop (i + 1) names))) there

-- a name that isn't there yet is one of those before the next
pub repeated_later : (names : List (List ℕ)) (i : ℕ) (y : List ℕ) → i < length names → y ≡ get_or names i y → list_any (bytes_eq y) (take i names) ≡ false
    → first_twice (take i names) (drop i names) ≡ first_twice (take (i + 1) names) (drop (i + 1) names)
repeated_later names i y within is new =
    first_from names i y within is
    ∙ ap (λ b. cond b (Some y) (first_twice (take i names ++ y ∷ []) (drop (i + 1) names))) new
    ∙ ap (λ l. first_twice l (drop (i + 1) names)) (ap (λ x. take i names ++ x ∷ []) is ∙ sym (take_more names i y within))

bytes_eq-sym : (xs ys : List ℕ) → bytes_eq xs ys ≡ bytes_eq ys xs
bytes_eq-sym xs ys = nat_list_eq_equiv.symm xs ys

or_else : (b c : Bool) → cond b true c ≡ c || b
or_else true true = refl
or_else true false = refl
or_else false true = refl
or_else false false = refl

-- what a set of the names before a place has, once the name there is put in
pub seen_more : (names : List (List ℕ)) (i : ℕ) (y q : List ℕ) (before after : Bool) → i < length names → y ≡ get_or names i y → before ≡ list_any (bytes_eq q) (take i names)
    → after ≡ cond (is_eq (slice_cmp nat_cmp y q)) true before → after ≡ list_any (bytes_eq q) (take (i + 1) names)
seen_more names i y q before after h is so_far put =
    put ∙ rw (is_eq-slice_cmp y q, bytes_eq-sym y q, or_else (bytes_eq q y) before, so_far, list_any_more (bytes_eq q) names i y h, ← is) refl

pub was_there : (added there : Bool) → added ≡ not there → added ≡ false → there ≡ true
was_there added true h k = refl
was_there added false h k = cc

pub was_new : (added there : Bool) → added ≡ not there → added ≡ true → there ≡ false
was_new added true h k = cc
was_new added false h k = refl
