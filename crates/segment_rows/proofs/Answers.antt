-- Two answers of a scan, compared.
use Rattle.std.proofs.Common.{◌≡◌, ◌≢◌, ◌≤◌, ◌<◌, ◌∙◌, ◌+◌, ◌&&◌, ℕ, zero, suc, get_or, drop, Bool, true, false, List, [], ◌∷◌, length, map, refl, sym, ap, subst, arith}
use Rattle.std.proofs.lemmas.List.{drop_all}
use Rattle.history_model.specs.Covered.{same_row, same_rows}
use Rattle.segment_rows.specs.Types.{Row}

pub lengths_differ : (f : Row → Row) (xs ys : List Row) → length xs ≢ length ys → same_rows (map f xs) (map f ys) ≡ false
lengths_differ f [] [] other = absurd (other refl)
lengths_differ f [] (y ∷ ys) other = refl
lengths_differ f (x ∷ xs) [] other = refl
lengths_differ f (x ∷ xs) (y ∷ ys) other = ap (λ t. same_row (f x) (f y) && t) (lengths_differ f xs ys (λ same. other (omega (arith, same)))) ∙ none (same_row (f x) (f y))
  where
    none : (t : Bool) → (t && false) ≡ false
    none true = refl
    none false = refl

-- two answers from a place on
pub same_next : (f : Row → Row) (xs ys : List Row) (i : ℕ) (x y d e : Row) → i < length xs → length xs ≡ length ys → x ≡ get_or xs i d → y ≡ get_or ys i e
    → same_rows (map f (drop i xs)) (map f (drop i ys)) ≡ (same_row (f x) (f y) && same_rows (map f (drop (i + 1) xs)) (map f (drop (i + 1) ys)))
same_next f [] ys i x y d e within long is is' = absurd (omega (arith, within))
same_next f (a ∷ xs) [] i x y d e within long is is' = absurd (omega (arith, long))
same_next f (a ∷ xs) (b ∷ ys) zero x y d e within long is is' = (λ j. same_row (f (sym is j)) (f (sym is' j)) && same_rows (map f xs) (map f ys))
same_next f (a ∷ xs) (b ∷ ys) (suc i) x y d e within long is is' =
    let further : suc (i + 1) ≡ suc i + 1 = omega arith in
    same_next f xs ys i x y d e (omega (arith, within)) (omega (arith, long)) is is' ∙ ap (λ n. same_row (f x) (f y) && same_rows (map f (drop n (a ∷ xs))) (map f (drop n (b ∷ ys)))) further

pub same_end : (f : Row → Row) (xs ys : List Row) (i : ℕ) → length xs ≤ i → length xs ≡ length ys → same_rows (map f (drop i xs)) (map f (drop i ys)) ≡ true
same_end f xs ys i past long = (λ j. same_rows (map f (drop_all i xs past j)) (map f (drop_all i ys (subst (λ n. n ≤ i) long past) j)))

-- two answers whose rows at a place are equal, or not
pub same_at : (f : Row → Row) (xs ys : List Row) (i : ℕ) (x y d e a b : Row) (t : Bool) → i < length xs → length xs ≡ length ys → x ≡ get_or xs i d → y ≡ get_or ys i e → a ≡ f x → b ≡ f y → t ≡ same_row a b
    → (t && same_rows (map f (drop (i + 1) xs)) (map f (drop (i + 1) ys))) ≡ same_rows (map f (drop i xs)) (map f (drop i ys))
same_at f xs ys i x y d e a b t within long is is' first second same =
    let rest = same_rows (map f (drop (i + 1) xs)) (map f (drop (i + 1) ys)) in
    ap (λ u. u && rest) (same ∙ (λ j. same_row (first j) (second j))) ∙ sym (same_next f xs ys i x y d e within long is is')
