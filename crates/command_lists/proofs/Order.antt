-- Lists in the order of their commands, parted at one.
use Rattle.std.proofs.Common.{◌≡◌, ◌∙◌, ℕ, zero, suc, ◌<◌, ◌≤◌, Bool, true, false, not, List, [], ◌∷◌, length, get_or, take, drop, filter, nat_le, nat_lt, refl, sym, ap, arith, leb-true, lt-ltb, ltb-true, leb-false, ltb-false}
use Rattle.std.specs.List.{AllByRecursion}
use Rattle.std.specs.List.Sorted.{IsPartitionedBy, IsPartitionPoint}
use Rattle.command_lists.specs.Types.{Start}
use Rattle.command_lists.specs.Starts.{AreInOrder}

every_at : {X : Type 0} (P : X → Type 0) (xs : List X) (i : ℕ) (d : X) → AllByRecursion P xs → i < length xs → P (get_or xs i d)
every_at P [] i d all short = absurd (omega (arith, short))
every_at P (x ∷ xs) zero d all short = all.0
every_at P (x ∷ xs) (suc i) d all short = every_at P xs i d all.1 (omega (arith, short))

pub parted : (from : ℕ) (starts : List Start) → AreInOrder starts → IsPartitionedBy (λ start. nat_lt start.command from) starts
parted from [] order i j d le short is = absurd (omega (arith, short))
parted from (s ∷ later) order zero zero d le short is = is
parted from (s ∷ later) order zero (suc j) d le short is = lt-ltb _ _ (omega (arith, ltb-true _ _ is, every_at (λ next. s.command < next.command) later j d order.0 (omega (arith, short))))
parted from (s ∷ later) order (suc i) zero d le short is = absurd (omega (arith, le))
parted from (s ∷ later) order (suc i) (suc j) d le short is = parted from later order.1 i j d (omega (arith, le)) (omega (arith, short)) is

pub kept : {X : Type 0} (p : X → Bool) (x : X) (xs : List X) → p x ≡ true → filter p (x ∷ xs) ≡ x ∷ filter p xs
kept p x xs is = rw is refl

pub left_out : {X : Type 0} (p : X → Bool) (x : X) (xs : List X) → p x ≡ false → filter p (x ∷ xs) ≡ filter p xs
left_out p x xs is = rw is refl

pub filter-all : {X : Type 0} (p : X → Bool) (xs : List X) → AllByRecursion (λ x. p x ≡ true) xs → filter p xs ≡ xs
filter-all p [] all = refl
filter-all p (x ∷ xs) all = kept p x xs all.0 ∙ ap (λ ys. x ∷ ys) (filter-all p xs all.1)

pub filter-none : {X : Type 0} (p : X → Bool) (xs : List X) → AllByRecursion (λ x. p x ≡ false) xs → filter p xs ≡ []
filter-none p [] all = refl
filter-none p (x ∷ xs) all = left_out p x xs all.0 ∙ filter-none p xs all.1

-- where the test turns is where the list is cut
pub cut_at : {X : Type 0} (p q : X → Bool) (xs : List X) (k : ℕ) → ((x : X) → q x ≡ not (p x)) → k ≤ length xs → IsPartitionPoint (λ x. p x ≡ true) (λ x. p x ≡ false) xs k → (take k xs ≡ filter p xs) × (drop k xs ≡ filter q xs)
cut_at p q [] zero other bound point = (refl, refl)
cut_at p q [] (suc k) other bound point = absurd (omega (arith, bound))
cut_at p q (x ∷ xs) zero other bound point =
    let here : p x ≡ false = point.1 0 x (omega arith) (omega arith) in
    let rest = cut_at p q xs zero other (omega arith) ((λ i d low high. absurd (omega (arith, high))), (λ i d low high. point.1 (suc i) d (omega (arith, low)) (omega (arith, high)))) in
    (rest.0 ∙ sym (left_out p x xs here), ap (λ ys. x ∷ ys) rest.1 ∙ sym (kept q x xs (other x ∙ ap not here)))
cut_at p q (x ∷ xs) (suc k) other bound point =
    let here : p x ≡ true = point.0 0 x (omega arith) (omega arith) in
    let rest = cut_at p q xs k other (omega (arith, bound)) ((λ i d low high. point.0 (suc i) d (omega (arith, low)) (omega (arith, high))), (λ i d low high. point.1 (suc i) d (omega (arith, low)) (omega (arith, high)))) in
    (ap (λ ys. x ∷ ys) rest.0 ∙ sym (kept p x xs here), rest.1 ∙ sym (left_out q x xs (other x ∙ ap not here)))

-- a command is before another, or from it on
pub either_side : (from : ℕ) (start : Start) → nat_le from start.command ≡ not (nat_lt start.command from)
either_side from start = by_tests (nat_lt start.command from) (nat_le from start.command) refl refl
  where
    by_tests : (t u : Bool) → nat_lt start.command from ≡ t → nat_le from start.command ≡ u → u ≡ not t
    by_tests true true lt le = absurd (omega (arith, ltb-true _ _ lt, leb-true _ _ le))
    by_tests true false lt le = refl
    by_tests false true lt le = refl
    by_tests false false lt le = absurd (omega (arith, ltb-false _ _ lt, leb-false _ _ le))
