-- The commands of a script of which a backend does no more than its first ones.
use Rattle.std.proofs.Common.{◌≡◌, ◌<◌, ◌+◌, ◌==◌, ◌∙◌, ℕ, zero, suc, Bool, true, false, None, List, [], ◌∷◌, cond, refl, sym, ap, map, filter, take, slice_get, arith}
use Rattle.std.specs.List.{AllByRecursion}
use Rattle.std.proofs.lemmas.Bool.{both_ways, eqb-true, eq-eqb}
use Rattle.std.proofs.lemmas.List.{take_all}
use Rattle.base_types.specs.Commands.{IsCommand}
use Rattle.base_types.specs.declared.command.Placed.{Placed}
use Rattle.cacheless.specs.Session.{first_of}
use Rattle.backend_core.specs.Types.{Command, Scenario}
use Rattle.backend_core.specs.Cuts.{cut_commands, cut, IsCut}

-- the commands of a backend among placed ones
abbrev said_of : ℕ → List Placed → List Command
said_of b placed = map (λ p. p.command) (filter (λ p. p.backend == b) placed)

own_cut : (b n : ℕ) (placed : List Placed) → said_of b (cut_commands b n placed) ≡ take n (said_of b placed)
own_cut b n [] = sym (take_all n [] (omega arith))
own_cut b zero (p ∷ rest) = by_test (p.backend == b) refl (own_cut b zero rest)
  where
    by_test : (t : Bool) → (p.backend == b) ≡ t → said_of b (cut_commands b zero rest) ≡ take zero (said_of b rest) → said_of b (cond t (cut_commands b zero rest) (p ∷ cut_commands b zero rest)) ≡ take zero (said_of b (p ∷ rest))
    by_test true own before = before
    by_test false other before = ap (λ t. map (λ q. q.command) (cond t (p ∷ filter (λ q. q.backend == b) (cut_commands b zero rest)) (filter (λ q. q.backend == b) (cut_commands b zero rest)))) other ∙ before
own_cut b (suc n) (p ∷ rest) = by_test (p.backend == b) refl (own_cut b n rest) (own_cut b (suc n) rest)
  where
    by_test : (t : Bool) → (p.backend == b) ≡ t → said_of b (cut_commands b n rest) ≡ take n (said_of b rest) → said_of b (cut_commands b (suc n) rest) ≡ take (suc n) (said_of b rest)
        → said_of b (p ∷ cond t (cut_commands b n rest) (cut_commands b (suc n) rest)) ≡ take (suc n) (said_of b (p ∷ rest))
    by_test true own fewer before =
        ap (λ t. map (λ q. q.command) (cond t (p ∷ filter (λ q. q.backend == b) (cut_commands b n rest)) (filter (λ q. q.backend == b) (cut_commands b n rest)))) own
        ∙ ap (λ l. p.command ∷ l) fewer
        ∙ sym (ap (λ t. take (suc n) (map (λ q. q.command) (cond t (p ∷ filter (λ q. q.backend == b) rest) (filter (λ q. q.backend == b) rest)))) own)
    by_test false other fewer before =
        ap (λ t. map (λ q. q.command) (cond t (p ∷ filter (λ q. q.backend == b) (cut_commands b (suc n) rest)) (filter (λ q. q.backend == b) (cut_commands b (suc n) rest)))) other
        ∙ before
        ∙ sym (ap (λ t. take (suc n) (map (λ q. q.command) (cond t (p ∷ filter (λ q. q.backend == b) rest) (filter (λ q. q.backend == b) rest)))) other)

-- a command of the backend isn't another's
not_other : (a b c : ℕ) → (a == b) ≡ false → (c == b) ≡ true → (c == a) ≡ false
not_other a b c apart own = by_test (c == a) refl
  where
    by_test : (t : Bool) → (c == a) ≡ t → t ≡ false
    by_test false is = refl
    by_test true is = absurd (both_ways _ apart (eq-eqb a b (sym (eqb-true c a is) ∙ eqb-true c b own)))

-- one command more in front
with_first : (a : ℕ) (p : Placed) (one two : List Placed) → said_of a one ≡ said_of a two → said_of a (p ∷ one) ≡ said_of a (p ∷ two)
with_first a p one two same = by_test (p.backend == a)
  where
    by_test : (t : Bool) → map (λ q. q.command) (cond t (p ∷ filter (λ q. q.backend == a) one) (filter (λ q. q.backend == a) one)) ≡ map (λ q. q.command) (cond t (p ∷ filter (λ q. q.backend == a) two) (filter (λ q. q.backend == a) two))
    by_test true = ap (λ l. p.command ∷ l) same
    by_test false = same

others_cut : (a b n : ℕ) (placed : List Placed) → (a == b) ≡ false → said_of a (cut_commands b n placed) ≡ said_of a placed
others_cut a b n [] apart = refl
others_cut a b zero (p ∷ rest) apart = by_test (p.backend == b) refl (others_cut a b zero rest apart)
  where
    by_test : (t : Bool) → (p.backend == b) ≡ t → said_of a (cut_commands b zero rest) ≡ said_of a rest → said_of a (cond t (cut_commands b zero rest) (p ∷ cut_commands b zero rest)) ≡ said_of a (p ∷ rest)
    by_test true own before = before ∙ sym (ap (λ t. map (λ q. q.command) (cond t (p ∷ filter (λ q. q.backend == a) rest) (filter (λ q. q.backend == a) rest))) (not_other a b p.backend apart own))
    by_test false other before = with_first a p (cut_commands b zero rest) rest before
others_cut a b (suc n) (p ∷ rest) apart = by_test (p.backend == b) (others_cut a b n rest apart) (others_cut a b (suc n) rest apart)
  where
    by_test : (t : Bool) → said_of a (cut_commands b n rest) ≡ said_of a rest → said_of a (cut_commands b (suc n) rest) ≡ said_of a rest → said_of a (p ∷ cond t (cut_commands b n rest) (cut_commands b (suc n) rest)) ≡ said_of a (p ∷ rest)
    by_test true fewer before = with_first a p (cut_commands b n rest) rest fewer
    by_test false fewer before = with_first a p (cut_commands b (suc n) rest) rest before

spelled_cut : (b n : ℕ) (placed : List Placed) → AllByRecursion (λ p. IsCommand p.command) placed → AllByRecursion (λ p. IsCommand p.command) (cut_commands b n placed)
spelled_cut b n [] all = tt
spelled_cut b zero (p ∷ rest) all = by_test (p.backend == b) (spelled_cut b zero rest all.1)
  where
    by_test : (t : Bool) → AllByRecursion (λ q. IsCommand q.command) (cut_commands b zero rest) → AllByRecursion (λ q. IsCommand q.command) (cond t (cut_commands b zero rest) (p ∷ cut_commands b zero rest))
    by_test true more = more
    by_test false more = (all.0, more)
spelled_cut b (suc n) (p ∷ rest) all = (all.0, by_test (p.backend == b) (spelled_cut b n rest all.1) (spelled_cut b (suc n) rest all.1))
  where
    by_test : (t : Bool) → AllByRecursion (λ q. IsCommand q.command) (cut_commands b n rest) → AllByRecursion (λ q. IsCommand q.command) (cut_commands b (suc n) rest) → AllByRecursion (λ q. IsCommand q.command) (cond t (cut_commands b n rest) (cut_commands b (suc n) rest))
    by_test true fewer more = fewer
    by_test false fewer more = more

-- so there is such a script
pub cut_is : (b n : ℕ) (whole : Scenario) → IsCut b n whole (cut b n whole)
cut_is b n whole = record {
  backends = refl;
  own = own_cut b n whole.commands;
  others = λ a apart. others_cut a b n whole.commands apart;
  spelled = λ all. spelled_cut b n whole.commands all;
}

-- the first of the first elements
pub first_cut : (n : ℕ) (commands : List Command) → (n ≡ 0 → ⊥) → first_of (take n commands) ≡ first_of commands
first_cut n [] some = ap first_of (take_all n [] (omega arith))
first_cut zero (x ∷ xs) some = absurd (some refl)
first_cut (suc n) (x ∷ xs) some = refl

pub slice_get_cut : {X : Type 0} (n i : ℕ) (xs : List X) → i < n → slice_get (take n xs) i ≡ slice_get xs i
slice_get_cut n i [] less = ap (λ l. slice_get l i) (take_all n [] (omega arith))
slice_get_cut zero i (x ∷ xs) less = absurd (omega (arith, less))
slice_get_cut (suc n) zero (x ∷ xs) less = refl
slice_get_cut (suc n) (suc i) (x ∷ xs) less = slice_get_cut n i xs (omega (arith, less))

-- after the cut nothing is left
pub slice_get_end : {X : Type 0} (n : ℕ) (xs : List X) → slice_get (take n xs) n ≡ None
slice_get_end n [] = ap (λ l. slice_get l n) (take_all n [] (omega arith))
slice_get_end zero (x ∷ xs) = refl
slice_get_end (suc n) (x ∷ xs) = slice_get_end n xs

-- from a place before the cut on
pub from_there : (i n : ℕ) → i < n → (j : ℕ) × (n ≡ i + j)
from_there zero n less = (n, omega arith)
from_there (suc i) zero less = absurd (omega (arith, less))
from_there (suc i) (suc n) less = let rest = from_there i n (omega (arith, less)) in (rest.0, omega (arith, rest.1))
