-- Pieces of a list from one place to another.
use Rattle.std.proofs.Common.{◌≡◌, ◌∙◌, ℕ, ◌+◌, ◌-◌, ◌≤◌, List, [], ◌++◌, length, take, drop, sym, ap, subst, arith, drop-drop, length-drop, length-append}
use Rattle.std.proofs.Math.Seq.{take-add, take-length}
use Rattle.std.proofs.lemmas.List.{take-append-le, drop-append-le}
use Rattle.std.specs.List.{slice_range}

pub range-none : {X : Type 0} (xs : List X) (a : ℕ) → slice_range xs a a ≡ []
range-none xs a = let none : a - a ≡ 0 = omega arith in ap (λ n. take n (drop a xs)) none

pub range-join : {X : Type 0} (xs : List X) (a b c : ℕ) → a ≤ b → b ≤ c → slice_range xs a b ++ slice_range xs b c ≡ slice_range xs a c
range-join xs a b c low high =
    let parts : c - a ≡ (b - a) + (c - b) = omega (arith, low, high) in
    let there : a + (b - a) ≡ b = omega (arith, low) in
    sym (ap (λ n. take n (drop a xs)) parts ∙ take-add (b - a) (c - b) (drop a xs) ∙ ap (λ ys. slice_range xs a b ++ take (c - b) ys) (drop-drop (b - a) a xs ∙ ap (λ n. drop n xs) there))

-- what is added at the end is in no piece before it
pub range-before : {X : Type 0} (xs ys : List X) (a b : ℕ) → a ≤ b → b ≤ length xs → slice_range (xs ++ ys) a b ≡ slice_range xs a b
range-before xs ys a b low high =
    let short : a ≤ length xs = omega (arith, low, high) in
    let fits : b - a ≤ length (drop a xs) = subst (λ n. b - a ≤ n) (sym (length-drop a xs)) (omega (arith, low, high)) in
    ap (take (b - a)) (drop-append-le a xs ys short) ∙ take-append-le (b - a) (drop a xs) ys fits

-- and it is at the end of the last piece
pub range-last : {X : Type 0} (xs ys : List X) (a : ℕ) → a ≤ length xs → slice_range (xs ++ ys) a (length (xs ++ ys)) ≡ slice_range xs a (length xs) ++ ys
range-last xs ys a low =
    let joined : length (xs ++ ys) - a ≡ length (drop a xs ++ ys) = rw (length-append, length-append, length-drop) (omega (arith, low)) in
    let whole : length xs - a ≡ length (drop a xs) = sym (length-drop a xs) in
    ap (take (length (xs ++ ys) - a)) (drop-append-le a xs ys low) ∙ ap (λ n. take n (drop a xs ++ ys)) joined ∙ take-length (drop a xs ++ ys) ∙ sym (ap (λ n. take n (drop a xs) ++ ys) whole ∙ ap (λ zs. zs ++ ys) (take-length (drop a xs)))
