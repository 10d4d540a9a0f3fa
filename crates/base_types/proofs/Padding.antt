-- A list copied to the start of an array that holds one element everywhere.
use Rattle.std.proofs.Common.{◌≡◌, ℕ, List, ◌++◌, ◌∙◌, ap, length, replicate, drop}
use Rattle.std.proofs.lemmas.List.{drop-replicate}
use Rattle.base_types.specs.Padded.{filled, padded}

pub copied_to_start : {A : Type 0} (filler : A) (width : ℕ) (start xs : List A) → start ≡ xs → start ++ drop (length xs) (replicate width filler) ≡ filled filler width xs
copied_to_start filler width start xs same =
    ap (λ ys. ys ++ drop (length xs) (replicate width filler)) same ∙ ap (λ ys. xs ++ ys) (drop-replicate (length xs) width filler)

pub copied_to_zeros : (width : ℕ) (start xs : List ℕ) → start ≡ xs → start ++ drop (length xs) (replicate width 0) ≡ padded width xs
copied_to_zeros width start xs same = copied_to_start 0 width start xs same
