-- Short lists that are kept in an array, with one element in all places after them.
use Rattle.std.proofs.Common.{◌≡◌, ◌≤◌, ◌-◌, ◌∙◌, ℕ, List, length, take, replicate, ◌++◌, arith, sym, ap}
use Rattle.std.proofs.lemmas.List.{length-take-le}

-- a list with an element after it as often as it takes, so many in all
abbrev pub filled : {A : Type 0} → A → ℕ → List A → List A
filled filler width xs = xs ++ replicate (width - length xs) filler

-- the array is so wide, and holds a list of this length and the filler after it
pub record IsFilled {A : Type 0} (filler : A) (width len : ℕ) (array : List A) : Type 0 where
  pub short : len ≤ width
  pub long : length array ≡ width
  pub rest : array ≡ filled filler width (take len array)

-- the list gives its array back
pub filled_again : {A T : Type 0} (make : ℕ → List A → T) (filler : A) (width len : ℕ) (array : List A) → IsFilled filler width len array
    → make (length (take len array)) (filled filler width (take len array)) ≡ make len array
filled_again make filler width len array kept =
    let fits : len ≤ length array = omega (arith, kept.long, kept.short) in
    ap (λ n. make n (filled filler width (take len array))) (length-take-le len array fits) ∙ ap (make len) (sym kept.rest)

-- a list of numbers with zeros after it, so many in all
abbrev pub padded : ℕ → List ℕ → List ℕ
padded width xs = filled 0 width xs

-- the array is so wide, and holds a list of this length and zeros after it
abbrev pub IsPadded : ℕ → ℕ → List ℕ → Type 0
IsPadded width len array = IsFilled 0 width len array

-- the list of numbers gives its array back
pub made_again : {T : Type 0} (make : ℕ → List ℕ → T) (width len : ℕ) (array : List ℕ) → IsPadded width len array
    → make (length (take len array)) (padded width (take len array)) ≡ make len array
made_again make width len array kept = filled_again make 0 width len array kept
