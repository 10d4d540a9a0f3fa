-- What a sink has taken, where it tells: it grows by a text, or by a prefix of one.
use Rattle.std.specs.Prelude.{◌≡◌, ℕ, ◌<◌, ◌≤◌, List, ◌++◌, length, take, ⊤, Option, None, Some, Result, MatchResult, IfOk}

-- the bytes taken grow by a text; a sink may stop telling, and never tells again
abbrev pub Grows : Option (List ℕ) → Option (List ℕ) → List ℕ → Type 0
Grows old None text = ⊤
Grows None (Some after) text = ⊥
Grows (Some before) (Some after) text = after ≡ before ++ text

-- the bytes taken stay; a sink may stop telling, and never tells again
abbrev pub Stays : Option (List ℕ) → Option (List ℕ) → Type 0
Stays old None = ⊤
Stays None (Some after) = ⊥
Stays (Some before) (Some after) = after ≡ before

-- the bytes taken grow by a prefix of a text
pub record GrowsByFront (old new : Option (List ℕ)) (text : List ℕ) : Type 0 where
  pub front : List ℕ
  pub rest : List ℕ
  pub parts : text ≡ front ++ rest
  pub grows : Grows old new front

-- one write takes as many of the first bytes as it says, and none where it fails
abbrev pub Takes : {E : Type 0} → Option (List ℕ) → Option (List ℕ) → Result ℕ E → List ℕ → Type 0
Takes old new result piece = MatchResult result (λ n. Grows old new (take n piece)) (λ _. Stays old new)

-- one write takes at most the piece, and at least a byte of a piece that isn't empty
abbrev pub TakesSome : {E : Type 0} → Result ℕ E → List ℕ → Type 0
TakesSome result piece = IfOk result (λ n. (n ≤ length piece) × (0 < length piece → 0 < n))

-- a whole text was sent, or a prefix of it before the sink failed
abbrev pub Sends : {T E : Type 0} → Option (List ℕ) → Option (List ℕ) → Result T E → List ℕ → Type 0
Sends old new result text = MatchResult result (λ _. Grows old new text) (λ _. GrowsByFront old new text)
