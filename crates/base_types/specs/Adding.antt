-- A text that is added at the end of a list of bytes.
use Rattle.std.specs.Prelude.{◌≡◌, ℕ, List, ◌++◌, Result, MatchResult}

-- the new list begins with the old one
pub record Extends (old new : List ℕ) : Type 0 where
  pub more : List ℕ
  pub is : new ≡ old ++ more

-- a text was added; after an error, more bytes may be there than before
abbrev pub Adds : {T E : Type 0} → List ℕ → List ℕ → Result T E → List ℕ → Type 0
Adds old new result text = MatchResult result (λ _. new ≡ old ++ text) (λ _. Extends old new)
