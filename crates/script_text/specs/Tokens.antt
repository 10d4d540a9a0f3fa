-- The tokens of a line, and how they are taken one after the other.
use Rattle.std.specs.Prelude.{◌≡◌, ◌≢◌, ⊤, ℕ, Bool, true, false, Option, Some, None, List, [], ◌∷◌, ◌==◌, ◌||◌, not, option_map, option_and_then, if◌then◌else◌}
use Rattle.std.specs.Str.{bytes_eq}
use Rattle.script_text.specs.TextLines.{is_blank, with_byte}

infixl 10 ◌>>=◌
-- a value, and what is made of it; or none
abbrev pub ◌>>=◌ : {A B : Type 0} → Option A → (A → Option B) → Option B
o >>= f = option_and_then f o

-- the characters that are tokens by themselves
abbrev pub is_mark : ℕ → Bool
is_mark byte = (byte == 40) || (byte == 41) || (byte == 44) || (byte == 61) || (byte == 58) || (byte == 42) || (byte == 59)

-- a byte of a longer token
abbrev pub in_word : ℕ → Bool
in_word byte = not (is_blank byte || is_mark byte)

-- the text goes on with a byte of a longer token
abbrev pub goes_on : List ℕ → Bool
goes_on [] = false
goes_on (byte ∷ bytes) = in_word byte

-- the tokens of a line
unfoldable pub tokens : List ℕ → List (List ℕ)
tokens [] = []
tokens (byte ∷ bytes) = if is_blank byte then tokens bytes else if in_word byte then (if goes_on bytes then with_byte byte (tokens bytes) else (byte ∷ []) ∷ tokens bytes) else (byte ∷ []) ∷ tokens bytes

-- the tokens after these words, where the tokens begin with them
unfoldable pub after_words : List (List ℕ) → List (List ℕ) → Option (List (List ℕ))
after_words [] ts = Some ts
after_words (word ∷ words) [] = None
after_words (word ∷ words) (t ∷ ts) = if bytes_eq t word then after_words words ts else None

-- the tokens after those of a text, where the tokens begin with them
abbrev pub said : List ℕ → List (List ℕ) → Option (List (List ℕ))
said text ts = after_words (tokens text) ts

-- what the first token means, and the tokens after it
abbrev pub taken : {X : Type 0} → (List ℕ → Option X) → List (List ℕ) → Option (X × List (List ℕ))
taken of [] = None
taken of (t ∷ ts) = option_map (λ x. (x, ts)) (of t)

-- what the token after these words means, and the tokens after it
unfoldable pub after : {X : Type 0} → List ℕ → (List ℕ → Option X) → List (List ℕ) → Option (X × List (List ℕ))
after text of ts = said text ts >>= taken of

-- a command ends here, with or without a semicolon
unfoldable pub is_end : List (List ℕ) → Bool
is_end [] = true
is_end (t ∷ []) = bytes_eq t (59 ∷ [])
is_end (t ∷ u ∷ ts) = false

-- the end of a command
abbrev pub ended : Option (List (List ℕ)) → Bool
ended None = false
ended (Some ts) = is_end ts

-- a command ends after these words
unfoldable pub ends : List ℕ → List (List ℕ) → Bool
ends text ts = ended (said text ts)

-- the value, where a command ends after these words
abbrev pub done : {X : Type 0} → List ℕ → List (List ℕ) → X → Option X
done text ts x = if ends text ts then Some x else None

-- the text is empty, or begins with a byte that isn't blank
abbrev pub StartsToken : List ℕ → Type 0
StartsToken [] = ⊤
StartsToken (byte ∷ bytes) = is_blank byte ≡ false

-- two bytes differ, and neither is a blank
pub record IsApart (a b : ℕ) : Type 0 where
  pub other : a ≢ b
  pub first : is_blank a ≡ false
  pub second : is_blank b ≡ false
