-- Lines that begin with other bytes have other first tokens.
use Rattle.std.proofs.Common.{◌≡◌, ◌≢◌, ◌<◌, ◌∙◌, ℕ, Bool, true, false, None, List, [], ◌∷◌, length, get_or, refl, sym, ne_eqb, arith}
use Rattle.script_text.specs.TextLines.{is_blank, with_byte}
use Rattle.script_text.specs.Tokens.{tokens, in_word, goes_on, after_words, IsApart}

-- the first token begins with a byte
abbrev BeginWith : ℕ → List (List ℕ) → Type 0
BeginWith byte [] = ⊥
BeginWith byte ([] ∷ ts) = ⊥
BeginWith byte ((b ∷ t) ∷ ts) = byte ≡ b

with_first : (byte : ℕ) (ts : List (List ℕ)) → BeginWith byte (with_byte byte ts)
with_first byte [] = refl
with_first byte (t ∷ ts) = refl

first_by : (byte : ℕ) (bytes : List ℕ) (word more : Bool) → is_blank byte ≡ false → in_word byte ≡ word → goes_on bytes ≡ more → BeginWith byte (tokens (byte ∷ bytes))
unfolding tokens
first_by byte bytes false more blank e f = rw (e, blank) refl
first_by byte bytes true false blank e f = rw (e, blank, f) refl
first_by byte bytes true true blank e f = rw (e, blank, f) (with_first byte (tokens bytes))

-- that of a line that begins with no blank begins with the line's first byte
first_of_line : (byte : ℕ) (bytes : List ℕ) → is_blank byte ≡ false → BeginWith byte (tokens (byte ∷ bytes))
first_of_line byte bytes blank = first_by byte bytes (in_word byte) (goes_on bytes) blank refl refl

apart : (a b : ℕ) (ts words : List (List ℕ)) → BeginWith a ts → BeginWith b words → a ≢ b → after_words words ts ≡ None
unfolding after_words
apart a b [] words at of other = absurd at
apart a b ([] ∷ ts) words at of other = absurd at
apart a b (t ∷ ts) [] at of other = absurd of
apart a b (t ∷ ts) ([] ∷ words) at of other = absurd of
apart a b ((c ∷ t) ∷ ts) ((d ∷ word) ∷ words) at of other = rw (ne_eqb c d (λ same. other (at ∙ same ∙ sym of))) refl

-- a line doesn't begin with words that begin with another byte
pub other_words : (line words : List ℕ) → 0 < length line → 0 < length words → IsApart (get_or line 0 0) (get_or words 0 0) → after_words (tokens words) (tokens line) ≡ None
other_words [] words some more is = absurd (omega (arith, some))
other_words (a ∷ line) [] some more is = absurd (omega (arith, more))
other_words (a ∷ line) (b ∷ words) some more is = apart a b (tokens (a ∷ line)) (tokens (b ∷ words)) (first_of_line a line is.first) (first_of_line b words is.second) is.other
