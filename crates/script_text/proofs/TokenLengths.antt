-- A line's tokens, taken one after the other by their lengths.
use Rattle.std.proofs.Common.{◌≡◌, ◌<◌, ℕ, suc, Bool, true, false, not, ◌||◌, ◌==◌, List, [], ◌∷◌, length, get_or, take, drop, refl, arith}
use Rattle.std.specs.List.{prefix_len}
use Rattle.std.proofs.lemmas.Bool.Decides.{nat_tests}
use Rattle.script_text.specs.TextLines.{is_blank}
use Rattle.script_text.specs.Tokens.{tokens, is_mark, in_word, goes_on, StartsToken}

pub passes : (p : ℕ → Bool) (b : ℕ) (bs : List ℕ) → p b ≡ true → prefix_len p (b ∷ bs) ≡ suc (prefix_len p bs)
passes p b bs e = rw e (omega arith)

pub fails : (p : ℕ → Bool) (b : ℕ) (bs : List ℕ) → p b ≡ false → prefix_len p (b ∷ bs) ≡ 0
fails p b bs e = rw e refl

skip_by : (b : ℕ) (bs : List ℕ) (blank : Bool) → is_blank b ≡ blank
    → (tokens (drop (prefix_len is_blank bs) bs) ≡ tokens bs) × StartsToken (drop (prefix_len is_blank bs) bs)
    → (tokens (drop (prefix_len is_blank (b ∷ bs)) (b ∷ bs)) ≡ tokens (b ∷ bs)) × StartsToken (drop (prefix_len is_blank (b ∷ bs)) (b ∷ bs))
unfolding tokens
skip_by b bs true e h = rw (passes is_blank b bs e) (rw e h)
skip_by b bs false e h = rw (fails is_blank b bs e) (refl, e)

-- without the blanks before the first token the tokens are the same
pub skips : (line : List ℕ) → (tokens (drop (prefix_len is_blank line) line) ≡ tokens line) × StartsToken (drop (prefix_len is_blank line) line)
skips [] = (refl, tt)
skips (b ∷ bs) = skip_by b bs (is_blank b) refl (skips bs)

neither : (a b : Bool) → not (a || b) ≡ true → a ≡ false
neither true b h = cc
neither false b h = refl

pub no_blank : (b : ℕ) → in_word b ≡ true → is_blank b ≡ false
no_blank b e = neither (is_blank b) (is_mark b) e

stopped : (bs : List ℕ) → goes_on bs ≡ false → prefix_len in_word bs ≡ 0
stopped [] e = refl
stopped (b ∷ bs) e = fails in_word b bs e

word_by : (b : ℕ) (bs : List ℕ) (more : Bool) → goes_on bs ≡ more → in_word b ≡ true
    → (goes_on bs ≡ true → tokens bs ≡ take (prefix_len in_word bs) bs ∷ tokens (drop (prefix_len in_word bs) bs))
    → tokens (b ∷ bs) ≡ take (prefix_len in_word (b ∷ bs)) (b ∷ bs) ∷ tokens (drop (prefix_len in_word (b ∷ bs)) (b ∷ bs))
unfolding tokens
word_by b bs true e word h = rw (passes in_word b bs word, word, no_blank b word, e, h e) refl
word_by b bs false e word h = rw (passes in_word b bs word, word, no_blank b word, e, stopped bs e) refl

-- a line that begins with a longer token
word_first : (line : List ℕ) → goes_on line ≡ true → tokens line ≡ take (prefix_len in_word line) line ∷ tokens (drop (prefix_len in_word line) line)
word_first [] e = cc
word_first (b ∷ bs) e = word_by b bs (goes_on bs) refl e (word_first bs)

-- a line that begins with a mark
mark_first : (b : ℕ) (bs : List ℕ) → is_blank b ≡ false → in_word b ≡ false → tokens (b ∷ bs) ≡ (b ∷ []) ∷ tokens bs
unfolding tokens
mark_first b bs blank word = rw (word, blank) refl

-- the first token by its first byte, of several bytes or of one
pub word_token : (line : List ℕ) → 0 < length line → in_word (get_or line 0 0) ≡ true → tokens line ≡ take (prefix_len in_word line) line ∷ tokens (drop (prefix_len in_word line) line)
word_token [] some e = absurd (omega arith)
word_token (b ∷ bs) some e = word_first (b ∷ bs) e

pub mark_token : (line : List ℕ) → StartsToken line → 0 < length line → in_word (get_or line 0 0) ≡ false → tokens line ≡ take 1 line ∷ tokens (drop 1 line)
mark_token [] starts some e = absurd (omega arith)
mark_token (b ∷ bs) starts some e = mark_first b bs starts e

pub is_zero : (n : ℕ) → (n == 0) ≡ true → n ≡ 0
is_zero n e = grind (arith, nat_tests)

-- nothing has no tokens
pub no_tokens : (line : List ℕ) → (length line == 0) ≡ true → tokens line ≡ []
unfolding tokens
no_tokens [] e = refl
no_tokens (b ∷ bs) e = let k : length (b ∷ bs) ≡ 0 = is_zero (length (b ∷ bs)) e in absurd (omega arith)
