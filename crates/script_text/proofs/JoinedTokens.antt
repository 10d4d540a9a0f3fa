-- The tokens of texts one after the other.
use Rattle.std.proofs.Common.{◌≡◌, ◌≤◌, ◌-◌, ℕ, suc, Bool, true, false, not, ◌&&◌, cond, inl, inr, List, [], ◌∷◌, ◌++◌, length, get_or, refl, sym, ap, ◌∙◌, append_assoc, append-nil, arith}
use Rattle.std.specs.List.{AllByRecursion, flat_map}
use Rattle.std.proofs.lemmas.Bool.{and_cases, and_left, and_right, not-false, cond_both}
use Rattle.std.proofs.lemmas.Bool.Decides.{nat_tests}
use Rattle.script_text.specs.TextLines.{is_blank, with_byte}
use Rattle.script_text.specs.Tokens.{tokens, in_word, goes_on}
use Rattle.script_text.specs.Spelling.{takes_none_after, takes_none_before, needs_blank, with_piece, with_pieces}
use Rattle.script_text.proofs.Clean.{is_clean, IsClean, IsPiece}
use Rattle.script_text.proofs.TokenLengths.{no_blank}

-- a word goes on from a text into the one after it
abbrev pub joins : List ℕ → List ℕ → Bool
joins [] b = false
joins (x ∷ []) b = in_word x && goes_on b
joins (x ∷ y ∷ a) b = joins (y ∷ a) b

last_by : (x : ℕ) (ts : List (List ℕ)) (blank word more : Bool) → word && more ≡ false
    → cond blank ts (cond word (cond more (with_byte x ts) ((x ∷ []) ∷ ts)) ((x ∷ []) ∷ ts)) ≡ cond blank [] (cond word ((x ∷ []) ∷ []) ((x ∷ []) ∷ [])) ++ ts
last_by x ts true word more h = refl
last_by x ts false true true h = absurd cc
last_by x ts false true false h = refl
last_by x ts false false more h = refl

before_more : (x : ℕ) (ts us : List (List ℕ)) → 1 ≤ length ts → with_byte x (ts ++ us) ≡ with_byte x ts ++ us
before_more x [] us some = absurd (omega arith)
before_more x (t ∷ ts) us some = refl

more_by : (x : ℕ) (ts us vs : List (List ℕ)) (blank word more : Bool) → vs ≡ ts ++ us → (more ≡ true → 1 ≤ length ts)
    → cond blank vs (cond word (cond more (with_byte x vs) ((x ∷ []) ∷ vs)) ((x ∷ []) ∷ vs)) ≡ cond blank ts (cond word (cond more (with_byte x ts) ((x ∷ []) ∷ ts)) ((x ∷ []) ∷ ts)) ++ us
more_by x ts us vs true word more e some = e
more_by x ts us vs false true true e some = ap (with_byte x) e ∙ before_more x ts us (some refl)
more_by x ts us vs false true false e some = ap (λ (w : List (List ℕ)). (x ∷ []) ∷ w) e
more_by x ts us vs false false more e some = ap (λ (w : List (List ℕ)). (x ∷ []) ∷ w) e

with_byte_some : (x : ℕ) (ts : List (List ℕ)) → 1 ≤ length (with_byte x ts)
with_byte_some x [] = omega arith
with_byte_some x (t ∷ ts) = omega arith

some_tokens : (x : ℕ) (a : List ℕ) → in_word x ≡ true → 1 ≤ length (tokens (x ∷ a))
unfolding tokens
some_tokens x a word =
    rw (word, no_blank x word) (cond_both (goes_on a) (with_byte x (tokens a)) ((x ∷ []) ∷ tokens a) (λ ts. 1 ≤ length ts) (λ more. with_byte_some x (tokens a)) (λ last. omega arith))

-- the tokens of two texts are those of the one and of the other, where no word goes on
parted : (a b : List ℕ) → joins a b ≡ false → tokens (a ++ b) ≡ tokens a ++ tokens b
unfolding tokens
parted [] b h = refl
parted (x ∷ []) b h = last_by x (tokens b) (is_blank x) (in_word x) (goes_on b) h
parted (x ∷ y ∷ a) b h = more_by x (tokens (y ∷ a)) (tokens b) (tokens (y ∷ a ++ b)) (is_blank x) (in_word x) (in_word y) (parted (y ∷ a) b h) (some_tokens y a)

-- the last byte of a text, and a line feed where it has none
abbrev pub ending : List ℕ → ℕ
ending [] = 10
ending (x ∷ []) = x
ending (x ∷ y ∷ a) = ending (y ∷ a)

pub ending_is : (a : List ℕ) → get_or a (length a - 1) 10 ≡ ending a
ending_is [] = refl
ending_is (x ∷ []) = refl
ending_is (x ∷ y ∷ a) = let e : length (x ∷ y ∷ a) - 1 ≡ suc (length (y ∷ a) - 1) = omega arith in rw e (ending_is (y ∷ a))

joins_not : (a b : List ℕ) → in_word (ending a) && goes_on b ≡ false → joins a b ≡ false
joins_not [] b h = refl
joins_not (x ∷ []) b h = h
joins_not (x ∷ y ∷ a) b h = joins_not (y ∷ a) b h

-- the tokens of two texts with a blank between them
over_blank : (a b : List ℕ) → tokens (a ++ 32 ∷ b) ≡ tokens a ++ tokens b
unfolding tokens
over_blank a b = parted a (32 ∷ b) (joins_not a (32 ∷ b) (and_right (in_word (ending a)) false refl))

clean_ending : (a : List ℕ) → 1 ≤ length a → IsClean a → is_clean (ending a) ≡ true
clean_ending [] some h = absurd (omega arith)
clean_ending (x ∷ []) some h = h.0
clean_ending (x ∷ y ∷ a) some h = clean_ending (y ∷ a) (omega arith) h.1

behind_mark : (b : ℕ) → is_clean b ≡ true → takes_none_after b ≡ true → in_word b ≡ false
behind_mark b clean mark = grind (arith, nat_tests)

before_mark : (b : ℕ) → is_clean b ≡ true → takes_none_before b ≡ true → in_word b ≡ false
before_mark b clean mark = grind (arith, nat_tests)

-- where no blank is between clean bytes, no word goes on
apart : (a b : ℕ) → is_clean a ≡ true → is_clean b ≡ true → not (takes_none_after a) && not (takes_none_before b) ≡ false → in_word a && in_word b ≡ false
apart a b clean_a clean_b h = elim (and_cases (not (takes_none_after a)) (not (takes_none_before b)) h) [
  | inl mark ↦ and_left (in_word a) (in_word b) (behind_mark a clean_a (not-false (takes_none_after a) mark))
  | inr mark ↦ and_right (in_word a) (in_word b) (before_mark b clean_b (not-false (takes_none_before b) mark))
]

piece_by : (text piece : List ℕ) (blank : Bool) → needs_blank text piece ≡ blank → 1 ≤ length text → IsClean text → IsPiece piece → tokens (with_piece text piece) ≡ tokens text ++ tokens piece
unfolding with_piece
piece_by text piece true e some clean h = rw e (ap tokens (append_assoc text (32 ∷ []) piece) ∙ over_blank text piece)
piece_by text [] false e some clean h = absurd (omega (arith, h.0))
piece_by text (y ∷ ys) false e some clean h =
    let none : not (takes_none_after (ending text)) && not (takes_none_before y) ≡ false = rw (ending_is text) at e in
    rw e (parted text (y ∷ ys) (joins_not text (y ∷ ys) (apart (ending text) y (clean_ending text some clean) h.1.0 none)))

-- the tokens of a text with a piece after it
piece_tokens : (text piece : List ℕ) → IsClean text → IsPiece piece → tokens (with_piece text piece) ≡ tokens text ++ tokens piece
unfolding with_piece tokens
piece_tokens [] piece clean h = refl
piece_tokens (x ∷ text) piece clean h = piece_by (x ∷ text) piece (needs_blank (x ∷ text) piece) refl (omega arith) clean h

both_clean : (a b : List ℕ) → IsClean a → IsClean b → IsClean (a ++ b)
both_clean [] b h k = k
both_clean (x ∷ a) b h k = (h.0, both_clean a b h.1 k)

with_clean : (text piece : List ℕ) → IsClean text → IsClean piece → IsClean (with_piece text piece)
unfolding with_piece
with_clean text piece h k = cond_both (needs_blank text piece) (text ++ 32 ∷ [] ++ piece) (text ++ piece) IsClean (λ blank. both_clean (text ++ 32 ∷ []) piece (both_clean text (32 ∷ []) h (refl, tt)) k) (λ none. both_clean text piece h k)

-- a text with pieces after it is clean, and has the tokens of each
pub pieces_clean : (text : List ℕ) (pieces : List (List ℕ)) → IsClean text → AllByRecursion IsPiece pieces → IsClean (with_pieces text pieces)
pieces_clean text [] clean h = clean
pieces_clean text (p ∷ ps) clean h = pieces_clean (with_piece text p) ps (with_clean text p clean h.0.1) h.1

pub pieces_tokens : (text : List ℕ) (pieces : List (List ℕ)) → IsClean text → AllByRecursion IsPiece pieces → tokens (with_pieces text pieces) ≡ tokens text ++ flat_map tokens pieces
pieces_tokens text [] clean h = sym (append-nil (tokens text))
pieces_tokens text (p ∷ ps) clean h =
    pieces_tokens (with_piece text p) ps (with_clean text p clean h.0.1) h.1 ∙ ap (λ (ts : List (List ℕ)). ts ++ flat_map tokens ps) (piece_tokens text p clean h.0)
    ∙ append_assoc (tokens text) (tokens p) (flat_map tokens ps)
