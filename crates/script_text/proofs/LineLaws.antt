-- The lines of a script's text, and what is read of each.
use Rattle.std.proofs.Common.{◌≡◌, ◌<◌, ◌≤◌, ◌-◌, ℕ, suc, Bool, true, false, not, ◌==◌, cond, List, [], ◌∷◌, ◌++◌, length, get_or, map, refl, sym, ap, ◌∙◌, append_assoc, append-nil, length-append, arith}
use Rattle.std.specs.List.{AllByRecursion, flat_map, list_any}
use Rattle.std.proofs.Math.Seq.{get_or-append_seam, take-append_seam}
use Rattle.std.proofs.lemmas.List.Sums.{fold-append}
use Rattle.std.proofs.lemmas.Bool.{and_right, cond_both}
use Rattle.std.proofs.lemmas.Bool.Decides.{nat_tests}
use Rattle.script_text.specs.TextLines.{is_blank, with_byte, text_lines, ends_in, but_last, bare, counts, is_bad_byte, small}
use Rattle.script_text.specs.Tokens.{tokens}
use Rattle.script_text.specs.Spelling.{needs_blank, takes_none_after, with_piece, with_pieces, line_end}
use Rattle.script_text.specs.Grammar.{Draft, any_line, line_after, tokens_line}
use Rattle.script_text.proofs.Clean.{is_clean, IsClean, IsPiece}
use Rattle.script_text.proofs.JoinedTokens.{ending, ending_is, pieces_clean, pieces_tokens}

-- ---- a text's lines

no_lf : (b : ℕ) → is_clean b ≡ true → (b == 10) ≡ false
no_lf b h = grind (arith, nat_tests)

-- clean bytes up to a line feed are a line
pub first_text_line : (text rest : List ℕ) → IsClean text → text_lines (text ++ 10 ∷ rest) ≡ (text ++ 10 ∷ []) ∷ text_lines rest
unfolding text_lines
first_text_line [] rest h = refl
first_text_line (b ∷ text) rest h = rw (no_lf b h.0) (ap (with_byte b) (first_text_line text rest h.1))

one_longer : (text : List ℕ) (b : ℕ) → length (text ++ b ∷ []) ≡ suc (length text)
one_longer text b = simp length-append (omega arith)

not_zero : (n : ℕ) → 0 < n → (n == 0) ≡ false
not_zero n some = grind (arith, nat_tests)

last_is : (text : List ℕ) (b c : ℕ) → ends_in c (text ++ b ∷ []) ≡ (b == c)
last_is text b c =
    let some : (length (text ++ b ∷ []) == 0) ≡ false = not_zero (length (text ++ b ∷ [])) (omega (arith, one_longer text b)) in
    let place : length (text ++ b ∷ []) - 1 ≡ length text = omega (arith, one_longer text b) in
    rw (some, place, get_or-append_seam text b [] 0) refl

front_is : (text : List ℕ) (b : ℕ) → but_last (text ++ b ∷ []) ≡ text
front_is text b =
    let place : length (text ++ b ∷ []) - 1 ≡ length text = omega (arith, one_longer text b) in
    rw (place, take-append_seam text (b ∷ [])) refl

no_cr_byte : (b : ℕ) → is_clean b ≡ true → (b == 13) ≡ false
no_cr_byte b h = grind (arith, nat_tests)

no_cr_last : (text : List ℕ) → IsClean text → (get_or text (length text - 1) 0 == 13) ≡ false
no_cr_last [] h = refl
no_cr_last (x ∷ []) h = no_cr_byte x h.0
no_cr_last (x ∷ y ∷ text) h = let e : length (x ∷ y ∷ text) - 1 ≡ suc (length (y ∷ text) - 1) = omega arith in rw e (no_cr_last (y ∷ text) h.1)

no_cr : (text : List ℕ) → IsClean text → ends_in 13 text ≡ false
no_cr text h = rw (no_cr_last text h) (and_right (not (length text == 0)) false refl)

-- clean bytes and a line feed are the bytes
bare_line : (text : List ℕ) → IsClean text → bare (text ++ 10 ∷ []) ≡ text
unfolding bare
bare_line text h = rw (last_is text 10 10, front_is text 10, no_cr text h) refl

no_bad_byte : (b : ℕ) → is_clean b ≡ true → is_bad_byte b ≡ false
no_bad_byte b h = grind (arith, nat_tests)

no_bad : (text : List ℕ) → IsClean text → list_any is_bad_byte text ≡ false
no_bad [] h = refl
no_bad (b ∷ text) h = rw (no_bad_byte b h.0, no_bad text h.1) refl

small_byte : (b : ℕ) → is_clean b ≡ true → small b ≡ b
small_byte b h = grind (arith, nat_tests)

all_small : (text : List ℕ) → IsClean text → map small text ≡ text
all_small [] h = refl
all_small (b ∷ text) h = rw (small_byte b h.0, all_small text h.1) refl

-- ---- a line of pieces

-- the text of a line of these pieces
abbrev pub line_text : List (List ℕ) → List ℕ
line_text pieces = with_pieces [] pieces ++ 10 ∷ []

-- the first byte is neither a blank nor a dash
abbrev pub IsPlain : List (List ℕ) → Type 0
IsPlain [] = ⊥
IsPlain ([] ∷ pieces) = ⊥
IsPlain ((b ∷ bs) ∷ pieces) = (is_blank b ≡ false) × ((b == 45) ≡ false)

counts_by : (b : ℕ) (bs : List ℕ) → is_blank b ≡ false → (b == 45) ≡ false → counts (b ∷ bs) ≡ true
unfolding counts
counts_by b [] blank dash = rw blank refl
counts_by b (c ∷ bs) blank dash = rw (blank, dash) refl

-- the text begins with this byte
record IsFront (b : ℕ) (text : List ℕ) : Type 0 where
  pub rest : List ℕ
  pub is : text ≡ b ∷ rest

front_stays : (b : ℕ) (text piece : List ℕ) → IsFront b (with_piece (b ∷ text) piece)
unfolding with_piece
front_stays b text piece = cond_both (needs_blank (b ∷ text) piece) ((b ∷ text) ++ 32 ∷ [] ++ piece) ((b ∷ text) ++ piece) (IsFront b) (λ blank. record { rest = text ++ 32 ∷ [] ++ piece; is = refl }) (λ none. record { rest = text ++ piece; is = refl })

counts_with : (b : ℕ) (text : List ℕ) (pieces : List (List ℕ)) → is_blank b ≡ false → (b == 45) ≡ false → counts (with_pieces (b ∷ text) pieces) ≡ true
counts_with b text [] blank dash = counts_by b text blank dash
counts_with b text (p ∷ ps) blank dash = let front = front_stays b text p in rw front.is (counts_with b front.rest ps blank dash)

plain_counts : (pieces : List (List ℕ)) → IsPlain pieces → counts (with_pieces [] pieces) ≡ true
unfolding with_piece
plain_counts [] h = absurd h
plain_counts ([] ∷ ps) h = absurd h
plain_counts ((b ∷ bs) ∷ ps) h = counts_with b bs ps h.0 h.1

clean_line : (draft : Draft) (text : List ℕ) → IsClean text → counts text ≡ true → any_line draft (text ++ 10 ∷ []) ≡ tokens_line draft (tokens text)
unfolding any_line line_after
clean_line draft text clean h = rw (bare_line text clean, h, no_bad text clean, all_small text clean) refl

-- a line of pieces is read by the tokens of each
pub line_read : (draft : Draft) (pieces : List (List ℕ)) → AllByRecursion IsPiece pieces → IsPlain pieces → any_line draft (line_text pieces) ≡ tokens_line draft (flat_map tokens pieces)
unfolding tokens
line_read draft pieces h plain =
    clean_line draft (with_pieces [] pieces) (pieces_clean [] pieces tt h) (plain_counts pieces plain) ∙ ap (tokens_line draft) (pieces_tokens [] pieces tt h)

-- ---- one line after another

ending_behind : (text : List ℕ) (b : ℕ) (bs : List ℕ) → ending (text ++ b ∷ bs) ≡ ending (b ∷ bs)
ending_behind [] b bs = refl
ending_behind (x ∷ []) b bs = refl
ending_behind (x ∷ y ∷ text) b bs = ending_behind (y ∷ text) b bs

last_behind : (text piece : List ℕ) → 1 ≤ length piece → get_or (text ++ piece) (length (text ++ piece) - 1) 10 ≡ get_or piece (length piece - 1) 10
last_behind text [] some = absurd (omega arith)
last_behind text (b ∷ bs) some = ending_is (text ++ b ∷ bs) ∙ ending_behind text b bs ∙ sym (ending_is (b ∷ bs))

assoc_by : (text p q : List ℕ) (blank : Bool) → cond blank ((text ++ p) ++ 32 ∷ [] ++ q) ((text ++ p) ++ q) ≡ text ++ cond blank (p ++ 32 ∷ [] ++ q) (p ++ q)
assoc_by text p q true = simp append_assoc
assoc_by text p q false = append_assoc text p q

piece_behind : (text p q : List ℕ) → 1 ≤ length p → with_piece (text ++ p) q ≡ text ++ with_piece p q
unfolding with_piece
piece_behind text p q some = rw (last_behind text p some) (assoc_by text p q (needs_blank p q))

some_more : (p q : List ℕ) → 1 ≤ length p → 1 ≤ length (with_piece p q)
unfolding with_piece
some_more p q some = cond_both (needs_blank p q) (p ++ 32 ∷ [] ++ q) (p ++ q) (λ t. 1 ≤ length t) (λ blank. simp length-append (omega arith)) (λ none. simp length-append (omega arith))

pieces_behind : (text p : List ℕ) (ps : List (List ℕ)) → 1 ≤ length p → with_pieces (text ++ p) ps ≡ text ++ with_pieces p ps
pieces_behind text p [] some = refl
pieces_behind text p (q ∷ ps) some = ap (λ (t : List ℕ). with_pieces t ps) (piece_behind text p q some) ∙ pieces_behind text (with_piece p q) ps (some_more p q some)

-- no blank comes after a line feed
first_behind : (text p : List ℕ) → ending text ≡ 10 → with_piece text p ≡ text ++ p
unfolding with_piece
first_behind text p e = rw (ending_is text, e) refl

at_line_start : (text : List ℕ) (ps : List (List ℕ)) → ending text ≡ 10 → AllByRecursion IsPiece ps → with_pieces text ps ≡ text ++ with_pieces [] ps
unfolding with_piece
at_line_start text [] e h = sym (append-nil text)
at_line_start text (p ∷ ps) e h = ap (λ (t : List ℕ). with_pieces t ps) (first_behind text p e) ∙ pieces_behind text p ps h.0.0

ended_by : (text : List ℕ) → with_piece text line_end ≡ text ++ 10 ∷ []
unfolding with_piece
ended_by text = rw (and_right (not (takes_none_after (get_or text (length text - 1) 10))) false refl) refl

-- a text that ends in a line feed, and another after it that does
pub record IsAfter (text whole added : List ℕ) : Type 0 where
  pub is : whole ≡ text ++ added
  pub ends : ending whole ≡ 10

-- a line of pieces after a text that ends in a line feed
pub line_after_text : (text : List ℕ) (ps : List (List ℕ)) → ending text ≡ 10 → AllByRecursion IsPiece ps → IsAfter text (with_pieces text (ps ++ line_end ∷ [])) (line_text ps)
line_after_text text ps e h =
    let whole : with_pieces text (ps ++ line_end ∷ []) ≡ (text ++ with_pieces [] ps) ++ 10 ∷ [] = fold-append with_piece text ps (line_end ∷ []) ∙ ended_by (with_pieces text ps) ∙ ap (λ (t : List ℕ). t ++ 10 ∷ []) (at_line_start text ps e h) in
    record { is = whole ∙ append_assoc text (with_pieces [] ps) (10 ∷ []); ends = ap ending whole ∙ ending_behind (text ++ with_pieces [] ps) 10 [] }

-- lines after such a text
pub lines_after_text : {X : Type 0} (pieces : X → List (List ℕ)) (xs : List X) (text : List ℕ) → ending text ≡ 10 → AllByRecursion (λ x. AllByRecursion IsPiece (pieces x)) xs
    → IsAfter text (with_pieces text (flat_map (λ x. pieces x ++ line_end ∷ []) xs)) (flat_map (λ x. line_text (pieces x)) xs)
lines_after_text pieces [] text e h = record { is = sym (append-nil text); ends = e }
lines_after_text pieces (x ∷ xs) text e h =
    let first = line_after_text text (pieces x) e h.0 in
    let others = lines_after_text pieces xs (with_pieces text (pieces x ++ line_end ∷ [])) first.ends h.1 in
    let both = fold-append with_piece text (pieces x ++ line_end ∷ []) (flat_map (λ x. pieces x ++ line_end ∷ []) xs) in
    record {
      is = both ∙ others.is ∙ ap (λ (t : List ℕ). t ++ flat_map (λ x. line_text (pieces x)) xs) first.is ∙ append_assoc text (line_text (pieces x)) (flat_map (λ x. line_text (pieces x)) xs);
      ends = ap ending both ∙ others.ends;
    }
