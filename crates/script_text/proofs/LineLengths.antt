-- A text's lines, taken one after the other by their lengths, and which of them count.
use Rattle.std.proofs.Common.{◌≡◌, ◌<◌, ℕ, suc, Bool, true, false, ◌==◌, List, [], ◌∷◌, length, take, drop, refl, ap, ◌∙◌, arith}
use Rattle.std.specs.List.{prefix_len}
use Rattle.script_text.specs.TextLines.{is_blank, with_byte, text_lines, line_len, counts, rest_counts}
use Rattle.script_text.proofs.TokenLengths.{passes, fails}

at_lf : (b : ℕ) (bs : List ℕ) → (b == 10) ≡ true → text_lines (b ∷ bs) ≡ take (line_len (b ∷ bs)) (b ∷ bs) ∷ text_lines (drop (line_len (b ∷ bs)) (b ∷ bs))
unfolding text_lines
at_lf b bs e =
    let k : line_len (b ∷ bs) ≡ 1 = rw e (omega arith) in
    rw (k, e) refl

longer : (b : ℕ) (bs : List ℕ) → (b == 10) ≡ false → line_len (b ∷ bs) ≡ suc (line_len bs)
longer b bs e = rw e (omega arith)

alone : (b : ℕ) → (b == 10) ≡ false → text_lines (b ∷ []) ≡ take (line_len (b ∷ [])) (b ∷ []) ∷ text_lines (drop (line_len (b ∷ [])) (b ∷ []))
unfolding text_lines
alone b e = rw (longer b [] e, e) refl

front : (b : ℕ) (bs : List ℕ) → (b == 10) ≡ false → text_lines (b ∷ bs) ≡ with_byte b (text_lines bs)
unfolding text_lines
front b bs e = rw e refl

further : (b c : ℕ) (bs : List ℕ) → (b == 10) ≡ false → text_lines (c ∷ bs) ≡ take (line_len (c ∷ bs)) (c ∷ bs) ∷ text_lines (drop (line_len (c ∷ bs)) (c ∷ bs))
    → text_lines (b ∷ c ∷ bs) ≡ take (line_len (b ∷ c ∷ bs)) (b ∷ c ∷ bs) ∷ text_lines (drop (line_len (b ∷ c ∷ bs)) (b ∷ c ∷ bs))
further b c bs e h = rw (longer b (c ∷ bs) e) (front b (c ∷ bs) e ∙ ap (with_byte b) h)

first_by : (b : ℕ) (bs : List ℕ) (lf : Bool) → (b == 10) ≡ lf → (0 < length bs → text_lines bs ≡ take (line_len bs) bs ∷ text_lines (drop (line_len bs) bs))
    → text_lines (b ∷ bs) ≡ take (line_len (b ∷ bs)) (b ∷ bs) ∷ text_lines (drop (line_len (b ∷ bs)) (b ∷ bs))
first_by b bs true e h = at_lf b bs e
first_by b [] false e h = alone b e
first_by b (c ∷ bs) false e h = further b c bs e (h (omega arith))

-- a text that isn't empty has a first line
pub first_line : (text : List ℕ) → 0 < length text → text_lines text ≡ take (line_len text) text ∷ text_lines (drop (line_len text) text)
first_line [] some = absurd (omega arith)
first_line (b ∷ bs) some = first_by b bs (b == 10) refl (first_line bs)

count_by : (b : ℕ) (bs : List ℕ) (blank : Bool) → is_blank b ≡ blank → counts bs ≡ rest_counts (drop (prefix_len is_blank bs) bs)
    → counts (b ∷ bs) ≡ rest_counts (drop (prefix_len is_blank (b ∷ bs)) (b ∷ bs))
unfolding counts
count_by b bs true e h = rw (passes is_blank b bs e) (rw e h)
count_by b bs false e h = rw (fails is_blank b bs e) (rw e refl)

-- whether a line counts is seen after its blanks
pub counts_after_blanks : (line : List ℕ) → counts line ≡ rest_counts (drop (prefix_len is_blank line) line)
unfolding counts
counts_after_blanks [] = refl
counts_after_blanks (b ∷ bs) = count_by b bs (is_blank b) refl (counts_after_blanks bs)
