-- Whether bytes are answer lines, one line after the other.
use Rattle.std.proofs.Common.{◌≡◌, ◌≤◌, ◌<◌, ◌+◌, ◌∙◌, ℕ, Option, Some, None, MatchOption, IfSome, Bor, Bool, List, [], ◌∷◌, ◌++◌, length, take, drop, get_or, sym, ap, subst, codes, append_assoc}
use Rattle.std.specs.Bool.{Decides}
use Rattle.std.specs.List.{All}
use Rattle.std.proofs.lemmas.List.{append_cancel_left, drop_more, drop_all, take_all}
use Rattle.std.proofs.lemmas.List.Elements.{All-from_recursion, All-more}
use Rattle.event_kinds.specs.Entries.{IsLine}
use Rattle.event_kinds.specs.Texts.{line_text, line_head, lines_text, ended}
use Rattle.check_tool.specs.Types.{Line}

-- ---- one line

line_parts : (line : Line) (rest : List ℕ) → ended (line_text line) ++ rest ≡ line_head line ++ (line.text ++ (codes "\n" ++ rest))
line_parts line rest = grouped (line_head line) line.text (codes "\n") rest
  where
    grouped : (a b c d : List ℕ) → ((a ++ b) ++ c) ++ d ≡ a ++ (b ++ (c ++ d))
    grouped a b c d = append_assoc (a ++ b) c d ∙ append_assoc a b (c ++ d)

after_head : (line : Line) (bytes head text rest : List ℕ) → head ≡ line_head line → bytes ≡ head ++ text → bytes ≡ ended (line_text line) ++ rest → text ≡ line.text ++ (codes "\n" ++ rest)
after_head line bytes head text rest front first same =
    append_cancel_left (line_head line) text (line.text ++ (codes "\n" ++ rest)) (ap (λ t. t ++ text) (sym front) ∙ sym first ∙ same ∙ line_parts line rest)

-- the bytes begin with the line
pub line_is : (line : Line) (bytes head text given end rest : List ℕ) → head ≡ line_head line → given ≡ line.text → bytes ≡ head ++ text → text ≡ given ++ end → end ≡ codes "\n" ++ rest → bytes ≡ ended (line_text line) ++ rest
line_is line bytes head text given end rest front middle first second last =
    first ∙ ap (λ t. t ++ text) front ∙ ap (λ t. line_head line ++ t) (second ∙ ap (λ t. t ++ end) middle ∙ ap (λ t. line.text ++ t) last) ∙ sym (line_parts line rest)

-- they don't begin with its head
pub no_head : (line : Line) (bytes head : List ℕ) → head ≡ line_head line → ((rest : List ℕ) → bytes ≡ head ++ rest → ⊥) → (rest : List ℕ) → bytes ≡ ended (line_text line) ++ rest → ⊥
no_head line bytes head front never rest same = never (line.text ++ (codes "\n" ++ rest)) (same ∙ line_parts line rest ∙ ap (λ t. t ++ (line.text ++ (codes "\n" ++ rest))) (sym front))

-- nor with its text after that
pub no_text : (line : Line) (bytes head text given : List ℕ) → head ≡ line_head line → given ≡ line.text → bytes ≡ head ++ text → ((rest : List ℕ) → text ≡ given ++ rest → ⊥) → (rest : List ℕ) → bytes ≡ ended (line_text line) ++ rest → ⊥
no_text line bytes head text given front middle first never rest same = never (codes "\n" ++ rest) (after_head line bytes head text rest front first same ∙ ap (λ t. t ++ (codes "\n" ++ rest)) (sym middle))

-- nor with its end after that
pub no_end : (line : Line) (bytes head text given end : List ℕ) → head ≡ line_head line → given ≡ line.text → bytes ≡ head ++ text → text ≡ given ++ end → ((rest : List ℕ) → end ≡ codes "\n" ++ rest → ⊥) → (rest : List ℕ) → bytes ≡ ended (line_text line) ++ rest → ⊥
no_end line bytes head text given end front middle first second never rest same =
    never rest (append_cancel_left line.text end (codes "\n" ++ rest) (ap (λ t. t ++ end) (sym middle) ∙ sym second ∙ after_head line bytes head text rest front first same))

-- and what the last step finds
pub line_ends : (line : Line) (bytes head text given end : List ℕ) (found : Option (Bor (List ℕ))) → head ≡ line_head line → given ≡ line.text → bytes ≡ head ++ text → text ≡ given ++ end
    → MatchOption found ((rest : List ℕ) → end ≡ codes "\n" ++ rest → ⊥) (λ rest. end ≡ codes "\n" ++ rest.now) → MatchOption found ((rest : List ℕ) → bytes ≡ ended (line_text line) ++ rest → ⊥) (λ rest. bytes ≡ ended (line_text line) ++ rest.now)
line_ends line bytes head text given end None front middle first second never = no_end line bytes head text given end front middle first second never
line_ends line bytes head text given end (Some rest) front middle first second last = line_is line bytes head text given end rest.now front middle first second last

-- a line that was read is what its type says
pub read_line : (line : Line) (found : Option (Bor (List ℕ))) → IsLine line → IfSome found (λ rest. IsLine line)
read_line line None typed = tt
read_line line (Some rest) typed = typed

-- ---- all lines

-- the lines of those that are left, where so many have come
lines_left : (lines : List Line) (i : ℕ) (line d : Line) → i < length lines → line ≡ get_or lines i d → lines_text (drop i lines) ≡ ended (line_text line) ++ lines_text (drop (i + 1) lines)
lines_left lines i line d within is = ap lines_text (drop_more lines i d within ∙ ap (λ x. x ∷ drop (i + 1) lines) (sym is))

-- what is left has to be the lines that are left; those that have come are what their types say
pub record IsLeft (bytes : List ℕ) (lines : List Line) (i : ℕ) (left : List ℕ) : Type 0 where
  pub there : left ≡ lines_text (drop i lines) ++ codes "end\n" → bytes ≡ lines_text lines ++ codes "end\n"
  pub back : bytes ≡ lines_text lines ++ codes "end\n" → left ≡ lines_text (drop i lines) ++ codes "end\n"
  pub typed : All IsLine (take i lines)

-- no line yet
pub left_first : (bytes : List ℕ) (lines : List Line) → IsLeft bytes lines 0 bytes
left_first bytes lines = record { there = λ same. same; back = λ same. same; typed = All-from_recursion IsLine [] tt }

-- one line more
pub left_more : (bytes : List ℕ) (lines : List Line) (i : ℕ) (left rest : List ℕ) (line d : Line) → i < length lines → line ≡ get_or lines i d → IsLeft bytes lines i left → left ≡ ended (line_text line) ++ rest → IsLine line → IsLeft bytes lines (i + 1) rest
left_more bytes lines i left rest line d within is held begins typed = record {
  there = λ same. held.there (begins ∙ ap (λ t. ended (line_text line) ++ t) same ∙ sym parts);
  back = λ same. append_cancel_left (ended (line_text line)) rest (lines_text (drop (i + 1) lines) ++ codes "end\n") (sym begins ∙ held.back same ∙ parts);
  typed = All-more IsLine lines i d within held.typed (subst IsLine is typed);
}
  where
    parts : lines_text (drop i lines) ++ codes "end\n" ≡ ended (line_text line) ++ (lines_text (drop (i + 1) lines) ++ codes "end\n")
    parts = ap (λ t. t ++ codes "end\n") (lines_left lines i line d within is) ∙ append_assoc (ended (line_text line)) (lines_text (drop (i + 1) lines)) (codes "end\n")

-- the next line doesn't come
pub left_never : (bytes : List ℕ) (lines : List Line) (i : ℕ) (left : List ℕ) (line d : Line) → i < length lines → line ≡ get_or lines i d → IsLeft bytes lines i left → ((rest : List ℕ) → left ≡ ended (line_text line) ++ rest → ⊥)
    → bytes ≡ lines_text lines ++ codes "end\n" → ⊥
left_never bytes lines i left line d within is held never same =
    never (lines_text (drop (i + 1) lines) ++ codes "end\n") (held.back same ∙ ap (λ t. t ++ codes "end\n") (lines_left lines i line d within is) ∙ append_assoc (ended (line_text line)) (lines_text (drop (i + 1) lines)) (codes "end\n"))

-- all lines have come
pub left_last : (bytes : List ℕ) (lines : List Line) (i : ℕ) (left : List ℕ) (same : Bool) → length lines ≤ i → IsLeft bytes lines i left → Decides same (left ≡ codes "end\n") → Decides same (bytes ≡ lines_text lines ++ codes "end\n")
left_last bytes lines i left same past held decides = (λ yes. held.there (decides.0 yes ∙ sym none), λ is. decides.1 (held.back is ∙ none))
  where
    none : lines_text (drop i lines) ++ codes "end\n" ≡ codes "end\n"
    none = ap (λ rest. lines_text rest ++ codes "end\n") (drop_all i lines past)

-- and all are what their types say
pub left_typed : (bytes : List ℕ) (lines : List Line) (i : ℕ) (left : List ℕ) → length lines ≤ i → IsLeft bytes lines i left → All IsLine lines
left_typed bytes lines i left past held = subst (All IsLine) (take_all i lines past) held.typed
