-- Different pairs of a history and its answer lines have different texts.
use Rattle.std.proofs.Common.{◌≡◌, ℕ, true, List, [], ◌∷◌, ◌++◌, take, drop, Some, refl, sym, ap, ◌∙◌, append_assoc, arith, false, eqb, codes, decimal}
use Rattle.std.specs.List.{AllByRecursion, prefix_len, list_all}
use Rattle.std.proofs.Math.Seq.{take-append_seam}
use Rattle.std.proofs.lemmas.Option.{some_pair_parts}
use Rattle.std.proofs.lemmas.Bool.Decides.{nat_tests}
use Rattle.event_kinds.specs.Events.{Entry, Line}
use Rattle.base_types.specs.Names.{in_line}
use Rattle.event_kinds.specs.Texts.{entry_text, entries_text, lines_text, text_of}
use Rattle.event_kinds.specs.Entries.{IsNumber, IsEntry, IsLine, TextsDiffer}
use Rattle.event_kinds.specs.Readers.{then_at, choose_at}
use Rattle.event_kinds.specs.Reading.{number_at, entry_cases}
use Rattle.event_kinds.proofs.Spelling.{prefix_seam, drop-append_seam, then_part}
use Rattle.event_kinds.proofs.Parts.{number_part}
use Rattle.event_kinds.proofs.EventLaws.{placed_again}

regrouped : (e n h l x : List ℕ) → (((e ++ n) ++ h) ++ l) ++ x ≡ e ++ (n ++ ((h ++ l) ++ x))
regrouped e n h l x = simp append_assoc

line_regrouped : (a b s c t n l x : List ℕ) → ((((a ++ (((b ++ s) ++ c) ++ s)) ++ t) ++ n) ++ l) ++ x ≡ a ++ ((b ++ s) ++ ((c ++ s) ++ (t ++ (n ++ (l ++ x)))))
line_regrouped a b s c t n l x = simp append_assoc

-- what comes after the first line
behind_entry : (entry : Entry) (history : List Entry) (lines : List Line) → text_of (entry ∷ history) lines ≡ entry_text entry ++ (10 ∷ text_of history lines)
behind_entry entry history lines = regrouped (entry_text entry) (codes "\n") (entries_text history) (lines_text lines) (codes "end\n")

behind_line : (line : Line) (lines : List Line) → text_of [] (line ∷ lines) ≡ codes "l " ++ ((decimal line.backend ++ codes " ") ++ ((decimal line.command ++ codes " ") ++ (line.text ++ (10 ∷ text_of [] lines))))
behind_line line lines = line_regrouped (codes "l ") (decimal line.backend) (codes " ") (decimal line.command) line.text (codes "\n") (lines_text lines) (codes "end\n")

-- a number and a blank are read of their text
blank_again : (n : ℕ) (rest : List ℕ) → IsNumber n → then_at number_at (codes " ") ((decimal n ++ codes " ") ++ rest) ≡ Some (n, rest)
blank_again n rest is = (then_part number_part (codes " ") (λ l. refl)).spells.again n rest is tt

same_blank : (a b : ℕ) (x y : List ℕ) → IsNumber a → IsNumber b → (decimal a ++ codes " ") ++ x ≡ (decimal b ++ codes " ") ++ y → (a ≡ b) × (x ≡ y)
same_blank a b x y is-a is-b same = some_pair_parts a b x y (sym (blank_again a x is-a) ∙ ap (then_at number_at (codes " ")) same ∙ blank_again b y is-b)

-- a text up to the line's end
abbrev first_line : List ℕ → List ℕ × List ℕ
first_line bytes = (take (prefix_len in_line bytes) bytes, drop (prefix_len in_line bytes) bytes)

first_line_is : (text rest : List ℕ) → list_all in_line text ≡ true → first_line (text ++ (10 ∷ rest)) ≡ (text, 10 ∷ rest)
first_line_is text rest all = rw (prefix_seam in_line text (10 ∷ rest) all refl, take-append_seam text (10 ∷ rest), drop-append_seam text (10 ∷ rest)) refl

same_texts : (a b x y : List ℕ) → list_all in_line a ≡ true → list_all in_line b ≡ true → a ++ (10 ∷ x) ≡ b ++ (10 ∷ y) → (a ≡ b) × (x ≡ y)
same_texts a b x y all-a all-b same =
    let both : ◌≡◌ {A = List ℕ × List ℕ} (a, 10 ∷ x) (b, 10 ∷ y) = sym (first_line_is a x all-a) ∙ ap first_line same ∙ first_line_is b y all-b in
    (ap (λ (p : List ℕ × List ℕ). p.0) both, ap (λ (p : List ℕ × List ℕ). drop 1 p.1) both)

abbrev line_of : ℕ → ℕ → List ℕ → Line
line_of backend command text = record { backend = backend; command = command; text = text }

same_line : (a b : Line) → a.backend ≡ b.backend → a.command ≡ b.command → a.text ≡ b.text → a ≡ b
same_line a b backend command text =
    ap (λ n. line_of n a.command a.text) backend ∙ ap (λ n. line_of b.backend n a.text) command ∙ ap (λ t. line_of b.backend b.command t) text

same_lines : (line other : Line) (lines others : List Line) → IsLine line → IsLine other → text_of [] (line ∷ lines) ≡ text_of [] (other ∷ others) → (line ≡ other) × (text_of [] lines ≡ text_of [] others)
same_lines line other lines others is is' same =
    let texts = ap (drop 2) (sym (behind_line line lines) ∙ same ∙ behind_line other others) in
    let backends = same_blank line.backend other.backend _ _ is.backend is'.backend texts in
    let commands = same_blank line.command other.command _ _ is.command is'.command backends.1 in
    let rest = same_texts line.text other.text (text_of [] lines) (text_of [] others) is.text is'.text commands.1 in
    (same_line line other backends.0 commands.0 rest.0, rest.1)

same_entries : (entry other : Entry) (history others : List Entry) (lines lines' : List Line) → IsEntry entry → IsEntry other → text_of (entry ∷ history) lines ≡ text_of (other ∷ others) lines'
    → (entry ≡ other) × (text_of history lines ≡ text_of others lines')
same_entries entry other history others lines lines' is is' same =
    let parts = some_pair_parts entry other (10 ∷ text_of history lines) (10 ∷ text_of others lines')
    (sym (placed_again entry (10 ∷ text_of history lines) is refl) ∙ ap (choose_at entry_cases) (sym (behind_entry entry history lines) ∙ same ∙ behind_entry other others lines') ∙ placed_again other (10 ∷ text_of others lines') is' refl) in
    (parts.0, ap (drop 1) parts.1)

-- the first byte
abbrev first_byte : List ℕ → ℕ
first_byte [] = 0
first_byte (byte ∷ bytes) = byte

apart : (a b : ℕ) → a ≡ b → eqb a b ≡ false → ⊥
apart a b same other = grind (arith, nat_tests, other)

-- the texts begin with different bytes
no_line : (line : Line) (lines : List Line) → text_of [] [] ≡ text_of [] (line ∷ lines) → ⊥
no_line line lines same = apart 101 108 (ap first_byte (same ∙ behind_line line lines)) refl

no_entry : (entry : Entry) (history : List Entry) (lines others : List Line) → text_of [] lines ≡ text_of (entry ∷ history) others → ⊥
no_entry entry history [] others same = apart 101 104 (ap first_byte (same ∙ behind_entry entry history others)) refl
no_entry entry history (line ∷ lines) others same = apart 108 104 (ap first_byte (sym (behind_line line lines) ∙ same ∙ behind_entry entry history others)) refl

lines_differ : (lines others : List Line) → AllByRecursion IsLine lines → AllByRecursion IsLine others → text_of [] lines ≡ text_of [] others → lines ≡ others
lines_differ [] [] are are' same = refl
lines_differ [] (other ∷ others) are are' same = absurd (no_line other others same)
lines_differ (line ∷ lines) [] are are' same = absurd (no_line line lines (sym same))
lines_differ (line ∷ lines) (other ∷ others) are are' same =
    let one = same_lines line other lines others are.0 are'.0 same in
    let more = lines_differ lines others are.1 are'.1 one.1 in
    cc

pub texts_differ : TextsDiffer
texts_differ [] [] lines others are are' well well' same = (refl, lines_differ lines others well well' same)
texts_differ [] (other ∷ more) lines others are are' well well' same = absurd (no_entry other more lines others same)
texts_differ (entry ∷ history) [] lines others are are' well well' same = absurd (no_entry entry history others lines (sym same))
texts_differ (entry ∷ history) (other ∷ more) lines others are are' well well' same =
    let one = same_entries entry other history more lines others are.0 are'.0 same in
    let rest = texts_differ history more lines others are.1 are'.1 well well' one.1 in
    (cc, rest.1)
