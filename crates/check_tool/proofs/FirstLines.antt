-- The entries that a text begins with are determined by it.
use Rattle.std.proofs.Common.{◌≡◌, ◌≢◌, ◌≤◌, ◌<◌, ◌+◌, ◌∙◌, ℕ, suc, true, false, List, [], ◌∷◌, ◌++◌, ◌==◌, length, take, drop, refl, sym, ap, subst, eqb, codes, append_assoc, append-nil, arith, ◌⊎◌, inl, inr}
use Rattle.std.specs.List.{All, AllByRecursion, prefix_len}
use Rattle.std.proofs.lemmas.Grind.{flat_map-append}
use Rattle.std.proofs.lemmas.Option.{some_pair_parts}
use Rattle.std.proofs.lemmas.Bool.Decides.{nat_tests, eqb_tells}
use Rattle.std.proofs.lemmas.List.Elements.{All-nil, All-push, recursion_from_All}
use Rattle.std.proofs.lemmas.List.{drop-drop, drop_all, length-append, length-drop, take-append-drop}
use Rattle.std.proofs.Math.Seq.{take-append_seam}
use Rattle.base_types.specs.Names.{in_line}
use Rattle.event_kinds.specs.Entries.{IsEntry}
use Rattle.event_kinds.specs.Texts.{entry_text, entries_text, lines_text, ended}
use Rattle.event_kinds.specs.Readers.{choose_at}
use Rattle.event_kinds.specs.Reading.{entry_cases}
use Rattle.event_kinds.proofs.Spelling.{prefix_seam}
use Rattle.event_kinds.proofs.EventLaws.{placed_again}
use Rattle.check_tool.specs.Leading.{HasNoEntryFirst, HasEntryFirst, Leads}
use Rattle.check_tool.specs.Types.{Entry, Line}
use Rattle.check_tool.proofs.EntriesInLine.{entry_in_line}

-- ---- the first line

-- an entry's line, and then something
line_first : (e : Entry) (more : List ℕ) → ended (entry_text e) ++ more ≡ entry_text e ++ (10 ∷ more)
line_first e more = append_assoc (entry_text e) (codes "\n") more

-- the line of an entry ends before the first line's end
line_ends : (e : Entry) (more : List ℕ) → IsEntry e → prefix_len in_line (entry_text e ++ (10 ∷ more)) ≡ length (entry_text e)
line_ends e more is = prefix_seam in_line (entry_text e) (10 ∷ more) (entry_in_line e is) refl

-- a text without a line's end has no entry's line
pub none_without_end : (text : List ℕ) (n : ℕ) → n ≡ prefix_len in_line text → n ≡ length text → HasNoEntryFirst text
none_without_end text n found all e more is same =
    let spelled : text ≡ entry_text e ++ (10 ∷ more) = same ∙ line_first e more in
    let short : prefix_len in_line text ≡ length (entry_text e) = ap (prefix_len in_line) spelled ∙ line_ends e more is in
    let long : length text ≡ length (entry_text e) + length (10 ∷ more) = ap length spelled ∙ length-append (entry_text e) (10 ∷ more) in
    omega (arith, found, all, short, long)

-- a text whose first line is no entry's
pub none_of_line : (text : List ℕ) (n : ℕ) → n ≡ prefix_len in_line text → ((e : Entry) → IsEntry e → take n text ≡ entry_text e → ⊥) → HasNoEntryFirst text
none_of_line text n found bad e more is same =
    let spelled : text ≡ entry_text e ++ (10 ∷ more) = same ∙ line_first e more in
    let size : n ≡ length (entry_text e) = found ∙ ap (prefix_len in_line) spelled ∙ line_ends e more is in
    bad e is (ap (λ k. take k text) size ∙ ap (take (length (entry_text e))) spelled ∙ take-append_seam (entry_text e) (10 ∷ more))

-- nothing has no entry's line
pub none_in_nothing : HasNoEntryFirst []
none_in_nothing e more is same = absurd cc

-- what stands where a line ends
abbrev EndsLine : List ℕ → Type 0
EndsLine text = prefix_len in_line text < length text → drop (prefix_len in_line text) text ≡ 10 ∷ drop (prefix_len in_line text + 1) text

drop_one : (n m byte : ℕ) (bytes : List ℕ) → m ≡ suc n → drop m (byte ∷ bytes) ≡ drop n bytes
drop_one n m byte bytes same = ap (λ k. drop k (byte ∷ bytes)) same

line_end_by : (byte : ℕ) (bytes : List ℕ) → EndsLine bytes → (((byte == 10) ≡ true) × (byte ≡ 10)) ⊎ (((byte == 10) ≡ false) × (byte ≢ 10)) → EndsLine (byte ∷ bytes)
line_end_by byte bytes rest (inl end) = rw end.0 (λ less. ap (λ b. b ∷ bytes) end.1)
line_end_by byte bytes rest (inr other) =
    let n = prefix_len in_line bytes in
    rw other.0 (λ less. drop_one n (1 + n) byte bytes (omega arith) ∙ rest (omega (arith, less)) ∙ ap (λ after. 10 ∷ after) (sym (drop_one (n + 1) (1 + n + 1) byte bytes (omega arith))))

line_end : (text : List ℕ) → EndsLine text
line_end [] short = absurd (omega (arith, short))
line_end (byte ∷ bytes) short = line_end_by byte bytes (line_end bytes) (eqb_tells byte 10) short

-- a text whose first line is an entry's
pub first_of_line : (text : List ℕ) (n : ℕ) (e : Entry) → n ≡ prefix_len in_line text → n < length text → take n text ≡ entry_text e → IsEntry e → HasEntryFirst text e (n + 1)
first_of_line text n e found short read is = record {
  entry_is = is;
  text_is = sym (take-append-drop n text) ∙ ap (λ line. line ++ drop n text) read ∙ ap (λ rest. entry_text e ++ rest) end ∙ sym (line_first e (drop (n + 1) text));
  some = omega arith;
  within = omega (arith, short);
}
  where
    end : drop n text ≡ 10 ∷ drop (n + 1) text
    end = subst (λ k. drop k text ≡ 10 ∷ drop (k + 1) text) (sym found) (line_end text (subst (λ k. k < length text) found short))

-- ---- all lines

-- the entries that were read, and how many bytes their lines have
pub record HaveRead (text : List ℕ) (entries : List Entry) (size : ℕ) : Type 0 where
  pub text_is : text ≡ entries_text entries ++ drop size text
  pub entries_are : All IsEntry entries
  pub within : size ≤ length text

-- none yet
pub read_none : (text : List ℕ) → HaveRead text [] 0
read_none text = record { text_is = refl; entries_are = All-nil IsEntry; within = omega arith }

entries_more : (entries : List Entry) (e : Entry) (rest : List ℕ) → entries_text (entries ++ e ∷ []) ++ rest ≡ entries_text entries ++ (ended (entry_text e) ++ rest)
entries_more entries e rest =
    ap (λ text. text ++ rest) (flat_map-append (λ entry. ended (entry_text entry)) entries (e ∷ []) ∙ ap (λ last. entries_text entries ++ last) (append-nil (ended (entry_text e))))
    ∙ append_assoc (entries_text entries) (ended (entry_text e)) rest

-- one entry more
pub read_more : (text : List ℕ) (entries : List Entry) (size : ℕ) (e : Entry) (more : ℕ) → HaveRead text entries size → HasEntryFirst (drop size text) e more → HaveRead text (entries ++ e ∷ []) (size + more)
read_more text entries size e more read first = record {
  text_is = read.text_is ∙ ap (λ rest. entries_text entries ++ rest) (first.text_is ∙ ap (λ rest. ended (entry_text e) ++ rest) (drop-drop more size text)) ∙ sym (entries_more entries e (drop (size + more) text));
  entries_are = All-push IsEntry entries e read.entries_are first.entry_is;
  within = omega (arith, first.within, length-drop size text, read.within);
}

-- and no more
pub read_leads : (text : List ℕ) (entries : List Entry) (size : ℕ) → HaveRead text entries size → HasNoEntryFirst (drop size text) → Leads text entries (drop size text)
read_leads text entries size read ends = record { text_is = read.text_is; entries_are = read.entries_are; ends = ends }

-- all of the text was read
pub read_leads_all : (text : List ℕ) (entries : List Entry) (size : ℕ) → HaveRead text entries size → length text ≤ size → Leads text entries (drop size text)
read_leads_all text entries size read past = read_leads text entries size read (subst HasNoEntryFirst (sym (drop_all size text past)) none_in_nothing)

-- ---- no other entries

-- a line is that of one entry
same_first : (e other : Entry) (rest others : List ℕ) → IsEntry e → IsEntry other → ended (entry_text e) ++ rest ≡ ended (entry_text other) ++ others → (e ≡ other) × (rest ≡ others)
same_first e other rest others is is' same =
    let parts = some_pair_parts e other (10 ∷ rest) (10 ∷ others)
    (sym (placed_again e (10 ∷ rest) is refl) ∙ ap (choose_at entry_cases) (sym (line_first e rest) ∙ same ∙ line_first other others) ∙ placed_again other (10 ∷ others) is' refl) in
    (parts.0, ap (drop 1) parts.1)

leads_same : (entries others : List Entry) (rest more : List ℕ) → AllByRecursion IsEntry entries → AllByRecursion IsEntry others → HasNoEntryFirst rest → HasNoEntryFirst more → entries_text entries ++ rest ≡ entries_text others ++ more
    → (entries ≡ others) × (rest ≡ more)
leads_same [] [] rest more are are' ends ends' same = (refl, same)
leads_same [] (other ∷ others) rest more are are' ends ends' same =
    absurd (ends other (entries_text others ++ more) are'.0 (same ∙ append_assoc (ended (entry_text other)) (entries_text others) more))
leads_same (e ∷ entries) [] rest more are are' ends ends' same =
    absurd (ends' e (entries_text entries ++ rest) are.0 (sym same ∙ append_assoc (ended (entry_text e)) (entries_text entries) rest))
leads_same (e ∷ entries) (other ∷ others) rest more are are' ends ends' same =
    let one = same_first e other (entries_text entries ++ rest) (entries_text others ++ more) are.0 are'.0
    (sym (append_assoc (ended (entry_text e)) (entries_text entries) rest) ∙ same ∙ append_assoc (ended (entry_text other)) (entries_text others) more) in
    let later = leads_same entries others rest more are.1 are'.1 ends ends' one.1 in
    (cc, later.1)

-- a text begins with the lines of one list of entries
pub leads_once : (text : List ℕ) (entries others : List Entry) (rest more : List ℕ) → Leads text entries rest → Leads text others more → (entries ≡ others) × (rest ≡ more)
leads_once text entries others rest more leads leads' =
    leads_same entries others rest more (recursion_from_All IsEntry entries leads.entries_are) (recursion_from_All IsEntry others leads'.entries_are) leads.ends leads'.ends (sym leads.text_is ∙ leads'.text_is)

-- ---- the answer lines

-- the first byte
abbrev first_byte : List ℕ → ℕ
first_byte [] = 0
first_byte (byte ∷ bytes) = byte

apart : (a b : ℕ) → a ≡ b → eqb a b ≡ false → ⊥
apart a b same other = grind (arith, nat_tests, other)

-- no answer line is an entry's, nor is the last line
pub none_in_lines : (lines : List Line) → HasNoEntryFirst (lines_text lines ++ codes "end\n")
none_in_lines [] e more is same = apart 101 104 (ap first_byte same) refl
none_in_lines (line ∷ lines) e more is same = apart 108 104 (ap first_byte same) refl
