-- A text spells one history and one list of answer lines at most.
use Rattle.std.proofs.Common.{◌≡◌, ℕ, List, [], ◌∷◌, ◌++◌, drop, Option, Some, None, refl, sym, ap, ◌∙◌, append_assoc, append-nil, arith, false, eqb, codes, decimal}
use Rattle.std.specs.List.{All, AllByRecursion}
use Rattle.std.proofs.lemmas.List.Elements.{recursion_from_All}
use Rattle.std.proofs.lemmas.Option.{some_pair_parts}
use Rattle.std.proofs.lemmas.Bool.Decides.{nat_tests}
use Rattle.event_kinds.specs.declared.entry.Event.{Event}
use Rattle.event_kinds.specs.declared.entry.Entry.{Entry}
use Rattle.event_kinds.specs.declared.entry.Line.{Line}
use Rattle.event_kinds.specs.declared.entry.Event.TheVariants as events
use Rattle.event_kinds.specs.Texts.{changes_of, entry_text, entries_text, lines_text, text_of}
use Rattle.event_kinds.specs.Entries.{IsNumber, IsItem, IsHead, IsLine}
use Rattle.event_kinds.specs.Readers.{Reader, lit_at, then_at, as_at, choose_at}
use Rattle.event_kinds.specs.Reading.{number_at, event_at, write_event_at, items_at, placed_at, entry_cases}
use Rattle.event_kinds.proofs.Spelling.{Part, then_part, pair_part, again_part}
use Rattle.event_kinds.proofs.Parts.{number_part, blank_part}
use Rattle.event_kinds.proofs.EventLaws.{placed_again}
use Rattle.event_kinds.proofs.Outputs.{texts_differ}
use Rattle.out_text.specs.Typed.{IsTyped, SpellsOnly}

-- ---- a write without a change, which the reader of entries doesn't read

-- the entry of such a write
abbrev bare : ℕ × (ℕ × ℕ) → Entry
bare t = record { backend = t.0; command = t.1.0; event = events.Write (record { 0 = t.1.1 }) [] }

abbrev bare_part : Part (ℕ × (ℕ × ℕ))
bare_part = blank_part number_part (λ rest. refl) (pair_part (then_part number_part (codes " write ") (λ rest. refl)) number_part (λ y rest is end. tt))

abbrev bare_at : Reader Entry
bare_at = choose_at ((codes "h ", as_at bare bare_part.read) ∷ [])

bare_grouped : (h b s c w x : List ℕ) → (h ++ (((b ++ s) ++ c) ++ s)) ++ ((w ++ x) ++ []) ≡ h ++ ((b ++ s) ++ ((c ++ (s ++ w)) ++ x))
bare_grouped h b s c w x = simp (append_assoc, append-nil)

-- its text, as its own reader reads it, and as that of entries does
bare_spelled : (t : ℕ × (ℕ × ℕ)) → entry_text (bare t) ≡ codes "h " ++ bare_part.text t
bare_spelled t = bare_grouped (codes "h ") (decimal t.0) (codes " ") (decimal t.1.0) (codes "write ") (decimal t.1.1)

bare_parts : (t : ℕ × (ℕ × ℕ)) (rest : List ℕ) → entry_text (bare t) ++ rest ≡ codes "h " ++ ((decimal t.0 ++ codes " ") ++ ((decimal t.1.0 ++ codes " ") ++ (codes "write " ++ (decimal t.1.1 ++ rest))))
bare_parts t rest = simp append_assoc

blank_again : (n : ℕ) (rest : List ℕ) → IsNumber n → then_at number_at (codes " ") ((decimal n ++ codes " ") ++ rest) ≡ Some (n, rest)
blank_again n rest is = (then_part number_part (codes " ") (λ l. refl)).spells.again n rest is tt

number_again : (n : ℕ) (rest : List ℕ) → IsNumber n → number_at (decimal n ++ (10 ∷ rest)) ≡ Some (n, 10 ∷ rest)
number_again n rest is = number_part.spells.again n (10 ∷ rest) is refl

bare_again : (t : ℕ × (ℕ × ℕ)) (rest : List ℕ) → bare_part.Is t → bare_at (entry_text (bare t) ++ (10 ∷ rest)) ≡ Some (bare t, 10 ∷ rest)
unfolding lit_at
bare_again t rest is = ap (λ l. bare_at (l ++ (10 ∷ rest))) (bare_spelled t) ∙ again_part bare_part bare t (10 ∷ rest) is refl

bare_unread : (t : ℕ × (ℕ × ℕ)) (rest : List ℕ) → bare_part.Is t → choose_at entry_cases (entry_text (bare t) ++ (10 ∷ rest)) ≡ None
unfolding placed_at event_at write_event_at items_at lit_at
bare_unread t rest is =
    ap (choose_at entry_cases) (bare_parts t (10 ∷ rest))
    ∙ rw (blank_again t.0 ((decimal t.1.0 ++ codes " ") ++ (codes "write " ++ (decimal t.1.1 ++ (10 ∷ rest)))) is.0, blank_again t.1.0 (codes "write " ++ (decimal t.1.1 ++ (10 ∷ rest))) is.1.0, number_again t.1.1 rest is.1.1) refl

-- ---- any entry

-- the reader of entries, or else that of writes without a change
abbrev any_at : Reader Entry
any_at bytes = or_else (choose_at entry_cases bytes) (bare_at bytes)
  where
    or_else : Option (Entry × List ℕ) → Option (Entry × List ℕ) → Option (Entry × List ℕ)
    or_else None other = other
    or_else (Some x) other = Some x

entry_again : (b c : ℕ) (event : Event) (rest : List ℕ) → IsNumber b → IsNumber c → IsHead event → All IsItem (changes_of event)
    → any_at (entry_text (record { backend = b; command = c; event = event }) ++ (10 ∷ rest)) ≡ Some (record { backend = b; command = c; event = event }, 10 ∷ rest)
entry_again b c (events.Write xid []) rest is-b is-c head changes =
    let t : ℕ × (ℕ × ℕ) = (b, (c, xid.0)) in rw (bare_unread t rest (is-b, (is-c, head))) (bare_again t rest (is-b, (is-c, head)))
entry_again b c (events.Write xid (change ∷ changes)) rest is-b is-c head each =
    rw (placed_again (record { backend = b; command = c; event = events.Write xid (change ∷ changes) }) (10 ∷ rest) (record { backend = is-b; command = is-c; event = (head, (omega arith, recursion_from_All IsItem (change ∷ changes) each)) }) refl) refl
entry_again b c event rest is-b is-c head each =
    rw (placed_again (record { backend = b; command = c; event = event }) (10 ∷ rest) (record { backend = is-b; command = is-c; event = head }) refl) refl

same_entry : (entry other : Entry) (rest rest' : List ℕ) → IsTyped entry → IsTyped other → entry_text entry ++ (10 ∷ rest) ≡ entry_text other ++ (10 ∷ rest') → (entry ≡ other) × (rest ≡ rest')
same_entry entry other rest rest' is is' same =
    let parts = some_pair_parts entry other (10 ∷ rest) (10 ∷ rest')
    (sym (entry_again entry.backend entry.command entry.event rest is.head.backend is.head.command is.head.event is.changes) ∙ ap any_at same ∙ entry_again other.backend other.command other.event rest' is'.head.backend is'.head.command is'.head.event is'.changes) in
    (parts.0, ap (drop 1) parts.1)

-- ---- histories

-- what comes after the first line
behind_entry : (entry : Entry) (history : List Entry) (lines : List Line) → text_of (entry ∷ history) lines ≡ entry_text entry ++ (10 ∷ text_of history lines)
behind_entry entry history lines = regrouped (entry_text entry) (codes "\n") (entries_text history) (lines_text lines) (codes "end\n")
  where
    regrouped : (e n h l x : List ℕ) → (((e ++ n) ++ h) ++ l) ++ x ≡ e ++ (n ++ ((h ++ l) ++ x))
    regrouped e n h l x = simp append_assoc

-- the first bytes differ
abbrev first_byte : List ℕ → ℕ
first_byte [] = 0
first_byte (byte ∷ bytes) = byte

apart : (a b : ℕ) → a ≡ b → eqb a b ≡ false → ⊥
apart a b same other = grind (arith, nat_tests, other)

no_entry : (entry : Entry) (history : List Entry) (lines others : List Line) → text_of [] lines ≡ text_of (entry ∷ history) others → ⊥
no_entry entry history [] others same = apart 101 104 (ap first_byte same) refl
no_entry entry history (line ∷ lines) others same = apart 108 104 (ap first_byte same) refl

-- a text of typed entries is that of no other typed entries, and what comes after them is the same
one_history : (history other : List Entry) (lines others : List Line) → AllByRecursion IsTyped history → AllByRecursion IsTyped other → text_of history lines ≡ text_of other others
    → (history ≡ other) × (text_of [] lines ≡ text_of [] others)
one_history [] [] lines others are are' same = (refl, same)
one_history [] (entry ∷ other) lines others are are' same = absurd (no_entry entry other lines others same)
one_history (entry ∷ history) [] lines others are are' same = absurd (no_entry entry history others lines (sym same))
one_history (entry ∷ history) (entry' ∷ other) lines others are are' same =
    let one = same_entry entry entry' _ _ are.0 are'.0 (sym (behind_entry entry history lines) ∙ same ∙ behind_entry entry' other others) in
    let rest = one_history history other lines others are.1 are'.1 one.1 in
    (cc, rest.1)

-- the text of typed entries and lines spells no others
pub spells_only : (text : List ℕ) (history : List Entry) (lines : List Line) → text ≡ text_of history lines → All IsTyped history → All IsLine lines → SpellsOnly text history lines
spells_only text history lines is each each-line entries others each' each-line' same =
    let rest = one_history entries history others lines (recursion_from_All IsTyped entries each') (recursion_from_All IsTyped history each) (same ∙ is) in
    (rest.0, (texts_differ [] [] others lines tt tt (recursion_from_All IsLine others each-line') (recursion_from_All IsLine lines each-line) rest.1).1)
