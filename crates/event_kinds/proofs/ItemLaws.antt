-- What is read of the changes of a write is spelled so, and what is spelled so is read.
use Rattle.std.proofs.Common.{◌≡◌, ℕ, ◌+◌, ◌≤◌, true, false, not, eqb, List, [], ◌∷◌, ◌++◌, length, Some, None, refl, ap, ◌∙◌, append_assoc, arith, codes}
use Rattle.std.specs.List.{AllByRecursion}
use Rattle.std.proofs.lemmas.List.{length-append}
use Rattle.event_kinds.specs.Events.{Item}
use Rattle.event_kinds.specs.declared.entry.Item.TheVariants as items
use Rattle.std.proofs.lemmas.Bool.Decides.{nat_tests}
use Rattle.base_types.specs.Names.{in_line}
use Rattle.event_kinds.specs.Texts.{item_text, changes_text}
use Rattle.event_kinds.specs.Entries.{IsItem, AreItems}
use Rattle.event_kinds.specs.Readers.{lit_at, pair_at, more_at}
use Rattle.event_kinds.specs.Reading.{in_token, force_of, item_cases, item_at, with_item, rest_items_at, items_cases, items_at}
use Rattle.event_kinds.proofs.Spelling.{stops, Spells, Behind, choose_behind, AreUpTo, Repeats, first_and_more, more_spells, Part, behind_part, again_part}
use Rattle.event_kinds.proofs.Fields.{TokenEnds}
use Rattle.event_kinds.proofs.Parts.{number_part}
use Rattle.event_kinds.proofs.RowLaws.{row_part, key_part}

item_behind : Behind [] item_text IsItem item_at
unfolding item_at
item_behind = choose_behind item_text IsItem item_cases (
  behind_part row_part (codes "+") items.Add item_text IsItem (λ row h. refl) (λ row h. h),
  (
    behind_part row_part (codes "=") items.Put item_text IsItem (λ row h. refl) (λ row h. h),
    (
      behind_part key_part (codes "-") items.Remove item_text IsItem (λ key h. refl) (λ key h. h),
      (
        behind_part number_part (codes "!") force_of item_text IsItem (λ n h. refl) (λ n h. h),
        tt,
      ),
    ),
  ),
)

item_again : (item : Item) (rest : List ℕ) → IsItem item → TokenEnds rest → item_at (item_text item ++ rest) ≡ Some (item, rest)
unfolding item_at lit_at
item_again (items.Add row) rest is end = again_part row_part items.Add row rest is tt
item_again (items.Put row) rest is end = again_part row_part items.Put row rest is tt
item_again (items.Remove key) rest is end = again_part key_part items.Remove key rest is tt
item_again (items.Force rel) rest is end = again_part number_part force_of rel.0 rest is end

pub item_spells : Spells item_text IsItem TokenEnds item_at
item_spells = record { takes = item_behind.takes; again = item_again }

-- nothing follows, or a line's end
abbrev pub HereEnds : List ℕ → Type 0
HereEnds rest = stops in_line rest ≡ true

line_end_ends : (byte : ℕ) → not (in_line byte) ≡ true → not (in_token byte) ≡ true
line_end_ends byte h = grind (arith, nat_tests, h)

line_end_is_no_blank : (byte : ℕ) → not (in_line byte) ≡ true → eqb 32 byte ≡ false
line_end_is_no_blank byte h = grind (arith, nat_tests, h)

pub token_end : (rest : List ℕ) → HereEnds rest → TokenEnds rest
token_end [] end = refl
token_end (byte ∷ bytes) end = line_end_ends byte end

pub changes_end : (changes : List Item) (rest : List ℕ) → HereEnds rest → TokenEnds (changes_text changes ++ rest)
changes_end [] rest end = token_end rest end
changes_end (change ∷ changes) rest end = refl

no_blank : (rest : List ℕ) → HereEnds rest → lit_at (codes " ") rest ≡ None
unfolding lit_at
no_blank [] end = refl
no_blank (byte ∷ bytes) end = rw (line_end_is_no_blank byte end) refl

items_repeat : Repeats (codes " ") item_text IsItem TokenEnds HereEnds item_at
items_repeat = record { one = item_spells; others = changes_end; last = no_blank }

more_items : (most : ℕ) → Spells changes_text (AreUpTo IsItem most) HereEnds (more_at (codes " ") item_at most)
more_items most = more_spells (codes " ") item_text IsItem TokenEnds HereEnds item_at most items_repeat

-- each change has a byte
enough : (changes : List Item) (rest : List ℕ) → length changes ≤ length (changes_text changes ++ rest)
enough [] rest = omega arith
enough (change ∷ changes) rest =
    let longer : length ((codes " " ++ item_text change ++ changes_text changes) ++ rest) ≡ length (codes " " ++ item_text change) + length (changes_text changes ++ rest) =
    ap length (append_assoc (codes " " ++ item_text change) (changes_text changes) rest) ∙ length-append (codes " " ++ item_text change) (changes_text changes ++ rest) in
    omega (arith, longer, enough changes rest)

rest_spells : Spells changes_text (AllByRecursion IsItem) HereEnds rest_items_at
unfolding rest_items_at
rest_spells = record {
  takes = λ bytes changes rest e. let t = (more_items (length bytes)).takes bytes changes rest e in (t.0, t.1.1);
  again = λ changes rest all end. (more_items (length (changes_text changes ++ rest))).again changes rest (enough changes rest, all) end;
}

abbrev some_part : Part (Item × List Item)
some_part = record {
  text = λ (p : Item × List Item). item_text p.0 ++ changes_text p.1;
  Is = λ (p : Item × List Item). IsItem p.0 × AllByRecursion IsItem p.1;
  Ends = HereEnds;
  read = pair_at item_at rest_items_at;
  spells = first_and_more (codes " ") item_text IsItem TokenEnds HereEnds item_at (AllByRecursion IsItem) rest_items_at items_repeat rest_spells;
}

items_behind : Behind [] changes_text AreItems items_at
unfolding items_at
items_behind = choose_behind changes_text AreItems items_cases (behind_part some_part (codes " ") with_item changes_text AreItems (λ p h. refl) (λ p h. (omega arith, (h.0, h.1))), tt)

items_again : (changes : List Item) (rest : List ℕ) → AreItems changes → HereEnds rest → items_at (changes_text changes ++ rest) ≡ Some (changes, rest)
unfolding items_at lit_at
items_again [] rest are end = absurd (omega (arith, are.0))
items_again (change ∷ changes) rest are end = again_part some_part with_item (change, changes) rest (are.1.0, are.1.1) end

pub items_spells : Spells changes_text AreItems HereEnds items_at
items_spells = record { takes = items_behind.takes; again = items_again }

abbrev pub items_part : Part (List Item)
items_part = record { text = changes_text; Is = AreItems; Ends = HereEnds; read = items_at; spells = items_spells }
