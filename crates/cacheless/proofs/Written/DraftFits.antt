-- That a draft may be written, by the parts of its items.
use Rattle.std.proofs.Common.{◌≡◌, ◌∙◌, ◌<◌, ◌+◌, ◌-◌, ◌&&◌, ℕ, zero, suc, true, false, Option, Some, None, List, [], ◌∷◌, ◌++◌, refl, sym, ap, subst, map, length, nat_le, arith}
use Rattle.std.specs.List.{list_any, flat_map}
use Rattle.std.specs.Option.{option_to_list}
use Rattle.std.specs.Str.{bytes_eq}
use Rattle.std.proofs.Math.Bool.{and-false}
use Rattle.std.proofs.lemmas.Bool.{leb-true, false_from_ne_true}
use Rattle.base_types.specs.RowKeys.{key_of}
use Rattle.base_types.specs.declared.change.Change.{Change}
use Rattle.base_types.specs.declared.change.Change.TheVariants.{Replace, Delete}
use Rattle.base_types.specs.declared.row.Row.TheVariants as rows
use Rattle.event_kinds.specs.declared.entry.Item.TheVariants as forms
use Rattle.ddl_effect.specs.Parts.{deleting}
use Rattle.ddl_effect.specs.Drawing.{drawn_oid, drawn_row, drawn_change}
use Rattle.history_model.specs.Changes.{item_of}
use Rattle.history_model.specs.Drawn.{next_oid}
use Rattle.history_model.specs.Names.{new_names}
use Rattle.cacheless.specs.Facts.{Facts}
use Rattle.cacheless.specs.Locks.{locked_by}
use Rattle.cacheless.specs.State.{relation_made, locks_made}
use Rattle.cacheless.specs.Plays.{drafted}
use Rattle.cacheless.specs.Types.{Oid, Row, Draft, Entry, Item, Opening}
use Rattle.cacheless.proofs.Written.ComesTo.{Writer}
use Rattle.cacheless.proofs.Written.FitToWrite.{IsFit, KeepsAll}
use Rattle.cacheless.proofs.Written.NamesGiven.{AreReadAsNow, names_of}
use Rattle.cacheless.proofs.Written.WrittenParts.{items_in, MayAlter, parts_drafted}

-- the draft of a command that has opened these descriptors may be written, but for its names and that its command has written nothing yet; it changes something; it keeps columns in order, indexes whole and names apart; the names that the history sees in it are those of its plan, where the relations' own rows were read as they are; and it takes the lock of the relation that it makes, if it makes one
pub record WriteFits (history : List Entry) (b c : ℕ) (facts : Facts) (opened : List Opening) (draft : Draft) : Type 0 where
  pub fit : IsFit history b draft.new_oids (drafted (next_oid history) draft)
  pub some : 0 < length (drafted (next_oid history) draft)
  pub keeps : KeepsAll history b (drafted (next_oid history) draft)
  pub names : AreReadAsNow history b facts opened → (name : List ℕ) → list_any (bytes_eq name) (new_names history b (drafted (next_oid history) draft)) ≡ true → list_any (bytes_eq name) (flat_map (names_of facts) (drafted (next_oid history) draft)) ≡ true
  pub locks : (rel : Oid) → rel.0 ≡ next_oid history → flat_map (locked_by c) (drafted (next_oid history) draft) ≡ locks_made c (relation_made draft.changes rel)

-- that of a writer
abbrev pub Fits : Writer → ℕ → Facts → Type 0
Fits w c facts = WriteFits w.history w.backend c facts w.opened w.draft

-- a draft fits whose items may be written
pub draft_fits : (w : Writer) (c : ℕ) (facts : Facts) (draft : Draft) (items : List Item) (made : Option Oid) → w.draft ≡ draft → drafted (next_oid w.history) draft ≡ items → ((rel : Oid) → rel.0 ≡ next_oid w.history → relation_made draft.changes rel ≡ made)
    → MayAlter w.history w.backend w.opened draft.new_oids made items → Fits w c facts
draft_fits w c facts draft items made is are makes may = subst (WriteFits w.history w.backend c facts w.opened) (sym is) (record {
  fit = now.fit;
  some = now.some;
  keeps = now.keeps;
  names = now.named facts;
  locks = λ rel first. now.locked c ∙ ap (locks_made c) (sym (makes rel first));
})
  where
    now : MayAlter w.history w.backend w.opened draft.new_oids made (drafted (next_oid w.history) draft)
    now = subst (MayAlter w.history w.backend w.opened draft.new_oids made) (sym are) may

-- so does one that takes rows away, changes others and forces messages
pub parts_fit_draft : (w : Writer) (c : ℕ) (facts : Facts) (count : ℕ) (gone : List Row) (changes : List Change) (forced : List Oid) (items : List Item) (made : Option Oid) → w.draft ≡ record { changes = map (λ row. Delete (key_of row)) gone ++ changes; forced = forced; new_oids = count }
    → map item_of (map (drawn_change (next_oid w.history) count) changes) ≡ items → ((rel : Oid) → rel.0 ≡ next_oid w.history → relation_made (map (λ row. Delete (key_of row)) gone ++ changes) rel ≡ made)
    → MayAlter w.history w.backend w.opened count made (items_in gone items forced) → Fits w c facts
parts_fit_draft w c facts count gone changes forced items made is are makes may = draft_fits w c facts (record { changes = map (λ row. Delete (key_of row)) gone ++ changes; forced = forced; new_oids = count }) (items_in gone items forced) made is
    (parts_drafted (next_oid w.history) count gone changes forced ∙ ap (λ l. items_in gone l forced) are) makes may

-- an oid past the numbers of a draft's new ones stays as it is
pub undrawn_oid : (first count : ℕ) (oid : Oid) → count < oid.0 → drawn_oid first count oid ≡ oid
undrawn_oid first count oid past = ap (λ t. elim t as (λ u. Oid) [ true ↦ record { 0 = first + oid.0 - 1 } | false ↦ oid ])
    (ap (λ t. nat_le 1 oid.0 && t) (false_from_ne_true (nat_le oid.0 count) (λ is. absurd (omega (arith, past, leb-true oid.0 count is)))) ∙ and-false (nat_le 1 oid.0))

-- and so does each where none is new
pub none_drawn : (first : ℕ) (oid : Oid) → drawn_oid first 0 oid ≡ oid
none_drawn first oid = ap (λ t. elim t as (λ u. Oid) [ true ↦ record { 0 = first + oid.0 - 1 } | false ↦ oid ]) (none_new oid.0)
  where
    none_new : (n : ℕ) → (nat_le 1 n && nat_le n 0) ≡ false
    none_new zero = refl
    none_new (suc n) = ap (λ t. nat_le 1 (suc n) && t) (false_from_ne_true (nat_le (suc n) 0) (λ is. absurd (omega (arith, leb-true (suc n) 0 is)))) ∙ and-false (nat_le 1 (suc n))

pub undrawn_row : (first : ℕ) (row : Row) → drawn_row first 0 row ≡ row
undrawn_row first (rows.Class oid own kind fill) = ap (λ o. rows.Class o own kind fill) (none_drawn first oid)
undrawn_row first (rows.Att rel num own col_type stat live) = ap (λ o. rows.Att o num own col_type stat live) (none_drawn first rel)
undrawn_row first (rows.Def oid rel num word) = λ i. rows.Def (none_drawn first oid i) (none_drawn first rel i) num word
undrawn_row first (rows.Ind index table state nums) = λ i. rows.Ind (none_drawn first index i) (none_drawn first table i) state nums
undrawn_row first (rows.Con oid rel own valid what) = λ i. rows.Con (none_drawn first oid i) (none_drawn first rel i) own valid what
undrawn_row first (rows.Trg oid rel own on) = λ i. rows.Trg (none_drawn first oid i) (none_drawn first rel i) own on

-- the change that a row is put in the place of another
pub put_items : (first : ℕ) (row : Row) → map item_of (map (drawn_change first 0) (Replace row ∷ [])) ≡ forms.Put row ∷ []
put_items first row = ap (λ r. forms.Put r ∷ []) (undrawn_row first row)

-- the first new oid is the one that is drawn next
pub first_drawn : (n : ℕ) → ◌≡◌ {A = Oid} (record { 0 = n + 1 - 1 }) (record { 0 = n })
first_drawn n = let e : n + 1 - 1 ≡ n = omega arith in ap {B = Oid} (λ k. record { 0 = k }) e

-- a row that goes, if there is one
pub deletes : (o : Option Row) → deleting o ≡ map (λ row. Delete (key_of row)) (option_to_list o)
deletes None = refl
deletes (Some row) = refl

-- rows that go make no relation, and what follows no other than what it makes
pub none_made : (gone : List Row) (row : Row) (rel : Oid) → relation_made (map (λ r. Delete (key_of r)) gone ++ Replace row ∷ []) rel ≡ None
none_made [] row rel = refl
none_made (r ∷ gone) row rel = refl
