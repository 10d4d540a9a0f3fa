-- What becomes visible leaves the text of a field, where its backend holds none of the modes of the field's writers; a table's name is left as long as its row is, but for what a weak mode changes.
use Rattle.std.proofs.Common.{◌≡◌, ◌∙◌, inl, inr, ℕ, Bool, true, false, Some, None, List, [], ◌∷◌, ◌++◌, ◌==◌, ◌&&◌, if◌then◌else◌, refl, sym, ap, map, filter, codes}
use Rattle.std.specs.Prelude.{⊤}
use Rattle.std.specs.List.{AllByRecursion, list_any, filter_map, cons_option, join_by}
use Rattle.std.proofs.Math.Bool.{or-false}
use Rattle.std.proofs.lemmas.Bool.{eqb-true}
use Rattle.base_types.specs.declared.ids.Oid.{Oid}
use Rattle.base_types.specs.declared.ids.Xid.{Xid}
use Rattle.base_types.specs.declared.mode.Mode.{Mode}
use Rattle.base_types.specs.declared.mode.Mode.TheVariants.{ShareUpdateExclusive, ShareRowExclusive, AccessExclusive}
use Rattle.base_types.specs.declared.kind.Kind.{Kind}
use Rattle.base_types.specs.declared.kind.Kind.TheVariants.{Table, Index}
use Rattle.base_types.specs.declared.field.Field.{Field}
use Rattle.base_types.specs.declared.field.Field.TheVariants as fields
use Rattle.base_types.specs.declared.row.Row.{Row}
use Rattle.base_types.specs.declared.row.Row.TheVariants as rows
use Rattle.base_types.specs.declared.row.ConKind.TheVariants as demands
use Rattle.base_types.specs.declared.row_key.RowKey.TheVariants as keys
use Rattle.base_types.specs.declared.scan.Purpose.{Purpose}
use Rattle.base_types.specs.declared.scan.Purpose.TheVariants as scans
use Rattle.base_types.specs.Fields.{has_field, read_by, constraint_text, item_of, or_dash, field_text}
use Rattle.base_types.specs.Modes.{same_mode, writers_of}
use Rattle.base_types.specs.RowKeys.{key_of}
use Rattle.base_types.specs.Scans.{same_oid, selects, row_number}
use Rattle.event_kinds.specs.declared.entry.Entry.{Entry}
use Rattle.event_kinds.specs.declared.entry.Event.TheVariants as events
use Rattle.lock_modes.specs.Grants.{holds}
use Rattle.history_model.specs.Versions.{answer_of}
use Rattle.history_model.specs.Held.{held_of}
use Rattle.history_model.specs.Covered.{counted_for}
use Rattle.history_model.specs.Orderly.{main_rel}
use Rattle.history_model.specs.Sound.{MayComeNext, IsSound}
use Rattle.history_model.proofs.Asking.{oid_eq}
use Rattle.history_model.proofs.Every.{every-filter}
use Rattle.history_model.proofs.EnoughModes.{under_row}
use Rattle.history_model.proofs.FixedRows.{fixed, is_loose}
use Rattle.history_model.proofs.Guards.{is_changing, is_exclusive}
use Rattle.history_model.proofs.HeldRows.{not_held, changed_under, unheld_visible}
use Rattle.history_model.proofs.MaskedRows.{Masking, Masks}
use Rattle.history_model.proofs.Markings.{held_marks}
use Rattle.history_model.proofs.MaskedScans.{AsksMasked, masked_visible}
use Rattle.history_model.proofs.CountedAnswers.{counted}
use Rattle.history_model.proofs.Observed.{GoesByCounted, LeavesRead, Leaves}
use Rattle.history_model.proofs.RowMasks.{fixed_mask, fixed_masks, unvalidated, unvalidated_mask, unvalidated_masks, unvalidated_apart, counted_mask, counted_masks, counted_apart}
use Rattle.history_model.proofs.Touched.{entry_of}

class_fixes : (rel : Oid) (row : Row) → selects (scans.Class rel) (fixed row) ≡ selects (scans.Class rel) row
class_fixes rel (rows.Class oid own kind fill) = refl
class_fixes rel (rows.Att of num own col_type stat live) = refl
class_fixes rel row = refl

class_keyed : (rel : Oid) (row other : Row) → selects (scans.Class rel) row ≡ true → selects (scans.Class rel) other ≡ true → row_number row ≡ row_number other → key_of row ≡ key_of other
class_keyed rel (rows.Class oid own kind fill) (rows.Class oid' own' kind' fill') is also same = ap keys.Class (oid_eq oid rel is ∙ sym (oid_eq oid' rel also))
class_keyed rel (rows.Class oid own kind fill) other is also same = absurd (cc)
class_keyed rel row other is also same = absurd (cc)

class_number : (rel : Oid) (row : Row) → selects (scans.Class rel) row ≡ true → row_number row ≡ rel.0
class_number rel (rows.Class oid own kind fill) is = eqb-true oid.0 rel.0 is
class_number rel row is = absurd (cc)

every_filtered : {X : Type 0} (keep : X → Bool) (P : X → Type 0) → ((x : X) → keep x ≡ true → P x) → (xs : List X) → AllByRecursion P (filter keep xs)
every_filtered keep P of xs = every-filter P keep xs (all xs)
  where
    all : (ys : List _) → AllByRecursion (λ y. keep y ≡ true → P y) ys
    all [] = tt
    all (y ∷ ys) = (of y, all ys)

-- a relation's rows have its oid for a number
pub class_numbers : (rel : Oid) (found : List Row) → AllByRecursion (λ row. row_number row ≡ rel.0) (filter (selects (scans.Class rel)) found)
class_numbers rel found = every_filtered (selects (scans.Class rel)) (λ row. row_number row ≡ rel.0) (class_number rel) found

pub number_fixed : (row : Row) → row_number (fixed row) ≡ row_number row
number_fixed (rows.Class oid own kind fill) = refl
number_fixed (rows.Att of num own col_type stat live) = refl
number_fixed row = refl

class_asked : (rel : Oid) (row : Row) → selects (scans.Class rel) row ≡ true → (main_rel (fixed row) ≡ rel) × (is_loose (fixed row) ≡ true)
class_asked rel (rows.Class oid own kind fill) is = (oid_eq oid rel is, refl)
class_asked rel row is = absurd (cc)

-- the row of a relation is told apart
pub class_apart : (rel : Oid) → AsksMasked (fixed_mask rel) (scans.Class rel)
class_apart rel = record {
  concerns = class_asked rel;
  fixes = class_fixes rel;
  numbers = number_fixed;
  keyed = class_keyed rel;
  by_number = λ found. inr (rel.0, class_numbers rel found);
}

column_asked : (rel : Oid) (row : Row) → selects (scans.Attribute rel) row ≡ true → (main_rel (fixed row) ≡ rel) × (is_loose (fixed row) ≡ true)
column_asked rel (rows.Att of num own col_type stat live) is = (oid_eq of rel is, refl)
column_asked rel row is = absurd (cc)

column_fixes : (rel : Oid) (row : Row) → selects (scans.Attribute rel) (fixed row) ≡ selects (scans.Attribute rel) row
column_fixes rel (rows.Class oid own kind fill) = refl
column_fixes rel (rows.Att of num own col_type stat live) = refl
column_fixes rel row = refl

column_keyed : (rel : Oid) (row other : Row) → selects (scans.Attribute rel) row ≡ true → selects (scans.Attribute rel) other ≡ true → row_number row ≡ row_number other → key_of row ≡ key_of other
column_keyed rel (rows.Att of num own col_type stat live) (rows.Att of' num' own' col_type' stat' live') is also same = ap (λ o. keys.Att o num) (oid_eq of rel is ∙ sym (oid_eq of' rel also)) ∙ ap (keys.Att of') same
column_keyed rel (rows.Att of num own col_type stat live) other is also same = absurd (cc)
column_keyed rel row other is also same = absurd (cc)

-- and its columns
pub column_apart : (rel : Oid) → AsksMasked (fixed_mask rel) (scans.Attribute rel)
column_apart rel = record {
  concerns = column_asked rel;
  fixes = column_fixes rel;
  numbers = number_fixed;
  keyed = column_keyed rel;
  by_number = λ found. inl (λ row other. refl);
}

-- where a backend holds none of some modes on the relation, among which those are that mark changes of masked rows, what it makes visible leaves the masked answer
pub masked_leaves : (m : Masking) (rel : Oid) (strong : Mode → Bool) → Masks m (held_marks rel strong) → (d : Purpose) → AsksMasked m d → GoesByCounted (map m.mask) d → (modes : List Mode) → ((mode : Mode) → strong mode ≡ true → list_any (same_mode mode) modes ≡ true) → LeavesRead (map m.mask) d rel modes
masked_leaves m rel strong masks d apart goes modes among = (
  goes,
  λ history a c xid b sound comes other none.
      masked_visible m (held_marks rel strong) masks d apart history a c xid b sound comes other (λ i is. not_held strong modes (held_of history) a i rel among none is),
)

same_map : (f : Row → Row) → ((row : Row) → f row ≡ row) → (given : List Row) → map f given ≡ given
same_map f same [] = refl
same_map f same (row ∷ given) = ap (λ r. r ∷ map f given) (same row) ∙ ap (λ l. row ∷ l) (same_map f same given)

-- where each row counts as it is, whatever is made of the rows goes by them so
pub plain_goes : {X : Type 0} (read : List Row → X) (d : Purpose) → ((row : Row) → counted_for d row ≡ row) → GoesByCounted read d
plain_goes read d same given others alike = ap read (sym (same_map (counted_for d) same given) ∙ alike ∙ same_map (counted_for d) same others)

pub exclusive_only : (mode : Mode) → is_exclusive mode ≡ true → list_any (same_mode mode) (AccessExclusive ∷ []) ≡ true
exclusive_only AccessExclusive is = refl
exclusive_only mode is = absurd (cc)

-- what becomes visible leaves another's answer but for what a weak mode changes, where its backend doesn't hold AccessExclusive on the relation
pub fixed_leaves : (rel : Oid) (d : Purpose) → AsksMasked (fixed_mask rel) d → ((row : Row) → counted_for d row ≡ row) → LeavesRead (map fixed) d rel (AccessExclusive ∷ [])
fixed_leaves rel d apart plain = masked_leaves (fixed_mask rel) rel is_exclusive (fixed_masks rel) d apart (plain_goes (map fixed) d plain) (AccessExclusive ∷ []) exclusive_only

pub fixed_visible : (history : List Entry) (a c : ℕ) (xid : Xid) (b : ℕ) (rel : Oid) (d : Purpose) → AsksMasked (fixed_mask rel) d → IsSound history → MayComeNext history (entry_of a c (events.Visible xid)) → (a == b) ≡ false → holds (held_of history) a rel AccessExclusive ≡ false
    → map fixed (answer_of (history ++ entry_of a c (events.Visible xid) ∷ []) b d) ≡ map fixed (answer_of history b d)
fixed_visible history a c xid b rel d apart sound comes other none = masked_visible (fixed_mask rel) (held_marks rel is_exclusive) (fixed_masks rel) d apart history a c xid b sound comes other
    (λ i is. not_held is_exclusive (AccessExclusive ∷ []) (held_of history) a i rel exclusive_only (or-false (holds (held_of history) a rel AccessExclusive) ∙ none) is)

changing_only : (mode : Mode) → is_changing mode ≡ true → list_any (same_mode mode) (ShareUpdateExclusive ∷ ShareRowExclusive ∷ AccessExclusive ∷ []) ≡ true
changing_only ShareUpdateExclusive is = refl
changing_only ShareRowExclusive is = refl
changing_only AccessExclusive is = refl
changing_only mode is = absurd (cc)

row_only : (mode : Mode) → under_row mode ≡ true → list_any (same_mode mode) (ShareRowExclusive ∷ AccessExclusive ∷ []) ≡ true
row_only ShareRowExclusive is = refl
row_only AccessExclusive is = refl
row_only mode is = absurd (cc)

-- what becomes visible leaves a relation's constraints as they count for it, where its backend holds none of these modes on the relation
pub counted_leaves : (rel : Oid) → LeavesRead (map (counted_for (scans.Constraint rel))) (scans.Constraint rel) rel (ShareUpdateExclusive ∷ ShareRowExclusive ∷ AccessExclusive ∷ [])
counted_leaves rel = masked_leaves (counted_mask rel) rel is_changing (counted_masks rel) (scans.Constraint rel) (counted_apart rel) (λ given others alike. alike) (ShareUpdateExclusive ∷ ShareRowExclusive ∷ AccessExclusive ∷ []) changing_only

unvalidated_counted : (rel : Oid) (row : Row) → unvalidated (counted_for (scans.Constraint rel) row) ≡ unvalidated row
unvalidated_counted rel (rows.Con oid of own valid (demands.Foreign num refrel refnum)) = refl
unvalidated_counted rel (rows.Con oid of own valid (demands.Check text)) = refl
unvalidated_counted rel row = refl

unvalidated_by : (rel : Oid) (given : List Row) → map unvalidated (counted (scans.Constraint rel) given) ≡ map unvalidated given
unvalidated_by rel [] = refl
unvalidated_by rel (row ∷ given) = ap (λ r. r ∷ map unvalidated (counted (scans.Constraint rel) given)) (unvalidated_counted rel row) ∙ ap (λ l. unvalidated row ∷ l) (unvalidated_by rel given)

-- and but for whether they are known to hold, where it holds neither ShareRowExclusive nor AccessExclusive
pub unvalidated_leaves : (rel : Oid) → LeavesRead (map unvalidated) (scans.Constraint rel) rel (ShareRowExclusive ∷ AccessExclusive ∷ [])
unvalidated_leaves rel = masked_leaves (unvalidated_mask rel) rel under_row (unvalidated_masks rel) (scans.Constraint rel) (unvalidated_apart rel) (λ given others alike. sym (unvalidated_by rel given) ∙ ap (map unvalidated) alike ∙ unvalidated_by rel others) (ShareRowExclusive ∷ AccessExclusive ∷ []) row_only

items_masked : (mask : Row → Row) (f : Field) (rel : Oid) → ((row : Row) → item_of f rel (mask row) ≡ item_of f rel row) → (given : List Row) → filter_map (item_of f rel) (map mask given) ≡ filter_map (item_of f rel) given
items_masked mask f rel same [] = refl
items_masked mask f rel same (row ∷ given) = ap (λ o. cons_option o (filter_map (item_of f rel) (map mask given))) (same row) ∙ ap (λ l. cons_option (item_of f rel row) l) (items_masked mask f rel same given)

-- a field that goes by masked rows alone
text_masked : (mask : Row → Row) (f : Field) (rel : Oid) → ((row : Row) → item_of f rel (mask row) ≡ item_of f rel row) → (given others : List Row) → map mask given ≡ map mask others → field_text f rel given ≡ field_text f rel others
text_masked mask f rel same given others alike = ap (λ items. or_dash (join_by (λ item. item) (codes " ") items)) (sym (items_masked mask f rel same given) ∙ ap (filter_map (item_of f rel)) alike ∙ items_masked mask f rel same others)

-- a table's own row
abbrev pub IsOfTable : Row → Type 0
IsOfTable (rows.Class oid own Table fill) = ⊤
IsOfTable row = ⊥

table_item : (rel : Oid) (row other : Row) → IsOfTable row → fixed row ≡ fixed other → item_of fields.Name rel row ≡ item_of fields.Name rel other
table_item rel (rows.Class oid own Table fill) (rows.Class to name Table fill') table alike = (let same : own ≡ name = cc in ap Some same)
table_item rel (rows.Class oid own Table fill) (rows.Class to name Index fill') table alike = absurd (cc)
table_item rel (rows.Class oid own Table fill) (rows.Att of num name col_type stat live) table alike = absurd (cc)
table_item rel (rows.Class oid own Table fill) other table alike = absurd (cc)
table_item rel (rows.Class oid own Index fill) other table alike = absurd table
table_item rel row other table alike = absurd table

-- the name of a table: the same where its row is, but for what a weak mode changes
pub table_named : (rel : Oid) (given others : List Row) → AllByRecursion IsOfTable given → map fixed given ≡ map fixed others → field_text fields.Name rel given ≡ field_text fields.Name rel others
table_named rel given others tables alike = ap (λ items. or_dash (join_by (λ item. item) (codes " ") items)) (items given others tables alike)
  where
    items : (xs ys : List Row) → AllByRecursion IsOfTable xs → map fixed xs ≡ map fixed ys → filter_map (item_of fields.Name rel) xs ≡ filter_map (item_of fields.Name rel) ys
    items [] [] all same = refl
    items [] (y ∷ ys) all same = absurd (cc)
    items (x ∷ xs) [] all same = absurd (cc)
    items (x ∷ xs) (y ∷ ys) all same =
        let first : fixed x ≡ fixed y = cc in
        let rest : map fixed xs ≡ map fixed ys = cc in
        ap (λ o. cons_option o (filter_map (item_of fields.Name rel) xs)) (table_item rel x y all.0 first) ∙ ap (λ l. cons_option (item_of fields.Name rel y) l) (items xs ys all.1 rest)

-- the name of a table, which as a field of its own has to be told apart: an index's may change under ShareUpdateExclusive
abbrev pub is_table_name : Kind → Field → Bool
is_table_name Table fields.Name = true
is_table_name kind field = false

columns_fixed : (rel : Oid) (row : Row) → item_of fields.Columns rel (fixed row) ≡ item_of fields.Columns rel row
columns_fixed rel (rows.Class oid own kind fill) = refl
columns_fixed rel (rows.Att of num own col_type stat live) = refl
columns_fixed rel row = refl

referenced_unvalidated : (rel : Oid) (row : Row) → item_of fields.Referenced rel (unvalidated row) ≡ item_of fields.Referenced rel row
referenced_unvalidated rel (rows.Con oid of own valid what) = refl
referenced_unvalidated rel row = refl

referenced_counted : (rel : Oid) (row : Row) → item_of fields.Referenced rel (counted_for (scans.Constraint rel) row) ≡ item_of fields.Referenced rel row
referenced_counted rel (rows.Con oid of own valid (demands.Foreign num refrel refnum)) = refl
referenced_counted rel (rows.Con oid of own valid (demands.Check text)) = refl
referenced_counted rel row = refl

constraints_counted : (rel : Oid) (row : Row) → item_of fields.Constraints rel (counted_for (scans.Constraint rel) row) ≡ item_of fields.Constraints rel row
constraints_counted rel (rows.Con oid of own valid (demands.Foreign num refrel refnum)) = by_own (same_oid of rel) valid
  where
    by_own : (t v : Bool) → (if t then Some (own ++ constraint_text (v && t) (demands.Foreign num refrel refnum)) else None) ≡ (if t then Some (own ++ constraint_text v (demands.Foreign num refrel refnum)) else None)
    by_own false v = refl
    by_own true true = refl
    by_own true false = refl
constraints_counted rel (rows.Con oid of own valid (demands.Check text)) = refl
constraints_counted rel row = refl

-- what becomes visible leaves the text of a field for others, but for a table's name, where its backend holds on the relation none of the modes of the field's writers
pub weak_visible : (history : List Entry) (a c : ℕ) (xid : Xid) (b : ℕ) (kind : Kind) (f : Field) (rel : Oid) → IsSound history → MayComeNext history (entry_of a c (events.Visible xid)) → (a == b) ≡ false
    → has_field kind f ≡ true → is_table_name kind f ≡ false → list_any (holds (held_of history) a rel) (writers_of kind f) ≡ false
    → field_text f rel (answer_of (history ++ entry_of a c (events.Visible xid) ∷ []) b (read_by f rel)) ≡ field_text f rel (answer_of history b (read_by f rel))
weak_visible history a c xid b kind f rel sound comes other = of kind f
  where
    after : List Entry
    after = history ++ entry_of a c (events.Visible xid) ∷ []

    Goal : Kind → Field → Type 0
    Goal k g = has_field k g ≡ true → is_table_name k g ≡ false → list_any (holds (held_of history) a rel) (writers_of k g) ≡ false → field_text g rel (answer_of after b (read_by g rel)) ≡ field_text g rel (answer_of history b (read_by g rel))

    masked : (mask : Row → Row) (g : Field) → ((row : Row) → item_of g rel (mask row) ≡ item_of g rel row) → map mask (answer_of after b (read_by g rel)) ≡ map mask (answer_of history b (read_by g rel))
        → field_text g rel (answer_of after b (read_by g rel)) ≡ field_text g rel (answer_of history b (read_by g rel))
    masked mask g same alike = text_masked mask g rel same (answer_of after b (read_by g rel)) (answer_of history b (read_by g rel)) alike

    of : (k : Kind) (g : Field) → Goal k g
    of Table fields.Name has apart none = absurd (cc)
    of Table fields.Columns has apart none = masked fixed fields.Columns (columns_fixed rel) ((fixed_leaves rel (scans.Attribute rel) (column_apart rel) (λ row. refl)).1 history a c xid b sound comes other none)
    of Table fields.Defaults has apart none = ap (field_text fields.Defaults rel) (unheld_visible history a c xid b rel (scans.AttrDef rel) (AccessExclusive ∷ []) sound comes other (changed_under (scans.AttrDef rel) rel refl) none)
    of Table fields.Statistics has apart none = ap (field_text fields.Statistics rel) (unheld_visible history a c xid b rel (scans.Attribute rel) (ShareUpdateExclusive ∷ AccessExclusive ∷ []) sound comes other (changed_under (scans.Attribute rel) rel refl) none)
    of Table fields.Fillfactor has apart none = ap (field_text fields.Fillfactor rel) (unheld_visible history a c xid b rel (scans.Class rel) (ShareUpdateExclusive ∷ AccessExclusive ∷ []) sound comes other (changed_under (scans.Class rel) rel refl) none)
    of Table fields.Constraints has apart none = masked (counted_for (scans.Constraint rel)) fields.Constraints (constraints_counted rel) ((counted_leaves rel).1 history a c xid b sound comes other none)
    of Table fields.Referenced has apart none = masked unvalidated fields.Referenced (referenced_unvalidated rel) ((unvalidated_leaves rel).1 history a c xid b sound comes other none)
    of Table fields.Indexes has apart none = ap (field_text fields.Indexes rel) (unheld_visible history a c xid b rel (scans.Index rel) (writers_of Table fields.Indexes) sound comes other (changed_under (scans.Index rel) rel refl) none)
    of Table fields.Triggers has apart none = ap (field_text fields.Triggers rel) (unheld_visible history a c xid b rel (scans.Trigger rel) (ShareRowExclusive ∷ AccessExclusive ∷ []) sound comes other (changed_under (scans.Trigger rel) rel refl) none)
    of Index fields.Name has apart none = ap (field_text fields.Name rel) (unheld_visible history a c xid b rel (scans.Class rel) (ShareUpdateExclusive ∷ AccessExclusive ∷ []) sound comes other (changed_under (scans.Class rel) rel refl) none)
    of Index fields.Of has apart none = ap (field_text fields.Of rel) (unheld_visible history a c xid b rel (scans.IndexRow rel) (AccessExclusive ∷ []) sound comes other (changed_under (scans.IndexRow rel) rel refl) none)
    of Index fields.Valid has apart none = ap (field_text fields.Valid rel) (unheld_visible history a c xid b rel (scans.IndexRow rel) (AccessExclusive ∷ []) sound comes other (changed_under (scans.IndexRow rel) rel refl) none)
    of k g has apart none = absurd (cc)

-- and the text goes by the rows as they count
text_goes : (kind : Kind) (f : Field) (rel : Oid) → has_field kind f ≡ true → GoesByCounted (field_text f rel) (read_by f rel)
text_goes kind fields.Constraints rel has given others alike = text_masked (counted_for (scans.Constraint rel)) fields.Constraints rel (constraints_counted rel) given others alike
text_goes kind fields.Referenced rel has given others alike = text_masked (counted_for (scans.Constraint rel)) fields.Referenced rel (referenced_counted rel) given others alike
text_goes kind f rel has given others alike = plain_goes (field_text f rel) (read_by f rel) (λ row. refl) given others alike

-- so it is left, as are all fields but a table's name
pub field_leaves : (kind : Kind) (f : Field) (rel : Oid) → has_field kind f ≡ true → is_table_name kind f ≡ false → Leaves f rel (writers_of kind f)
field_leaves kind f rel has apart = (text_goes kind f rel has, λ history a c xid b sound comes other none. weak_visible history a c xid b kind f rel sound comes other has apart none)
