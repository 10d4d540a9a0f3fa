-- The items of a new table; and that they keep columns in order and names apart.
use Rattle.std.proofs.Common.{◌≡◌, ◌∙◌, ◌+◌, ◌-◌, ◌⊎◌, inl, inr, ℕ, zero, suc, negsuc, Bool, true, None, List, [], ◌∷◌, ◌==◌, ◌||◌, ◌&&◌, refl, ap, map, nat_lt, arith, append-nil, ℤ}
use Rattle.std.specs.List.{AllByRecursion, list_any, list_all, enumerate_from}
use Rattle.std.specs.Option.{IfSome}
use Rattle.std.proofs.lemmas.Bool.{and_from, or_left, or_right, eq-eqb, le-leb}
use Rattle.base_types.specs.declared.command.NewColumn.{NewColumn}
use Rattle.base_types.specs.declared.col_type.ColType.{ColType}
use Rattle.base_types.specs.declared.kind.Kind.TheVariants.{Table}
use Rattle.base_types.specs.declared.row.Row.TheVariants as rows
use Rattle.base_types.specs.declared.row_key.RowKey.TheVariants as keys
use Rattle.event_kinds.specs.declared.entry.Item.TheVariants as forms
use Rattle.ddl_effect.specs.Tables.{new_table, new_column}
use Rattle.ddl_effect.specs.Drawing.{drawn_change}
use Rattle.history_model.specs.Changes.{item_of}
use Rattle.history_model.specs.Versions.{added_row}
use Rattle.history_model.specs.Writes.{has_row}
use Rattle.cacheless.specs.Types.{Oid, Entry, Item, Row}
use Rattle.cacheless.specs.Plays.{drafted}
use Rattle.cacheless.proofs.Written.DraftFits.{first_drawn}
use Rattle.cacheless.specs.TableWrites.{takes_whole, gives_key, is_next_column, AreNamedApart, ShareName}

-- the item of a column
abbrev pub column_item : Oid → ℕ × NewColumn → Item
column_item rel (num, column) = forms.Add (rows.Att rel num column.name column.col_type (negsuc 0) true)

-- the items of a table
abbrev pub table_items : Oid → List ℕ → List (ℕ × NewColumn) → List Item
table_items rel name numbered = forms.Add (rows.Class rel name Table None) ∷ map (column_item rel) numbered

columns_drawn : (n : ℕ) (numbered : List (ℕ × NewColumn)) → map item_of (map (drawn_change n 1) (map new_column numbered)) ≡ map (column_item (record { 0 = n })) numbered
columns_drawn n [] = refl
columns_drawn n ((num, column) ∷ numbered) = λ i. forms.Add (rows.Att (first_drawn n i) num column.name column.col_type (negsuc 0) true) ∷ columns_drawn n numbered i

-- those of a new table have the oid that is next
pub drafted_is : (n : ℕ) (name : List ℕ) (columns : List NewColumn) → drafted n (new_table name columns) ≡ table_items (record { 0 = n }) name (enumerate_from 1 columns)
drafted_is n name columns = λ i. forms.Add (rows.Class (first_drawn n i) name Table None) ∷ (append-nil (map item_of (map (drawn_change n 1) (map new_column (enumerate_from 1 columns)))) ∙ columns_drawn n (enumerate_from 1 columns)) i

-- the number after one that a test passes, or the first one
pub next_number : (n : ℕ) (test : ℕ → Bool) → (n ≡ 0) ⊎ (test n ≡ true) → ((n + 1 == 1) || (nat_lt 1 (n + 1) && test (n + 1 - 1))) ≡ true
next_number n test (inl none) = or_left (n + 1 == 1) _ (eq-eqb (n + 1) 1 (ap (λ k. k + 1) none))
next_number zero test (inr is) = refl
next_number (suc n) test (inr is) = or_right (suc n + 1 == 1) _
    (and_from (nat_lt 1 (suc n + 1)) _ (le-leb 2 (suc n + 1) (omega arith)) (let e : suc n + 1 - 1 ≡ suc n = omega arith in ap test e ∙ is))

columns_whole : (items : List Item) (rel : Oid) (numbered : List (ℕ × NewColumn)) → list_all (takes_whole items) (map (column_item rel) numbered) ≡ true
columns_whole items rel [] = refl
columns_whole items rel (column ∷ numbered) = columns_whole items rel numbered

-- no change gives a row that shares its name with this one
abbrev GiveNot : Row → List Item → Type 0
GiveNot row items = AllByRecursion (λ later. IfSome (added_row later) (λ other. ShareName row other → ⊥)) items

columns_nameless : (rel : Oid) (row : Row) (numbered : List (ℕ × NewColumn)) → ((of : Oid) (num : ℕ) (name : List ℕ) (col_type : ColType) (stat : ℤ) (live : Bool) → ShareName row (rows.Att of num name col_type stat live) → ⊥) → GiveNot row (map (column_item rel) numbered)
columns_nameless rel row [] none = tt
columns_nameless rel row ((num, column) ∷ numbered) none = (none rel num column.name column.col_type (negsuc 0) true, columns_nameless rel row numbered none)

columns_named : (rel : Oid) (numbered : List (ℕ × NewColumn)) → AreNamedApart (map (column_item rel) numbered)
columns_named rel [] = tt
columns_named rel ((num, column) ∷ numbered) = (columns_nameless rel (rows.Att rel num column.name column.col_type (negsuc 0) true) numbered (λ of n name col_type stat live share. share), columns_named rel numbered)

-- the items of a table give no name to two relations
pub table_named : (rel : Oid) (name : List ℕ) (numbered : List (ℕ × NewColumn)) → AreNamedApart (table_items rel name numbered)
table_named rel name numbered = (columns_nameless rel (rows.Class rel name Table None) numbered (λ of num own col_type stat live share. share), columns_named rel numbered)

-- a column of this number is seen, or given by these items
abbrev is_there : List Entry → ℕ → Oid → List Item → ℕ → Bool
is_there before b rel items n = has_row before b (keys.Att rel n) || list_any (gives_key (keys.Att rel n)) items

columns_next : (before : List Entry) (b : ℕ) (rel : Oid) (items : List Item) (n : ℕ) (columns : List NewColumn) → (n ≡ 0) ⊎ (is_there before b rel items n ≡ true)
    → ((p : Item → Bool) → list_any p (map (column_item rel) (enumerate_from (n + 1) columns)) ≡ true → list_any p items ≡ true) → list_all (is_next_column before b items) (map (column_item rel) (enumerate_from (n + 1) columns)) ≡ true
columns_next before b rel items n [] last among = refl
columns_next before b rel items n (column ∷ columns) last among = and_from (is_next_column before b items (column_item rel (n + 1, column))) _ (next_number n (is_there before b rel items) last)
    (columns_next before b rel items (n + 1) columns
    (inr (or_right (has_row before b (keys.Att rel (n + 1))) _ (among (gives_key (keys.Att rel (n + 1))) (or_left (gives_key (keys.Att rel (n + 1)) (column_item rel (n + 1, column))) _ (and_from (rel.0 == rel.0) (n + 1 == n + 1) (eq-eqb rel.0 rel.0 refl) (eq-eqb (n + 1) (n + 1) refl))))))
    (λ p is. among p (or_right (p (column_item rel (n + 1, column))) _ is)))

-- what the items of a new table keep of tables, but for its columns' names
pub record TableKeeps (before : List Entry) (b : ℕ) (items : List Item) : Type 0 where
  pub whole : list_all (takes_whole items) items ≡ true
  pub columns : list_all (is_next_column before b items) items ≡ true

pub new_table_keeps : (before : List Entry) (b : ℕ) (rel : Oid) (name : List ℕ) (columns : List NewColumn) → TableKeeps before b (table_items rel name (enumerate_from 1 columns))
new_table_keeps before b rel name columns = record {
  whole = columns_whole items rel (enumerate_from 1 columns);
  columns = columns_next before b rel items 0 columns (inl refl) (λ p is. or_right (p (forms.Add (rows.Class rel name Table None))) _ is);
}
  where
    items : List Item
    items = table_items rel name (enumerate_from 1 columns)
