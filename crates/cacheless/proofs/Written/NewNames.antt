-- The names that writes of commands give columns are those of no other columns that their backends see.
use Rattle.std.proofs.Common.{◌≡◌, ◌∙◌, ◌<◌, ◌+◌, inl, inr, ℕ, ℤ, Bool, true, false, Option, Some, None, List, [], ◌∷◌, ◌++◌, ◌&&◌, refl, sym, ap, subst, map, filter, nat_le, negsuc, arith}
use Rattle.std.specs.Prelude.{if◌then◌else◌}
use Rattle.std.specs.List.{AllByRecursion, list_any, enumerate_from}
use Rattle.std.specs.Option.{IfSome}
use Rattle.std.specs.Str.{bytes_eq}
use Rattle.std.proofs.lemmas.Bool.{both_ways, eq-eqb, and_parts, and_from, or_parts, leb-true}
use Rattle.std.proofs.lemmas.List.Folds.{list_any-append}
use Rattle.std.proofs.lemmas.Slice.Eq.{bytes_eq-Decides}
use Rattle.base_types.specs.Names.{IsName, IsDropped, dropped_name, number_of_digits}
use Rattle.base_types.specs.Scans.{same_oid, selects}
use Rattle.base_types.specs.declared.col_type.ColType.{ColType}
use Rattle.base_types.specs.declared.command.NewColumn.{NewColumn}
use Rattle.base_types.specs.declared.dropped.TheConstants.{MOST_COLUMNS}
use Rattle.base_types.specs.declared.kind.Kind.{Kind}
use Rattle.base_types.specs.declared.row.Row.TheVariants as rows
use Rattle.base_types.specs.declared.scan.Purpose.TheVariants as scans
use Rattle.base_types.proofs.DroppedNumbers.{shown_digits, shown}
use Rattle.base_types.proofs.Names.{name_parts}
use Rattle.ddl_effect.specs.Tables.{first_twice}
use Rattle.ddl_effect.specs.Columns.{as_dropped}
use Rattle.history_model.specs.Orderly.{main_rel}
use Rattle.history_model.specs.Sound.{IsSound}
use Rattle.history_model.specs.Prefixes.{EachEntry}
use Rattle.history_model.specs.Versions.{versions_of, sees, added_row, rows_of, answer_of}
use Rattle.history_model.proofs.Every.{every-weaker, every, every-map, every-filter, SomeOf}
use Rattle.history_model.proofs.GivenRows.{row_given}
use Rattle.history_model.proofs.InOrder.{IsIn, of_in, every_self}
use Rattle.cacheless.specs.Types.{Oid, Row, Entry}
use Rattle.cacheless.specs.TableWrites.{AreNamesakes, IsCalledWell, IsCalledApart, CallsApart, AreCalledApart, WritesColumns}
use Rattle.cacheless.proofs.NamedColumns.{apart_from}
use Rattle.cacheless.proofs.WholeColumns.{whole_apart, whole_called}
use Rattle.cacheless.proofs.Written.NewTableItems.{column_item}

-- the row of a relation has no namesake
class_apart : (seen : Row) (rel : Oid) (name : List ℕ) (kind : Kind) (fill : Option ℕ) → AreNamesakes seen (rows.Class rel name kind fill) → ⊥
class_apart (rows.Att own num called col_type stat live) rel name kind fill are = are
class_apart seen rel name kind fill are = absurd are

pub class_called : (before : List Entry) (b : ℕ) (rel : Oid) (name : List ℕ) (kind : Kind) (fill : Option ℕ) → IsCalledApart before b (rows.Class rel name kind fill)
class_called before b rel name kind fill = (tt, every (λ seen. AreNamesakes seen (rows.Class rel name kind fill) → ⊥) (λ seen. class_apart seen rel name kind fill) (rows_of before b))

namesakes_like : (seen : Row) (rel : Oid) (num : ℕ) (name : List ℕ) (col_type to : ColType) (stat stat' : ℤ) (live live' : Bool) → AreNamesakes seen (rows.Att rel num name to stat' live') → AreNamesakes seen (rows.Att rel num name col_type stat live)
namesakes_like (rows.Att own n called t s l) rel num name col_type to stat stat' live live' are = are
namesakes_like seen rel num name col_type to stat stat' live live' are = absurd are

-- a column that keeps its number and its name
pub kept_called : (before : List Entry) (b : ℕ) (rel : Oid) (num : ℕ) (name : List ℕ) (col_type to : ColType) (stat stat' : ℤ) (live live' : Bool) → IsSound before → EachEntry WritesColumns before → IsIn (rows.Att rel num name col_type stat live) (rows_of before b)
    → IsCalledApart before b (rows.Att rel num name to stat' live')
kept_called before b rel num name col_type to stat stat' live live' sound writes seen = (
  of_in IsCalledWell (rows.Att rel num name col_type stat live) (rows_of before b) (whole_called before b sound writes) seen,
  every-weaker (λ other. AreNamesakes other (rows.Att rel num name col_type stat live) → ⊥) (λ other. AreNamesakes other (rows.Att rel num name to stat' live') → ⊥)
      (λ other apart are. apart (namesakes_like other rel num name col_type to stat stat' live live' are)) (rows_of before b) (apart_from (rows.Att rel num name col_type stat live) (rows_of before b) (whole_apart before b sound writes) seen),
)

-- a column with a name that none has which the backend sees
pub free_called : (before : List Entry) (b : ℕ) (rel : Oid) (num : ℕ) (name : List ℕ) (col_type : ColType) (stat : ℤ) (live : Bool) → IsName name → answer_of before b (scans.AttName rel name) ≡ [] → IsCalledApart before b (rows.Att rel num name col_type stat live)
free_called before b rel num name col_type stat live spelled free = (
  inl spelled,
  every-weaker (λ seen. IsIn seen (rows_of before b)) (λ seen. AreNamesakes seen (rows.Att rel num name col_type stat live) → ⊥) (λ seen there are. subst (SomeOf (λ r. seen ≡ r)) free
      (row_given (λ r. seen ≡ r) before b (scans.AttName rel name) (λ r same. subst (λ x. selects (scans.AttName rel name) x ≡ true) same (asked seen are)) there)) (rows_of before b) (every_self (rows_of before b)),
)
  where
    asked : (seen : Row) → AreNamesakes seen (rows.Att rel num name col_type stat live) → selects (scans.AttName rel name) seen ≡ true
    asked (rows.Att own n called t s l) are = and_from (same_oid own rel) (bytes_eq called name) (eq-eqb own.0 rel.0 (ap (λ o. o.0) are.0)) ((bytes_eq-Decides called name).1 are.1)
    asked seen are = absurd are

-- a name doesn't begin with a dot
no_name_dropped : (num : ℕ) → IsName (dropped_name num) → ⊥
no_name_dropped num named =
    let short = name_parts (dropped_name num) named in
    let byte : false ≡ true = short.bytes 0 0 short.some in cc byte

-- no other column has the name of a dropped one
dropped_alone : (seen : Row) (rel : Oid) (num : ℕ) (col_type : ColType) (stat : ℤ) → IsDropped num (dropped_name num) → IsCalledWell seen → AreNamesakes seen (rows.Att rel num (dropped_name num) col_type stat false) → ⊥
dropped_alone (rows.Att own n called t s l) rel num col_type stat dropped (inl name) are = no_name_dropped num (subst IsName are.1 name)
dropped_alone (rows.Att own n called t s l) rel num col_type stat dropped (inr other) are =
    both_ways _ are.2 (eq-eqb n num (sym (shown n called other) ∙ ap (λ text. number_of_digits (shown_digits text)) are.1 ∙ shown num (dropped_name num) dropped))
dropped_alone seen rel num col_type stat dropped called are = absurd are

-- a column that is dropped
pub dropped_called : (before : List Entry) (b : ℕ) (rel : Oid) (num : ℕ) (name : List ℕ) (col_type : ColType) (stat : ℤ) (live : Bool) → IsSound before → EachEntry WritesColumns before → IsIn (rows.Att rel num name col_type stat live) (rows_of before b)
    → IsCalledApart before b (as_dropped (rows.Att rel num name col_type stat live))
dropped_called before b rel num name col_type stat live sound writes seen = by_test (nat_le 1 num && nat_le num MOST_COLUMNS) refl
  where
    by_test : (t : Bool) → (nat_le 1 num && nat_le num MOST_COLUMNS) ≡ t → IsCalledApart before b (rows.Att rel num (if t then dropped_name num else name) col_type stat false)
    by_test true is =
        let parts = and_parts (nat_le 1 num) (nat_le num MOST_COLUMNS) is in
        let dropped : IsDropped num (dropped_name num) = record { some = omega (arith, leb-true 1 num parts.0); most = leb-true num MOST_COLUMNS parts.1; is = refl } in
        (inr dropped, every-weaker IsCalledWell (λ other. AreNamesakes other (rows.Att rel num (dropped_name num) col_type stat false) → ⊥) (λ other called. dropped_alone other rel num col_type stat dropped called) (rows_of before b) (whole_called before b sound writes))
    by_test false is = kept_called before b rel num name col_type col_type stat stat live false sound writes seen

-- no backend sees a column of a relation whose oid is still to be drawn
undrawn_apart : (before : List Entry) (b : ℕ) (rel : Oid) (num : ℕ) (name : List ℕ) (col_type : ColType) (stat : ℤ) (live : Bool) → AllByRecursion (λ v. (main_rel v.row).0 < rel.0) (versions_of before)
    → AllByRecursion (λ seen. AreNamesakes seen (rows.Att rel num name col_type stat live) → ⊥) (rows_of before b)
undrawn_apart before b rel num name col_type stat live drawn =
    every-map (λ seen. AreNamesakes seen new → ⊥) (λ v. v.row) (filter (sees before b) (versions_of before)) (every-filter (λ v. AreNamesakes v.row new → ⊥) (sees before b) (versions_of before)
    (every-weaker (λ v. (main_rel v.row).0 < rel.0) (λ v. sees before b v ≡ true → AreNamesakes v.row new → ⊥) (λ v low seen are. of v.row low are) (versions_of before) drawn))
  where
    new : Row
    new = rows.Att rel num name col_type stat live

    of : (seen : Row) → (main_rel seen).0 < rel.0 → AreNamesakes seen new → ⊥
    of (rows.Att own n called t s l) low are = absurd (omega (arith, low, ap (λ o. o.0) are.0))
    of seen low are = absurd are

-- the columns of a new table
pub table_called : (before : List Entry) (b : ℕ) (rel : Oid) (n : ℕ) (columns : List NewColumn) → AllByRecursion (λ v. (main_rel v.row).0 < rel.0) (versions_of before) → AllByRecursion (λ column. IsName column.name) columns
    → AllByRecursion (CallsApart before b) (map (column_item rel) (enumerate_from n columns))
table_called before b rel n [] drawn spelled = tt
table_called before b rel n (column ∷ columns) drawn spelled = ((inl spelled.0, undrawn_apart before b rel n column.name column.col_type (negsuc 0) true drawn), table_called before b rel (n + 1) columns drawn spelled.1)

-- none of these names is among the earlier ones
abbrev NoneTwice : List (List ℕ) → List NewColumn → Type 0
NoneTwice earlier columns = AllByRecursion (λ column. list_any (bytes_eq column.name) earlier ≡ false) columns

none_twice : (earlier : List (List ℕ)) (columns : List NewColumn) → first_twice earlier (map (λ column. column.name) columns) ≡ None → NoneTwice earlier columns
none_twice earlier [] none = tt
none_twice earlier (column ∷ columns) none = by_test (list_any (bytes_eq column.name) earlier) refl none (none_twice (earlier ++ column.name ∷ []) columns)
  where
    shorter : (others : List NewColumn) → NoneTwice (earlier ++ column.name ∷ []) others → NoneTwice earlier others
    shorter others all = every-weaker (λ other. list_any (bytes_eq other.name) (earlier ++ column.name ∷ []) ≡ false) (λ other. list_any (bytes_eq other.name) earlier ≡ false)
        (λ other is. (or_parts (list_any (bytes_eq other.name) earlier) (list_any (bytes_eq other.name) (column.name ∷ [])) (sym (list_any-append (bytes_eq other.name) earlier (column.name ∷ [])) ∙ is)).0) others all

    by_test : (t : Bool) → list_any (bytes_eq column.name) earlier ≡ t → (if t then Some column.name else first_twice (earlier ++ column.name ∷ []) (map (λ c. c.name) columns)) ≡ None
        → (first_twice (earlier ++ column.name ∷ []) (map (λ c. c.name) columns) ≡ None → NoneTwice (earlier ++ column.name ∷ []) columns) → NoneTwice earlier (column ∷ columns)
    by_test true is twice later = absurd (cc twice)
    by_test false is twice later = (is, shorter columns (later twice))

-- and no two of a new table's columns have one name
pub table_apart : (rel : Oid) (n : ℕ) (earlier : List (List ℕ)) (columns : List NewColumn) → first_twice earlier (map (λ column. column.name) columns) ≡ None → AreCalledApart (map (column_item rel) (enumerate_from n columns))
table_apart rel n earlier [] none = tt
table_apart rel n earlier (column ∷ columns) none = by_test (list_any (bytes_eq column.name) earlier) none (table_apart rel (n + 1) (earlier ++ column.name ∷ []) columns)
  where
    differ : (m : ℕ) (others : List NewColumn) → NoneTwice (earlier ++ column.name ∷ []) others
        → AllByRecursion (λ later. IfSome (added_row later) (λ other. AreNamesakes (rows.Att rel n column.name column.col_type (negsuc 0) true) other → ⊥)) (map (column_item rel) (enumerate_from m others))
    differ m [] all = tt
    differ m (other ∷ others) all = (
      λ are. both_ways _ (or_parts (bytes_eq other.name column.name) false (or_parts (list_any (bytes_eq other.name) earlier) (list_any (bytes_eq other.name) (column.name ∷ [])) (sym (list_any-append (bytes_eq other.name) earlier (column.name ∷ [])) ∙ all.0)).1).0
          ((bytes_eq-Decides other.name column.name).1 (sym are.1)),
      differ (m + 1) others all.1,
    )

    by_test : (t : Bool) → (if t then Some column.name else first_twice (earlier ++ column.name ∷ []) (map (λ c. c.name) columns)) ≡ None
        → (first_twice (earlier ++ column.name ∷ []) (map (λ c. c.name) columns) ≡ None → AreCalledApart (map (column_item rel) (enumerate_from (n + 1) columns))) → AreCalledApart (map (column_item rel) (enumerate_from n (column ∷ columns)))
    by_test true twice later = absurd (cc twice)
    by_test false twice later = (differ (n + 1) columns (none_twice (earlier ++ column.name ∷ []) columns twice), later twice)
