-- A row that an answer gives is the one with its key that the backend sees.
use Rattle.std.proofs.Common.{◌≡◌, ◌∙◌, ℕ, ℤ, Bool, true, false, Option, Some, None, List, [], ◌∷◌, refl, sym, ap, subst, cond}
use Rattle.std.specs.List.{AllByRecursion, find}
use Rattle.std.specs.Option.{option_map_or, option_to_list, IfSome}
use Rattle.std.proofs.lemmas.Bool.{and_from, and_parts}
use Rattle.base_types.specs.RowKeys.{key_of, same_key}
use Rattle.base_types.specs.Scans.{same_oid, selects}
use Rattle.base_types.specs.declared.col_type.ColType.{ColType}
use Rattle.base_types.specs.declared.row.Row.TheVariants as rows
use Rattle.base_types.specs.declared.scan.Purpose.TheVariants as scans
use Rattle.history_model.specs.Sound.{IsSound}
use Rattle.history_model.specs.Versions.{versions_of, sees, ends, ended_key, rows_of, answer_of, old_row}
use Rattle.history_model.proofs.Asking.{oid_eq}
use Rattle.history_model.proofs.Every.{every-weaker, from_some}
use Rattle.history_model.proofs.GivenRows.{given_seen}
use Rattle.history_model.proofs.Guards.{key_refl}
use Rattle.history_model.proofs.InOrder.{IsIn}
use Rattle.history_model.proofs.Ordered.{ended_named, one_version}
use Rattle.cacheless.specs.Types.{Oid, Row, Purpose, Entry, Item}
use Rattle.cacheless.proofs.VersionsStay.{version_seen}

-- the backend sees the row, and the scan asks for it
abbrev pub IsGiven : List Entry → ℕ → Purpose → Row → Type 0
IsGiven history b d row = IsIn row (rows_of history b) × (selects d row ≡ true)

-- so it is with the first row that a scan gives
pub first_given : (history : List Entry) (b : ℕ) (d : Purpose) (row : Row) (more : List Row) → answer_of history b d ≡ row ∷ more → IsGiven history b d row
first_given history b d row more is = (subst (AllByRecursion (IsGiven history b d)) is (given_seen history b d)).0

-- what holds of each of some rows holds of one that is found among them
pub found_holds : (P : Row → Type 0) (p : Row → Bool) (row : Row) (given : List Row) → AllByRecursion P given → find p given ≡ Some row → P row
found_holds P p row [] all is = absurd (cc)
found_holds P p row (other ∷ given) all is = by_test (p other) is (found_holds P p row given all.1)
  where
    by_test : (t : Bool) → cond t (Some other) (find p given) ≡ Some row → (find p given ≡ Some row → P row) → P row
    by_test true first later = let same : other ≡ row = cc in subst P same all.0
    by_test false rest later = later rest

-- and one that is found passes the test
pub found_passes : (p : Row → Bool) (row : Row) (given : List Row) → find p given ≡ Some row → p row ≡ true
found_passes p row [] is = absurd (cc is)
found_passes p row (other ∷ given) is = by_test (p other) refl is (found_passes p row given)
  where
    by_test : (t : Bool) → p other ≡ t → cond t (Some other) (find p given) ≡ Some row → (find p given ≡ Some row → p row ≡ true) → p row ≡ true
    by_test true passes first later = let same : other ≡ row = cc first in ap p (sym same) ∙ passes
    by_test false passes rest later = later rest

-- so of the rows that are found, of which there is one at most
pub found_given : (P : Row → Type 0) (p : Row → Bool) (given : List Row) → AllByRecursion P given → AllByRecursion P (option_to_list (find p given))
found_given P p given all = of (find p given) refl
  where
    of : (o : Option Row) → find p given ≡ o → AllByRecursion P (option_to_list o)
    of None is = tt
    of (Some row) is = (found_holds P p row given all is, tt)

itself : (o : Option Row) → IfSome o (λ row. o ≡ Some row)
itself None = tt
itself (Some row) = refl

-- the row that a change replaces or takes away is the one with its key that is seen
pub seen_is_old : (history : List Entry) (b : ℕ) (item : Item) (row : Row) → IsSound history → ended_key item ≡ Some (key_of row) → IsIn row (rows_of history b) → old_row history b item ≡ Some row
seen_is_old history b item row sound key seen =
    from_some (λ v. (row ≡ v.row) × (sees history b v ≡ true)) (old_row history b item ≡ Some row) (versions_of history)
    (every-weaker (λ v. ends history b item v ≡ true → old_row history b item ≡ Some v.row) (λ v. (row ≡ v.row) × (sees history b v ≡ true) → old_row history b item ≡ Some row)
    (λ v old both. old (and_from (option_map_or (same_key (key_of v.row)) (ended_key item) false) (sees history b v)
    (ap (λ o. option_map_or (same_key (key_of v.row)) o false) key ∙ ap (λ r. same_key (key_of v.row) (key_of r)) both.0 ∙ key_refl (key_of v.row)) both.1) ∙ ap Some (sym both.0)) (versions_of history)
    (ended_named history b (λ r. old_row history b item ≡ Some r) item (one_version history sound) (itself (old_row history b item))))
    (version_seen (λ r. row ≡ r) history b seen)

-- a column that the backend sees
pub record ColumnSeen (history : List Entry) (b : ℕ) (rel : Oid) (row : Row) : Type 0 where
  pub num : ℕ
  pub name : List ℕ
  pub col_type : ColType
  pub stat : ℤ
  pub live : Bool
  pub is : row ≡ rows.Att rel num name col_type stat live
  pub seen : IsIn (rows.Att rel num name col_type stat live) (rows_of history b)

-- the row that a scan by a column's name gives first is one
pub column_seen : (history : List Entry) (b : ℕ) (rel : Oid) (column : List ℕ) (row : Row) (more : List Row) → answer_of history b (scans.AttName rel column) ≡ row ∷ more → ColumnSeen history b rel row
column_seen history b rel column row more is = of row (first_given history b (scans.AttName rel column) row more is)
  where
    of : (r : Row) → IsGiven history b (scans.AttName rel column) r → ColumnSeen history b rel r
    of (rows.Att own num name col_type stat live) given =
        let same : own ≡ rel = oid_eq own rel (and_parts (same_oid own rel) _ given.1).0 in
        record { num = num; name = name; col_type = col_type; stat = stat; live = live; is = ap (λ o. rows.Att o num name col_type stat live) same; seen = subst (λ o. IsIn (rows.Att o num name col_type stat live) (rows_of history b)) same given.0 }
    of r given = absurd (cc given.1)
