-- A scan by the name of a relation, by its oid, or by the name of a column of a relation gives one row at most.
use Rattle.std.proofs.Common.{◌≡◌, ◌≤◌, ◌∙◌, ℕ, Bool, true, false, List, [], ◌∷◌, ◌==◌, refl, sym, ap, filter, fold, length, arith}
use Rattle.std.specs.Prelude.{⊤}
use Rattle.std.specs.Str.{bytes_eq}
use Rattle.std.proofs.lemmas.Bool.{eqb-true, and_parts}
use Rattle.base_types.specs.RowKeys.{key_of}
use Rattle.base_types.specs.Scans.{same_oid, selects, put_in_order}
use Rattle.base_types.specs.declared.row.Row.TheVariants as rows
use Rattle.base_types.specs.declared.row_key.RowKey.TheVariants as keys
use Rattle.base_types.specs.declared.scan.Purpose.TheVariants as scans
use Rattle.row_visibility.specs.declared.version.Version.{Version}
use Rattle.history_model.specs.Sound.{IsSound}
use Rattle.history_model.specs.Prefixes.{EachEntry}
use Rattle.history_model.specs.Versions.{versions_of, sees, rows_of, answer_of}
use Rattle.history_model.proofs.Asking.{bytes_same, oid_eq}
use Rattle.history_model.proofs.Every.{every}
use Rattle.history_model.proofs.Ordered.{one_version, one_seen}
use Rattle.history_model.proofs.Seen.{Pairwise, pair-weaker, pair-map, pair-filter}
use Rattle.local_caches.specs.Kept.{is_keyed}
use Rattle.cacheless.specs.Types.{Row, Purpose, Entry}
use Rattle.cacheless.specs.TableWrites.{AreNamesakes, WritesColumns, ShareName, WritesNamesApart}
use Rattle.cacheless.proofs.ColumnAnswers.{pair-both}
use Rattle.cacheless.proofs.OneName.{names_apart}
use Rattle.cacheless.proofs.WholeColumns.{whole_apart}

-- two rows have different keys, and are neither two relations with one name nor two columns of a relation with one name
abbrev pub AreTwo : Row → Row → Type 0
AreTwo row other = (key_of row ≡ key_of other → ⊥) × ((ShareName row other → ⊥) × (AreNamesakes row other → ⊥))

-- so it is with each two rows that a backend sees
pub seen_two : (history : List Entry) (b : ℕ) → IsSound history → EachEntry WritesColumns history → EachEntry WritesNamesApart history → Pairwise AreTwo (rows_of history b)
seen_two history b sound columns names =
    pair-both TwoKeys (λ row other. (ShareName row other → ⊥) × (AreNamesakes row other → ⊥)) (rows_of history b)
    (pair-map TwoKeys (λ v. v.row) (filter (sees history b) vs) (pair-filter (λ v w. TwoKeys v.row w.row) (sees history b) vs
    (pair-weaker (λ v. ⊤) OneSeen (λ v w. sees history b v ≡ true → sees history b w ≡ true → TwoKeys v.row w.row) (λ v w _ _ one first second same. one same first second) vs (every (λ v. ⊤) (λ v. tt) vs)
    (one_seen history b vs (one_version history sound)))))
    (pair-both (λ row other. ShareName row other → ⊥) (λ row other. AreNamesakes row other → ⊥) (rows_of history b) (names_apart history b sound names) (whole_apart history b sound columns))
  where
    TwoKeys : Row → Row → Type 0
    TwoKeys row other = key_of row ≡ key_of other → ⊥

    vs : List Version
    vs = versions_of history

    OneSeen : Version → Version → Type 0
    OneSeen v w = key_of v.row ≡ key_of w.row → sees history b v ≡ true → sees history b w ≡ true → ⊥

-- of two such rows no scan by a key asks for both
asks_one : (scan : Purpose) → is_keyed scan ≡ true → (row other : Row) → AreTwo row other → selects scan row ≡ true → selects scan other ≡ true → ⊥
asks_one (scans.RelName name) keyed (rows.Class oid own kind fill) (rows.Class to called kind' fill') two asks also = two.1.0 (bytes_same own name asks ∙ sym (bytes_same called name also))
asks_one (scans.RelOid rel) keyed (rows.Class oid own kind fill) (rows.Class to called kind' fill') two asks also = two.0 (ap keys.Class (oid_eq oid rel asks ∙ sym (oid_eq to rel also)))
asks_one (scans.AttName rel name) keyed (rows.Att of num own col_type stat live) (rows.Att to other called col_type' stat' live') two asks also = by_number (num == other) refl
  where
    first : (same_oid of rel ≡ true) × (bytes_eq own name ≡ true)
    first = and_parts (same_oid of rel) (bytes_eq own name) asks

    second : (same_oid to rel ≡ true) × (bytes_eq called name ≡ true)
    second = and_parts (same_oid to rel) (bytes_eq called name) also

    rels : of ≡ to
    rels = oid_eq of rel first.0 ∙ sym (oid_eq to rel second.0)

    by_number : (t : Bool) → (num == other) ≡ t → ⊥
    by_number true is = two.0 (λ i. keys.Att (rels i) (eqb-true num other is i))
    by_number false is = two.1.1 (rels, bytes_same own name first.1 ∙ sym (bytes_same called name second.1), is)
asks_one scan keyed row other two asks also = cc

-- so it gives one row at most of those that it finds
at_most_one : (scan : Purpose) (found : List Row) → Pairwise (λ row other. ⊥) found → length (fold (put_in_order scan) [] found) ≤ 1
at_most_one scan [] pairs = omega arith
at_most_one scan (row ∷ []) pairs = omega arith
at_most_one scan (row ∷ other ∷ found) pairs = absurd pairs.0.0

-- where writes keep the columns of tables and give no name to two relations, a scan by a key gives one row at most
pub one_of_key : (history : List Entry) (b : ℕ) (scan : Purpose) → IsSound history → EachEntry WritesColumns history → EachEntry WritesNamesApart history → is_keyed scan ≡ true → length (answer_of history b scan) ≤ 1
one_of_key history b scan sound columns names keyed = at_most_one scan (filter (selects scan) (rows_of history b))
    (pair-filter (λ row other. ⊥) (selects scan) (rows_of history b) (pair-weaker (λ row. ⊤) AreTwo (λ row other. selects scan row ≡ true → selects scan other ≡ true → ⊥)
    (λ row other _ _ two asks also. asks_one scan keyed row other two asks also) (rows_of history b) (every (λ row. ⊤) (λ row. tt) (rows_of history b)) (seen_two history b sound columns names)))
