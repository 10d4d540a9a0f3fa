-- Rows that a backend sees have different keys, and so have those that a scan gives.
use Rattle.std.proofs.Common.{◌≡◌, ◌∙◌, ℕ, Bool, true, false, List, [], ◌∷◌, ◌++◌, not, refl, sym, ap, map, filter}
use Rattle.std.specs.Prelude.{⊤}
use Rattle.std.specs.List.{AllByRecursion, list_any}
use Rattle.std.proofs.lemmas.Bool.{and_from, and_parts, or_from, not-true}
use Rattle.std.proofs.lemmas.List.Folds.{list_any-append}
use Rattle.base_types.specs.declared.row.Row.{Row}
use Rattle.base_types.specs.declared.row_key.RowKey.{RowKey}
use Rattle.base_types.specs.declared.scan.Purpose.{Purpose}
use Rattle.base_types.specs.RowKeys.{key_of, same_key, are_distinct_keys}
use Rattle.base_types.specs.Scans.{selects}
use Rattle.event_kinds.specs.declared.entry.Entry.{Entry}
use Rattle.history_model.specs.Versions.{versions_of, sees, rows_of, answer_of}
use Rattle.history_model.specs.Sound.{IsSound}
use Rattle.history_model.proofs.Every.{every}
use Rattle.history_model.proofs.Guards.{key_eq}
use Rattle.history_model.proofs.Seen.{Pairwise, pair-weaker, pair-map, pair-filter}
use Rattle.history_model.proofs.InOrder.{pair_given}
use Rattle.history_model.proofs.Ordered.{one_version, one_seen}

-- two rows have different keys
abbrev pub HaveTwoKeys : Row → Row → Type 0
HaveTwoKeys row other = key_of row ≡ key_of other → ⊥

-- the rows that a backend sees
seen_keys : (history : List Entry) (b : ℕ) → IsSound history → Pairwise HaveTwoKeys (rows_of history b)
seen_keys history b sound =
    pair-map HaveTwoKeys (λ v. v.row) (filter (sees history b) (versions_of history)) (pair-filter (λ v w. HaveTwoKeys v.row w.row) (sees history b) (versions_of history)
    (pair-weaker (λ v. ⊤) (λ v w. key_of v.row ≡ key_of w.row → sees history b v ≡ true → sees history b w ≡ true → ⊥) (λ v w. sees history b v ≡ true → sees history b w ≡ true → HaveTwoKeys v.row w.row)
    (λ v w _ _ one seen also same. one same seen also) (versions_of history) (every (λ v. ⊤) (λ v. tt) (versions_of history)) (one_seen history b (versions_of history) (one_version history sound))))

-- and those that a scan gives
pub given_keys : (history : List Entry) (b : ℕ) (d : Purpose) → IsSound history → Pairwise HaveTwoKeys (answer_of history b d)
given_keys history b d sound = pair_given HaveTwoKeys (λ row other two same. two (sym same)) d (filter (selects d) (rows_of history b))
    (pair-filter HaveTwoKeys (selects d) (rows_of history b) (pair-weaker (λ row. ⊤) HaveTwoKeys (λ row other. selects d row ≡ true → selects d other ≡ true → HaveTwoKeys row other) (λ row other _ _ two is also. two) (rows_of history b) (every (λ row. ⊤) (λ row. tt) (rows_of history b)) (seen_keys history b sound)))

not_same : (a b : RowKey) (t : Bool) → same_key a b ≡ t → (a ≡ b → ⊥) → same_key a b ≡ false
not_same a b true is two = absurd (two (key_eq a b is))
not_same a b false is two = is

none_of_them : (row : Row) (given : List Row) → AllByRecursion (HaveTwoKeys row) given → list_any (same_key (key_of row)) (map key_of given) ≡ false
none_of_them row [] all = refl
none_of_them row (other ∷ given) all = or_from (same_key (key_of row) (key_of other)) (list_any (same_key (key_of row)) (map key_of given)) (not_same (key_of row) (key_of other) (same_key (key_of row) (key_of other)) refl all.0) (none_of_them row given all.1)

-- no key of such rows comes twice
pub keys_distinct : (given : List Row) → Pairwise HaveTwoKeys given → are_distinct_keys (map key_of given) ≡ true
keys_distinct [] pairs = refl
keys_distinct (row ∷ given) pairs = and_from (not (list_any (same_key (key_of row)) (map key_of given))) (are_distinct_keys (map key_of given)) (ap not (none_of_them row given pairs.0)) (keys_distinct given pairs.1)

-- nor of two lists that have none in common
pub distinct_both : (one two : List RowKey) → are_distinct_keys one ≡ true → are_distinct_keys two ≡ true → AllByRecursion (λ key. list_any (same_key key) two ≡ false) one → are_distinct_keys (one ++ two) ≡ true
distinct_both [] two first then none = then
distinct_both (key ∷ one) two first then none =
    let parts = and_parts (not (list_any (same_key key) one)) (are_distinct_keys one) first in
    and_from (not (list_any (same_key key) (one ++ two))) (are_distinct_keys (one ++ two))
    (ap not (list_any-append (same_key key) one two ∙ or_from (list_any (same_key key) one) (list_any (same_key key) two) (not-true (list_any (same_key key) one) parts.0) none.0)) (distinct_both one two parts.1 then none.1)
