-- A name is free in the segment where no clash is found in the rows that are kept.
use Rattle.std.proofs.Common.{◌≡◌, ◌∙◌, ◌||◌, ◌&&◌, ◌==◌, ℕ, Bool, true, false, Option, Some, None, List, [], ◌∷◌, ◌++◌, map, filter, fold, cond, take, drop, is_none, refl, sym, ap, subst}
use Rattle.std.specs.List.{AllByRecursion, list_any, position_or_len}
use Rattle.std.specs.Option.{option_map}
use Rattle.std.proofs.lemmas.Bool.{and_from, and_parts, eq-eqb}
use Rattle.std.proofs.lemmas.List.{take-append-drop}
use Rattle.std.proofs.lemmas.List.Folds.{list_any-append}
use Rattle.base_types.specs.Scans.{selects, put_in_order, goes_before}
use Rattle.base_types.specs.declared.row.Row.TheVariants as rows
use Rattle.row_visibility.specs.declared.clash.Clash.TheVariants as clashes
use Rattle.row_visibility.specs.Seen.{seen_by}
use Rattle.catalog_rows.specs.Store as stores
use Rattle.catalog_rows.specs.Store.{Store, clash_of, clash_by, row_clash, relation_of, claimant_of}
use Rattle.history_model.specs.Segment.{Segment}
use Rattle.history_model.specs.Rows.{sees_at, answer_at}
use Rattle.history_model.specs.InUse.{is_row_of, users_at, named_at}
use Rattle.history_model.specs.Changing.{is_empty, free_at}
use Rattle.history_model.proofs.Every.{any-weaker, any-filter}
use Rattle.segment_rows.specs.Types.{Oid, Xid, Row, Purpose, RelName, Clash, Version}
use Rattle.segment_rows.proofs.Mirrors.{Mirrors, version_counts, found_none, found_some, selects_same, users_none, user_some}

-- the relation of a row with a name
relation_some : (name : List ℕ) (row : Row) → stores.is_named name row ≡ true → relation_of row ≡ None → ⊥
relation_some name (rows.Class oid own kind fill) is none = absurd (cc)
relation_some name (rows.Att rel num own col_type stat live) is none = absurd (cc)
relation_some name (rows.Def oid rel num word) is none = absurd (cc)
relation_some name (rows.Ind index table state nums) is none = absurd (cc)
relation_some name (rows.Con oid rel own valid what) is none = absurd (cc)
relation_some name (rows.Trg oid rel own on) is none = absurd (cc)

same_oids : (a b : Oid) → a ≡ b → (a.0 == b.0) ≡ true
same_oids a b is = eq-eqb a.0 b.0 (ap (λ (o : Oid). o.0) is)

is_its_row : (rel : Oid) (row : Row) → relation_of row ≡ Some rel → is_row_of rel row ≡ true
is_its_row rel (rows.Class oid own kind fill) some = let is : oid ≡ rel = cc in same_oids oid rel is
is_its_row rel (rows.Att of num own col_type stat live) some = absurd (cc)
is_its_row rel (rows.Def oid of num word) some = absurd (cc)
is_its_row rel (rows.Ind index table state nums) some = absurd (cc)
is_its_row rel (rows.Con oid of own valid what) some = absurd (cc)
is_its_row rel (rows.Trg oid of own on) some = absurd (cc)

-- no version with the name counts
none_selected : (seg : Segment) (b : ℕ) (store : Store) (own : Option Xid) → Mirrors seg b store own → (name : List ℕ) (versions : List Version)
    → AllByRecursion (λ v. (stores.is_named name v.row && seen_by (stores.counts store.committed own) v) ≡ false) versions → filter (selects (RelName name)) (map (λ v. v.row) (filter (sees_at seg b) versions)) ≡ []
none_selected seg b store own m name [] none = refl
none_selected seg b store own m name (v ∷ versions) none = by_sight (sees_at seg b v) refl (none_selected seg b store own m name versions none.1)
  where
    first_false : (x y : Bool) → (x && y) ≡ false → y ≡ true → x ≡ false
    first_false true y both is = sym is ∙ both
    first_false false y both is = refl

    by_sight : (t : Bool) → sees_at seg b v ≡ t → filter (selects (RelName name)) (map (λ x. x.row) (filter (sees_at seg b) versions)) ≡ []
        → filter (selects (RelName name)) (map (λ x. x.row) (cond t (v ∷ filter (sees_at seg b) versions) (filter (sees_at seg b) versions))) ≡ []
    by_sight true is rest =
        let counted : seen_by (stores.counts store.committed own) v ≡ true = version_counts seg b store own m v ∙ is in
        let other : stores.is_named name v.row ≡ false = first_false _ _ none.0 counted in
        ap (λ t. cond t (v.row ∷ filter (selects (RelName name)) (map (λ x. x.row) (filter (sees_at seg b) versions))) (filter (selects (RelName name)) (map (λ x. x.row) (filter (sees_at seg b) versions)))) (sym (selects_same name v.row) ∙ other) ∙ rest
    by_sight false is rest = rest

standing_none : (store : Store) (own : Option Xid) (name : List ℕ) (standing : Option Version) → stores.standing_version store own name ≡ standing → row_clash standing ≡ None → standing ≡ None
standing_none store own name None is none = refl
standing_none store own name (Some v) is none = absurd (by_relation (relation_of v.row) refl none)
  where
    named : stores.is_named name v.row ≡ true
    named = (and_parts _ _ (found_some (λ x. stores.is_named name x.row && seen_by (stores.counts store.committed own) x) store.versions v is).0).0

    by_relation : (o : Option Oid) → relation_of v.row ≡ o → option_map clashes.Row o ≡ None → ⊥
    by_relation None at no_clash = relation_some name v.row named at
    by_relation (Some rel) at no_clash = absurd (cc)

clash_none : (committed : List Bool) (own : Option Xid) (claimed standing : Option Version) → clash_by committed own claimed standing ≡ None → (claimed ≡ None) × (row_clash standing ≡ None)
clash_none committed own None standing none = (refl, none)
clash_none committed own (Some v) standing none = absurd (cc)

-- a name without a clash is free
pub free_name : (seg : Segment) (b : ℕ) (store : Store) (own : Option Xid) → Mirrors seg b store own → (name : List ℕ) → clash_of store own name ≡ None → free_at seg b name ≡ true
free_name seg b store own m name none = λ i. is_empty (users_none seg b store own m name parts.0 i) && is_empty (fold (put_in_order (RelName name)) [] (selected i))
  where
    parts : (stores.claimed_version store own name ≡ None) × (row_clash (stores.standing_version store own name) ≡ None)
    parts = clash_none store.committed own (stores.claimed_version store own name) (stores.standing_version store own name) none

    selected : filter (selects (RelName name)) (map (λ v. v.row) (filter (sees_at seg b) (seg.versions))) ≡ []
    selected = none_selected seg b store own m name (seg.versions) (subst (AllByRecursion (λ v. (stores.is_named name v.row && seen_by (stores.counts store.committed own) v) ≡ false)) m.versions
        (found_none _ store.versions (standing_none store own name (stores.standing_version store own name) refl parts.1)))

-- a scan gives what it selects
any_put : (p : Row → Bool) (purpose : Purpose) (given : List Row) (row : Row) → (p row || list_any p given) ≡ true → list_any p (put_in_order purpose given row) ≡ true
any_put p purpose given row is = of (position_or_len (goes_before purpose row) given)
  where
    turn : (x y z : Bool) → (x || (y || z)) ≡ true → (y || (x || z)) ≡ true
    turn true true z h = refl
    turn true false z h = refl
    turn false true z h = refl
    turn false false z h = h

    of : (i : ℕ) → list_any p (take i given ++ row ∷ drop i given) ≡ true
    of i = list_any-append p (take i given) (row ∷ drop i given) ∙ turn (p row) (list_any p (take i given)) (list_any p (drop i given))
        (ap (λ t. p row || t) (sym (list_any-append p (take i given) (drop i given)) ∙ ap (list_any p) (take-append-drop i given)) ∙ is)

any_fold : (p : Row → Bool) (purpose : Purpose) (given xs : List Row) → (list_any p xs || list_any p given) ≡ true → list_any p (fold (put_in_order purpose) given xs) ≡ true
any_fold p purpose given [] is = is
any_fold p purpose given (row ∷ xs) is = any_fold p purpose (put_in_order purpose given row) xs (of (list_any p xs) refl)
  where
    turn : (x z : Bool) → ((x || false) || z) ≡ true → (x || z) ≡ true
    turn true z h = refl
    turn false z h = h

    of : (t : Bool) → list_any p xs ≡ t → (t || list_any p (put_in_order purpose given row)) ≡ true
    of true some = refl
    of false none = any_put p purpose given row (turn (p row) (list_any p given) (ap (λ t. (p row || t) || list_any p given) (sym none) ∙ is))

any-map : (p : Row → Bool) (versions : List Version) → list_any (λ v. p v.row) versions ≡ true → list_any p (map (λ v. v.row) versions) ≡ true
any-map p [] some = some
any-map p (v ∷ versions) some = by_first (p v.row) (any-map p versions) some
  where
    by_first : (t : Bool) → (list_any (λ x. p x.row) versions ≡ true → list_any p (map (λ x. x.row) versions) ≡ true) → (t || list_any (λ x. p x.row) versions) ≡ true → (t || list_any p (map (λ x. x.row) versions)) ≡ true
    by_first true rest h = refl
    by_first false rest h = rest h

-- a version that counts and has the name is given
pub named_some : (seg : Segment) (b : ℕ) (store : Store) (own : Option Xid) → Mirrors seg b store own → (name : List ℕ) (v : Version) (rel : Oid) → stores.standing_version store own name ≡ Some v → relation_of v.row ≡ Some rel → named_at seg b name rel ≡ true
named_some seg b store own m name v rel some at =
    any_fold (is_row_of rel) (RelName name) [] (filter (selects (RelName name)) (map (λ x. x.row) (filter (sees_at seg b) (seg.versions))))
    (ap (λ t. t || false) (any-weaker (λ row. selects (RelName name) row && is_row_of rel row) (is_row_of rel) (λ row is. (and_parts _ _ is).1) (filter (selects (RelName name)) (map (λ x. x.row) (filter (sees_at seg b) (seg.versions))))
    (any-filter (λ row. selects (RelName name) row && is_row_of rel row) (selects (RelName name)) (λ row is. (and_parts _ _ is).0) (map (λ x. x.row) (filter (sees_at seg b) (seg.versions)))
    (any-map (λ row. selects (RelName name) row && is_row_of rel row) (filter (sees_at seg b) (seg.versions))
    (any-weaker (λ x. sees_at seg b x && (selects (RelName name) x.row && is_row_of rel x.row)) (λ x. selects (RelName name) x.row && is_row_of rel x.row) (λ x is. (and_parts _ _ is).1) (filter (sees_at seg b) (seg.versions))
    (any-filter (λ x. sees_at seg b x && (selects (RelName name) x.row && is_row_of rel x.row)) (sees_at seg b) (λ x is. (and_parts _ _ is).0) (seg.versions)
    (subst (λ vs. list_any (λ x. sees_at seg b x && (selects (RelName name) x.row && is_row_of rel x.row)) vs ≡ true) m.versions
    (found.1 (λ x. sees_at seg b x && (selects (RelName name) x.row && is_row_of rel x.row))
    (and_from _ _ (sym (version_counts seg b store own m v) ∙ parts.1) (and_from _ _ (sym (selects_same name v.row) ∙ parts.0) (is_its_row rel v.row at)))))))))))
  where
    found : ((stores.is_named name v.row && seen_by (stores.counts store.committed own) v) ≡ true) × ((q : Version → Bool) → q v ≡ true → list_any q store.versions ≡ true)
    found = found_some (λ x. stores.is_named name x.row && seen_by (stores.counts store.committed own) x) store.versions v some

    parts : (stores.is_named name v.row ≡ true) × (seen_by (stores.counts store.committed own) v ≡ true)
    parts = and_parts _ _ found.0

-- what has an element that passes isn't empty
not_empty : {X : Type 0} (p : X → Bool) (xs : List X) → list_any p xs ≡ true → is_empty xs ≡ false
not_empty p [] some = absurd (cc)
not_empty p (x ∷ xs) some = refl

no_first : (x y : Bool) → x ≡ false → (x && y) ≡ false
no_first x y is = ap (λ t. t && y) is

no_second : (x y : Bool) → y ≡ false → (x && y) ≡ false
no_second true y is = is
no_second false y is = refl

-- a name is free just where there is no clash
pub free_is : (seg : Segment) (b : ℕ) (store : Store) (own : Option Xid) → Mirrors seg b store own → (name : List ℕ) → is_none (clash_of store own name) ≡ free_at seg b name
free_is seg b store own m name = by_clash (clash_of store own name) refl
  where
    taken : (clash : Clash) → clash_of store own name ≡ Some clash → free_at seg b name ≡ false
    taken clash is = by_claim (stores.claimed_version store own name) refl is
      where
        by_row : (standing : Option Version) → stores.standing_version store own name ≡ standing → row_clash standing ≡ Some clash → free_at seg b name ≡ false
        by_row None at some = absurd (cc)
        by_row (Some v) at some = by_relation (relation_of v.row) refl some
          where
            by_relation : (o : Option Oid) → relation_of v.row ≡ o → option_map clashes.Row o ≡ Some clash → free_at seg b name ≡ false
            by_relation None of some' = absurd (cc)
            by_relation (Some rel) of some' = no_second (is_empty (users_at seg b name)) (is_empty (answer_at seg b (RelName name))) (not_empty (is_row_of rel) (answer_at seg b (RelName name)) (named_some seg b store own m name v rel at of))

        by_claim : (claimed : Option Version) → stores.claimed_version store own name ≡ claimed → clash_by store.committed own claimed (stores.standing_version store own name) ≡ Some clash → free_at seg b name ≡ false
        by_claim None none some = by_row (stores.standing_version store own name) refl some
        by_claim (Some v) at some = no_first (is_empty (users_at seg b name)) (is_empty (answer_at seg b (RelName name))) (not_empty (λ x. x == (claimant_of store.committed own v).0) (users_at seg b name) (user_some seg b store own m name v at))

    by_clash : (o : Option Clash) → clash_of store own name ≡ o → is_none (clash_of store own name) ≡ free_at seg b name
    by_clash None none = ap is_none none ∙ sym (free_name seg b store own m name none)
    by_clash (Some clash) some = ap is_none some ∙ sym (taken clash some)
