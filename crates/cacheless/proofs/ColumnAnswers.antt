-- What the scans of a relation's columns by their names give is given by its columns: but for what a weak mode may change it stays, where they stay.
use Rattle.std.proofs.Common.{Ordering, Less, Equal, Greater, ◌≡◌, ◌∙◌, ◌⊎◌, inl, inr, ℕ, Bool, true, false, List, [], ◌∷◌, ◌==◌, refl, sym, ap, subst, map, filter}
use Rattle.std.specs.Prelude.{⊤}
use Rattle.std.specs.Cmp.Lexicographic.{slice_cmp}
use Rattle.std.specs.List.{AllByRecursion}
use Rattle.std.specs.Ordering.{nat_cmp, is_lt, is_eq, ordering_reverse}
use Rattle.std.specs.Str.{bytes_eq}
use Rattle.std.proofs.lemmas.Bool.{eqb-true, and_parts}
use Rattle.std.proofs.lemmas.Cmp.{nat_list_cmp_total}
use Rattle.std.proofs.lemmas.Map.Text.{is_eq-slice_cmp}
use Rattle.base_types.specs.RowKeys.{key_of}
use Rattle.base_types.specs.Scans.{same_oid, selects, row_name, goes_before, scan_of, IsInOrder}
use Rattle.base_types.specs.declared.row.Row.TheVariants as rows
use Rattle.base_types.specs.declared.scan.Purpose.TheVariants as scans
use Rattle.base_types.proofs.ScanOrder.{scan_of-answers}
use Rattle.history_model.specs.Sound.{IsSound}
use Rattle.history_model.specs.Prefixes.{EachEntry}
use Rattle.history_model.specs.Versions.{versions_of, sees, rows_of, answer_of}
use Rattle.history_model.proofs.Asking.{bytes_same, oid_eq}
use Rattle.history_model.proofs.Every.{every-weaker, every, every-map, every-filter, every-both, SomeOf, some-weaker, some-map, some-unmap, some-filter, from_some}
use Rattle.history_model.proofs.FixedRows.{fixed}
use Rattle.history_model.proofs.ColumnsKept.{IsOfColumns, column_asks, column_fixes, AreAmong, columns_among, by_number}
use Rattle.history_model.proofs.GivenRows.{given_asked}
use Rattle.history_model.proofs.InOrder.{IsIn, Differ, every_given, some_given, pair_given, every_self}
use Rattle.history_model.proofs.Ordered.{one_version, one_seen}
use Rattle.history_model.proofs.Seen.{Pairwise, pair-weaker, pair-map, pair-filter}
use Rattle.history_model.proofs.WeakChanges.{column_apart}
use Rattle.cacheless.specs.Types.{Oid, Row, Purpose, Entry}
use Rattle.cacheless.specs.TableWrites.{AreNamesakes, WritesColumns}
use Rattle.cacheless.proofs.WholeColumns.{whole_apart}

name_fixed : (rel : Oid) (row : Row) → selects (scans.Attribute rel) row ≡ true → row_name (fixed row) ≡ row_name row
name_fixed rel (rows.Att own num called col_type stat live) asked = refl
name_fixed rel row asked = absurd (cc asked)

-- neither of two names comes before the other: they are one
names_tie : (name other : List ℕ) → is_lt (slice_cmp nat_cmp name other) ≡ false → is_lt (slice_cmp nat_cmp other name) ≡ false → name ≡ other
names_tie name other first second = bytes_same name other (sym (is_eq-slice_cmp name other) ∙ ap is_eq (tie (slice_cmp nat_cmp name other) first (sym (ap is_lt (nat_list_cmp_total.antisymm other name)) ∙ second)))
  where
    tie : (o : Ordering) → is_lt o ≡ false → is_lt (ordering_reverse o) ≡ false → o ≡ Equal
    tie Less one two = absurd (cc one)
    tie Equal one two = refl
    tie Greater one two = absurd (cc two)

-- so of two rows that such a scan asks for and gives in any order the names are one
rows_tie : (rel : Oid) (scan : Purpose) → IsOfColumns rel scan → (row other : Row) → selects scan row ≡ true → selects scan other ≡ true → goes_before scan row other ≡ false → goes_before scan other row ≡ false → row_name row ≡ row_name other
rows_tie rel scan (inl (name, is)) row other asks also first second = named row (ap (λ d. selects d row) (sym is) ∙ asks) ∙ sym (named other (ap (λ d. selects d other) (sym is) ∙ also))
  where
    named : (r : Row) → selects (scans.AttName rel name) r ≡ true → row_name r ≡ name
    named (rows.Att own num called col_type stat live) asked = bytes_same called name (and_parts (same_oid own rel) (bytes_eq called name) asked).1
    named r asked = absurd (cc asked)
rows_tie rel scan (inr is) row other asks also first second =
    names_tie (row_name row) (row_name other) (ap (λ d. goes_before d row other) (sym is) ∙ first) (ap (λ d. goes_before d other row) (sym is) ∙ second)

before_fixed : (rel : Oid) (scan : Purpose) → IsOfColumns rel scan → (row other : Row) → selects (scans.Attribute rel) row ≡ true → selects (scans.Attribute rel) other ≡ true → goes_before scan (fixed row) (fixed other) ≡ goes_before scan row other
before_fixed rel scan (inl (name, is)) row other asked also = ap (λ d. goes_before d (fixed row) (fixed other)) is ∙ ap (λ d. goes_before d row other) (sym is)
before_fixed rel scan (inr is) row other asked also =
    ap (λ d. goes_before d (fixed row) (fixed other)) is ∙ (λ i. is_lt (slice_cmp nat_cmp (name_fixed rel row asked i) (name_fixed rel other also i))) ∙ ap (λ d. goes_before d row other) (sym is)

-- two rows have different names
abbrev NamesDiffer : Row → Row → Type 0
NamesDiffer row other = row_name row ≡ row_name other → ⊥

-- two lists of the same rows in one order, where rows of different names are in order, are one
one_order : (before : Row → Row → Bool) (P : Row → Type 0) → ((row other : Row) → P row → P other → before row other ≡ false → before other row ≡ false → row_name row ≡ row_name other) → (us vs : List Row) → AllByRecursion P us → AllByRecursion P vs
    → IsInOrder before us → IsInOrder before vs → Pairwise NamesDiffer us → Pairwise NamesDiffer vs → AllByRecursion (λ u. IsIn u vs) us → AllByRecursion (λ v. IsIn v us) vs → us ≡ vs
one_order before P tied [] [] ps qs order order' apart apart' all also = refl
one_order before P tied [] (v ∷ vs) ps qs order order' apart apart' all also = absurd also.0
one_order before P tied (u ∷ us) [] ps qs order order' apart apart' all also = absurd all.0
one_order before P tied (u ∷ us) (v ∷ vs) ps qs order order' apart apart' all also =
    (λ i. first i ∷ one_order before P tied us vs ps.1 qs.1 order.1 order'.1 apart.1 apart'.1 (rest us vs u v (sym first) apart.0 all.1) (rest vs us v u first apart'.0 also.1) i)
  where
    holds_at : (Q : Row → Type 0) (row : Row) (others : List Row) → AllByRecursion Q others → IsIn row others → Q row
    holds_at Q row others every' is = from_some (λ other. row ≡ other) (Q row) others (every-weaker Q (λ other. row ≡ other → Q row) (λ other holds same. subst Q (sym same) holds) others every') is

    of : (u ≡ v) ⊎ IsIn u vs → (v ≡ u) ⊎ IsIn v us → u ≡ v
    of (inl same) other = same
    of (inr later) (inl same) = sym same
    of (inr later) (inr also') =
        absurd (holds_at (NamesDiffer v) u vs apart'.0 later (sym (tied u v ps.0 qs.0 (holds_at (λ row. before row v ≡ false) u vs order'.0 later) (holds_at (λ row. before row u ≡ false) v us order.0 also'))))

    first : u ≡ v
    first = of all.0 also.0

    rest : (xs ys : List Row) (x y : Row) → y ≡ x → AllByRecursion (NamesDiffer x) xs → AllByRecursion (λ w. IsIn w (y ∷ ys)) xs → AllByRecursion (λ w. IsIn w ys) xs
    rest [] ys x y same differ in_ = tt
    rest (w ∷ xs) ys x y same differ in_ = (tail in_.0, rest xs ys x y same differ.1 in_.1)
      where
        tail : (w ≡ y) ⊎ IsIn w ys → IsIn w ys
        tail (inl is) = absurd (differ.0 (ap row_name (sym same ∙ sym is)))
        tail (inr later) = later

-- of a relation's columns that a backend sees no two have one number
numbers_differ : (history : List Entry) (b : ℕ) (rel : Oid) → IsSound history → Pairwise (λ row other. selects (scans.Attribute rel) row ≡ true → selects (scans.Attribute rel) other ≡ true → Differ row other) (rows_of history b)
numbers_differ history b rel sound = pair-map Numbered (λ v. v.row) (filter (sees history b) (versions_of history)) (pair-filter (λ v w. Numbered v.row w.row) (sees history b) (versions_of history)
    (pair-weaker (λ v. ⊤) (λ v w. key_of v.row ≡ key_of w.row → sees history b v ≡ true → sees history b w ≡ true → ⊥) (λ v w. sees history b v ≡ true → sees history b w ≡ true → Numbered v.row w.row)
    (λ v w _ _ one seen also asks asked same. one ((column_apart rel).keyed v.row w.row asks asked same) seen also) (versions_of history) (every (λ v. ⊤) (λ v. tt) (versions_of history)) (one_seen history b (versions_of history) (one_version history sound))))
  where
    Numbered : Row → Row → Type 0
    Numbered row other = selects (scans.Attribute rel) row ≡ true → selects (scans.Attribute rel) other ≡ true → Differ row other

-- two columns of a relation with different numbers that aren't namesakes have different names
names_of_columns : (rel : Oid) (row other : Row) → selects (scans.Attribute rel) row ≡ true → selects (scans.Attribute rel) other ≡ true → Differ row other → (AreNamesakes row other → ⊥) → NamesDiffer row other
names_of_columns rel (rows.Att own num name col_type stat live) (rows.Att of other called col_type' stat' live') asks also differ apart same = by_number (num == other) refl
  where
    by_number : (t : Bool) → (num == other) ≡ t → ⊥
    by_number true is = differ (eqb-true num other is)
    by_number false is = apart (oid_eq own rel asks ∙ sym (oid_eq of rel also), same, is)
names_of_columns rel (rows.Att own num name col_type stat live) other asks also differ apart same = absurd (cc also)
names_of_columns rel row other asks also differ apart same = absurd (cc asks)

-- two things that hold of each two elements
pub pair-both : {X : Type 0} (R S : X → X → Type 0) (xs : List X) → Pairwise R xs → Pairwise S xs → Pairwise (λ x y. R x y × S x y) xs
pair-both R S [] one two = tt
pair-both R S (x ∷ xs) one two = (joined xs one.0 two.0, pair-both R S xs one.1 two.1)
  where
    joined : (ys : List _) → AllByRecursion (R x) ys → AllByRecursion (S x) ys → AllByRecursion (λ y. R x y × S x y) ys
    joined [] r s = tt
    joined (y ∷ ys) r s = ((r.0, s.0), joined ys r.1 s.1)

given_named : (history : List Entry) (b : ℕ) (rel : Oid) (scan : Purpose) → IsOfColumns rel scan → IsSound history → EachEntry WritesColumns history → Pairwise NamesDiffer (answer_of history b scan)
given_named history b rel scan of sound writes = pair_given NamesDiffer (λ row other differ same. differ (sym same)) scan (filter (selects scan) (rows_of history b))
    (pair-filter NamesDiffer (selects scan) (rows_of history b) (pair-weaker (λ row. ⊤) (λ row other. (selects (scans.Attribute rel) row ≡ true → selects (scans.Attribute rel) other ≡ true → Differ row other) × (AreNamesakes row other → ⊥))
    (λ row other. selects scan row ≡ true → selects scan other ≡ true → NamesDiffer row other)
    (λ row other _ _ h asks also. let first = column_asks rel scan of row asks in let second = column_asks rel scan of other also in names_of_columns rel row other first second (h.0 first second) h.1) (rows_of history b) (every (λ row. ⊤) (λ row. tt) (rows_of history b))
    (pair-both (λ row other. selects (scans.Attribute rel) row ≡ true → selects (scans.Attribute rel) other ≡ true → Differ row other) (λ row other. AreNamesakes row other → ⊥) (rows_of history b) (numbers_differ history b rel sound) (whole_apart history b sound writes))))

-- in the order of the columns' names
in_order : (history : List Entry) (b : ℕ) (rel : Oid) (scan : Purpose) → IsOfColumns rel scan → IsInOrder (goes_before scan) (map fixed (answer_of history b scan))
in_order history b rel scan of = mapped (answer_of history b scan) (every-weaker (λ row. selects scan row ≡ true) (λ row. selects (scans.Attribute rel) row ≡ true) (λ row asked. column_asks rel scan of row asked) (answer_of history b scan) (given_asked history b scan))
    (scan_of-answers scan (rows_of history b)).order
  where
    IsAsked : Row → Type 0
    IsAsked row = selects (scans.Attribute rel) row ≡ true

    mapped : (given : List Row) → AllByRecursion IsAsked given → IsInOrder (goes_before scan) given → IsInOrder (goes_before scan) (map fixed given)
    mapped [] asked order = tt
    mapped (row ∷ given) asked order = (
      every-map (λ other. goes_before scan other (fixed row) ≡ false) fixed given (every-weaker (λ other. IsAsked other × (goes_before scan other row ≡ false)) (λ other. goes_before scan (fixed other) (fixed row) ≡ false)
          (λ other h. before_fixed rel scan of other row h.0 asked.0 ∙ h.1) given (every-both IsAsked (λ other. goes_before scan other row ≡ false) given asked.1 order.0)),
      mapped given asked.1 order.1,
    )

-- two histories' answers of such a scan that have the same columns are one, but for what a weak mode may change
among_same : (history later : List Entry) (b : ℕ) (rel : Oid) (scan : Purpose) → IsOfColumns rel scan → IsSound history → EachEntry WritesColumns history → IsSound later → EachEntry WritesColumns later
    → AreAmong (answer_of later b scan) (answer_of history b scan) → AreAmong (answer_of history b scan) (answer_of later b scan) → map fixed (answer_of later b scan) ≡ map fixed (answer_of history b scan)
among_same history later b rel scan of sound writes sound' writes' among also =
    one_order (goes_before scan) (λ row. selects scan row ≡ true) (rows_tie rel scan of) (map fixed (answer_of later b scan)) (map fixed (answer_of history b scan)) (asked later) (asked history) (in_order later b rel scan of) (in_order history b rel scan of)
    (named later sound' writes') (named history sound writes) (in_other (answer_of later b scan) (answer_of history b scan) among) (in_other (answer_of history b scan) (answer_of later b scan) also)
  where
    asked : (h : List Entry) → AllByRecursion (λ row. selects scan row ≡ true) (map fixed (answer_of h b scan))
    asked h = every-map (λ row. selects scan row ≡ true) fixed (answer_of h b scan) (every-weaker (λ row. selects scan row ≡ true) (λ row. selects scan (fixed row) ≡ true) (λ row is. column_fixes rel scan of row ∙ is) (answer_of h b scan) (given_asked h b scan))

    named : (h : List Entry) → IsSound h → EachEntry WritesColumns h → Pairwise NamesDiffer (map fixed (answer_of h b scan))
    named h well keeps = pair-map NamesDiffer fixed (answer_of h b scan) (pair-weaker (λ row. selects scan row ≡ true) NamesDiffer (λ row other. NamesDiffer (fixed row) (fixed other))
        (λ row other asks also differ same. differ (sym (name_fixed rel row (column_asks rel scan of row asks)) ∙ same ∙ name_fixed rel other (column_asks rel scan of other also))) (answer_of h b scan) (given_asked h b scan) (given_named h b rel scan of well keeps))

    in_other : (given others : List Row) → AreAmong given others → AllByRecursion (λ row. IsIn row (map fixed others)) (map fixed given)
    in_other given others all = every-map (λ row. IsIn row (map fixed others)) fixed given (every-weaker (λ row. SomeOf (λ other. fixed row ≡ fixed other) others) (λ row. IsIn (fixed row) (map fixed others)) (λ row is. some-map (λ other. fixed row ≡ other) fixed others is) given all)

-- where the columns of a relation stay, but for what a weak mode may change, so does what a scan of them by their names gives
pub columns_stay : (history later : List Entry) (b : ℕ) (rel : Oid) (scan : Purpose) → IsOfColumns rel scan → IsSound history → EachEntry WritesColumns history → IsSound later → EachEntry WritesColumns later
    → map fixed (answer_of later b (scans.Attribute rel)) ≡ map fixed (answer_of history b (scans.Attribute rel)) → map fixed (answer_of later b scan) ≡ map fixed (answer_of history b scan)
columns_stay history later b rel scan of sound writes sound' writes' same =
    among_same history later b rel scan of sound writes sound' writes' (columns_among history later b rel scan of same) (columns_among later history b rel scan of (sym same))

-- and where they are the same in order of number, they are so in the scan's own
pub numbered_same : (history later : List Entry) (b : ℕ) (rel : Oid) (scan : Purpose) → IsOfColumns rel scan → IsSound history → EachEntry WritesColumns history → IsSound later → EachEntry WritesColumns later
    → by_number rel (answer_of later b scan) ≡ by_number rel (answer_of history b scan) → map fixed (answer_of later b scan) ≡ map fixed (answer_of history b scan)
numbered_same history later b rel scan of sound writes sound' writes' same =
    among_same history later b rel scan of sound writes sound' writes' (among later (answer_of history b scan) same) (among history (answer_of later b scan) (sym same))
  where
    d : Purpose
    d = scans.Attribute rel

    among : (h : List Entry) (others : List Row) → by_number rel (answer_of h b scan) ≡ by_number rel others → AreAmong (answer_of h b scan) others
    among h others one = every-weaker (λ row. IsIn row (answer_of h b scan) × (selects scan row ≡ true)) (λ row. SomeOf (λ other. fixed row ≡ fixed other) others) found (answer_of h b scan)
        (every-both (λ row. IsIn row (answer_of h b scan)) (λ row. selects scan row ≡ true) (answer_of h b scan) (every_self (answer_of h b scan)) (given_asked h b scan))
      where
        found : (row : Row) → IsIn row (answer_of h b scan) × (selects scan row ≡ true) → SomeOf (λ other. fixed row ≡ fixed other) others
        found row is = from_some Alike (SomeOf Alike others) (scan_of d others) given_back
            (some-unmap (λ x. fixed row ≡ x) fixed (scan_of d others) (subst (SomeOf (λ x. fixed row ≡ x)) one (some-map (λ x. fixed row ≡ x) fixed (scan_of d (answer_of h b scan)) there)))
          where
            Alike : Row → Type 0
            Alike other = fixed row ≡ fixed other

            there : SomeOf Alike (scan_of d (answer_of h b scan))
            there = some_given Alike d [] (filter (selects d) (answer_of h b scan))
                (inr (some-filter Alike (selects d) (answer_of h b scan) (some-weaker (λ other. row ≡ other) (λ other. (selects d other ≡ true) × Alike other) (λ other same'. (subst (λ r. selects d r ≡ true) same' (column_asks rel scan of row is.1), ap fixed same')) (answer_of h b scan) is.0)))

            given_back : AllByRecursion (λ other. Alike other → SomeOf Alike others) (scan_of d others)
            given_back = every-weaker (λ other. IsIn other others) (λ other. Alike other → SomeOf Alike others) (λ other there' alike. some-weaker (λ r. other ≡ r) Alike (λ r same'. subst Alike same' alike) others there') (scan_of d others)
                (every_given (λ other. IsIn other others) d [] (filter (selects d) others) tt (every-filter (λ other. IsIn other others) (selects d) others (every-weaker (λ other. IsIn other others) (λ other. selects d other ≡ true → IsIn other others) (λ other is asks. is) others (every_self others))))
