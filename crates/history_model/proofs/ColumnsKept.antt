-- What the scans of a relation's columns by their names give is given by its columns: in order of number, and but for what a weak mode may change, it stays where they stay.
use Rattle.std.proofs.Common.{◌≡◌, ◌∙◌, ◌⊎◌, inl, inr, ℕ, Bool, true, List, [], ◌∷◌, ◌++◌, refl, sym, ap, subst, map, filter}
use Rattle.std.specs.Prelude.{⊤}
use Rattle.std.specs.List.{AllByRecursion}
use Rattle.std.specs.Str.{bytes_eq}
use Rattle.std.proofs.Math.Bool.{or-false}
use Rattle.std.proofs.lemmas.Bool.{and_parts}
use Rattle.base_types.specs.declared.ids.Oid.{Oid}
use Rattle.base_types.specs.declared.mode.Mode.TheVariants.{AccessExclusive}
use Rattle.base_types.specs.declared.row.Row.{Row}
use Rattle.base_types.specs.declared.row.Row.TheVariants as rows
use Rattle.base_types.specs.declared.scan.Purpose.{Purpose}
use Rattle.base_types.specs.declared.scan.Purpose.TheVariants as scans
use Rattle.base_types.specs.Scans.{same_oid, selects, scan_of}
use Rattle.event_kinds.specs.declared.entry.Entry.{Entry}
use Rattle.event_kinds.specs.declared.entry.Event.TheVariants as events
use Rattle.lock_modes.specs.Grants.{holds}
use Rattle.history_model.specs.Versions.{rows_of, answer_of}
use Rattle.history_model.specs.Covered.{counted_for}
use Rattle.history_model.specs.Held.{held_of}
use Rattle.history_model.specs.Sound.{MayComeNext, IsSound}
use Rattle.history_model.proofs.Prefixes.{EachEntry-more}
use Rattle.history_model.proofs.Every.{every-weaker, every, every-filter, SomeOf, some-weaker, some-map, some-unmap, some-filter, from_some}
use Rattle.history_model.proofs.Touched.{entry_of}
use Rattle.history_model.proofs.FixedRows.{fixed}
use Rattle.history_model.proofs.Seen.{Pairwise, pair-weaker, pair-filter}
use Rattle.history_model.proofs.InOrder.{IsIn, Differ, scan_same}
use Rattle.history_model.proofs.WeakChanges.{plain_goes, column_apart, number_fixed, fixed_visible}
use Rattle.history_model.proofs.GivenRows.{given_seen, row_given}
use Rattle.history_model.proofs.DistinctKeys.{HaveTwoKeys, given_keys}
use Rattle.history_model.proofs.Observed.{LeavesRead}

-- the scan of a relation's column by its name
abbrev pub IsOfColumn : Oid → Purpose → Type 0
IsOfColumn rel scan = (name : List ℕ) × (scan ≡ scans.AttName rel name)

-- the same, or the scan of all its columns by their names
abbrev pub IsOfColumns : Oid → Purpose → Type 0
IsOfColumns rel scan = IsOfColumn rel scan ⊎ (scan ≡ scans.AttList rel)

-- what such a scan asks for
pub column_asks : (rel : Oid) (scan : Purpose) → IsOfColumns rel scan → (row : Row) → selects scan row ≡ true → selects (scans.Attribute rel) row ≡ true
column_asks rel scan (inl (name, is)) row asks = of row (ap (λ d. selects d row) (sym is) ∙ asks)
  where
    of : (r : Row) → selects (scans.AttName rel name) r ≡ true → selects (scans.Attribute rel) r ≡ true
    of (rows.Att own num called col_type stat live) asked = (and_parts (same_oid own rel) (bytes_eq called name) asked).0
    of r asked = absurd (cc asked)
column_asks rel scan (inr is) row asks = of row (ap (λ d. selects d row) (sym is) ∙ asks)
  where
    of : (r : Row) → selects (scans.AttList rel) r ≡ true → selects (scans.Attribute rel) r ≡ true
    of (rows.Att own num called col_type stat live) asked = asked
    of r asked = absurd (cc asked)

-- no weak mode may change it
pub column_fixes : (rel : Oid) (scan : Purpose) → IsOfColumns rel scan → (row : Row) → selects scan (fixed row) ≡ selects scan row
column_fixes rel scan (inl (name, is)) row = ap (λ d. selects d (fixed row)) is ∙ of row ∙ ap (λ d. selects d row) (sym is)
  where
    of : (r : Row) → selects (scans.AttName rel name) (fixed r) ≡ selects (scans.AttName rel name) r
    of (rows.Class own called kind fill) = refl
    of (rows.Att own num called col_type stat live) = refl
    of r = refl
column_fixes rel scan (inr is) row = ap (λ d. selects d (fixed row)) is ∙ of row ∙ ap (λ d. selects d row) (sym is)
  where
    of : (r : Row) → selects (scans.AttList rel) (fixed r) ≡ selects (scans.AttList rel) r
    of (rows.Class own called kind fill) = refl
    of (rows.Att own num called col_type stat live) = refl
    of r = refl

-- each row is there too, but for what a weak mode may change
abbrev pub AreAmong : List Row → List Row → Type 0
AreAmong given others = AllByRecursion (λ row. SomeOf (λ other. fixed row ≡ fixed other) others) given

-- where the columns stay, so does what such a scan gives
pub columns_among : (history later : List Entry) (b : ℕ) (rel : Oid) (scan : Purpose) → IsOfColumns rel scan → map fixed (answer_of later b (scans.Attribute rel)) ≡ map fixed (answer_of history b (scans.Attribute rel)) → AreAmong (answer_of later b scan) (answer_of history b scan)
columns_among history later b rel scan of same = every-weaker (λ row. IsIn row (rows_of later b) × (selects scan row ≡ true)) (λ row. SomeOf (λ other. fixed row ≡ fixed other) (answer_of history b scan)) found (answer_of later b scan) (given_seen later b scan)
  where
    found : (row : Row) → IsIn row (rows_of later b) × (selects scan row ≡ true) → SomeOf (λ other. fixed row ≡ fixed other) (answer_of history b scan)
    found row is = row_given Alike history b scan asks (from_some Alike (SomeOf Alike (rows_of history b)) (answer_of history b (scans.Attribute rel))
        (every-weaker (λ other. IsIn other (rows_of history b) × (selects (scans.Attribute rel) other ≡ true)) (λ other. Alike other → SomeOf Alike (rows_of history b))
        (λ other there alike. some-weaker (λ r. other ≡ r) Alike (λ r one. subst Alike one alike) (rows_of history b) there.0) (answer_of history b (scans.Attribute rel)) (given_seen history b (scans.Attribute rel)))
        (some-unmap (λ x. fixed row ≡ x) fixed (answer_of history b (scans.Attribute rel)) (subst (SomeOf (λ x. fixed row ≡ x)) same (some-map (λ x. fixed row ≡ x) fixed (answer_of later b (scans.Attribute rel)) column_there))))
      where
        Alike : Row → Type 0
        Alike other = fixed row ≡ fixed other

        column_there : SomeOf (λ other. fixed row ≡ fixed other) (answer_of later b (scans.Attribute rel))
        column_there = some-weaker (λ other. row ≡ other) Alike (λ other one. ap fixed one) (answer_of later b (scans.Attribute rel))
            (row_given (λ other. row ≡ other) later b (scans.Attribute rel) (λ other one. subst (λ r. selects (scans.Attribute rel) r ≡ true) one (column_asks rel scan of row is.1)) is.0)

        asks : (other : Row) → Alike other → selects scan other ≡ true
        asks other alike = sym (column_fixes rel scan of other) ∙ ap (selects scan) (sym alike) ∙ column_fixes rel scan of row ∙ is.1

-- of those that are columns of the relation too
asked_among : (rel : Oid) (given others : List Row) → AreAmong given others → AreAmong (filter (selects (scans.Attribute rel)) given) (filter (selects (scans.Attribute rel)) others)
asked_among rel given others all = every-filter (λ row. SomeOf (λ other. fixed row ≡ fixed other) (filter asked others)) asked given
    (every-weaker (λ row. SomeOf (λ other. fixed row ≡ fixed other) others) (λ row. asked row ≡ true → SomeOf (λ other. fixed row ≡ fixed other) (filter asked others)) found given all)
  where
    asked : Row → Bool
    asked = selects (scans.Attribute rel)

    found : (row : Row) → SomeOf (λ other. fixed row ≡ fixed other) others → asked row ≡ true → SomeOf (λ other. fixed row ≡ fixed other) (filter asked others)
    found row there is = some-filter (λ other. fixed row ≡ fixed other) asked others
        (some-weaker (λ other. fixed row ≡ fixed other) (λ other. (asked other ≡ true) × (fixed row ≡ fixed other))
        (λ other alike. (sym ((column_apart rel).fixes other) ∙ ap asked (sym alike) ∙ (column_apart rel).fixes row ∙ is, alike)) others there)

-- of a relation's columns that a scan gives no two have one number
columns_differ : (history : List Entry) (b : ℕ) (rel : Oid) (scan : Purpose) → IsSound history → Pairwise Differ (filter (selects (scans.Attribute rel)) (answer_of history b scan))
columns_differ history b rel scan sound = pair-filter Differ (selects (scans.Attribute rel)) (answer_of history b scan)
    (pair-weaker (λ row. ⊤) HaveTwoKeys (λ row other. selects (scans.Attribute rel) row ≡ true → selects (scans.Attribute rel) other ≡ true → Differ row other)
    (λ row other _ _ two is also same. two ((column_apart rel).keyed row other is also same)) (answer_of history b scan) (every (λ row. ⊤) (λ row. tt) (answer_of history b scan)) (given_keys history b scan sound))

-- rows in order of number, but for what a weak mode may change
abbrev pub by_number : Oid → List Row → List Row
by_number rel given = map fixed (scan_of (scans.Attribute rel) given)

-- where the columns of a relation stay, but for what a weak mode may change, so does in order of number what a scan of them by their names gives, whatever their names are
pub numbered_stay : (history later : List Entry) (b : ℕ) (rel : Oid) (scan : Purpose) → IsOfColumns rel scan → IsSound history → IsSound later → map fixed (answer_of later b (scans.Attribute rel)) ≡ map fixed (answer_of history b (scans.Attribute rel))
    → by_number rel (answer_of later b scan) ≡ by_number rel (answer_of history b scan)
numbered_stay history later b rel scan of sound sound' same =
    scan_same (scans.Attribute rel) fixed number_fixed (answer_of later b scan) (answer_of history b scan) ((column_apart rel).by_number (answer_of later b scan)) ((column_apart rel).by_number (answer_of history b scan))
    (columns_differ later b rel scan sound') (columns_differ history b rel scan sound)
    (asked_among rel (answer_of later b scan) (answer_of history b scan) (columns_among history later b rel scan of same)) (asked_among rel (answer_of history b scan) (answer_of later b scan) (columns_among later history b rel scan of (sym same)))

-- what becomes visible leaves it, where its backend doesn't hold AccessExclusive on the relation
pub columns_leave : (rel : Oid) (scan : Purpose) → IsOfColumns rel scan → LeavesRead (by_number rel) scan rel (AccessExclusive ∷ [])
columns_leave rel scan of = (
  plain_goes (by_number rel) scan (plain of),
  λ history a c xid b sound comes other none.
      numbered_stay history (history ++ entry_of a c (events.Visible xid) ∷ []) b rel scan of sound (EachEntry-more MayComeNext history (entry_of a c (events.Visible xid)) sound comes)
      (fixed_visible history a c xid b rel (scans.Attribute rel) (column_apart rel) sound comes other (sym (or-false (holds (held_of history) a rel AccessExclusive)) ∙ none)),
)
  where
    plain : IsOfColumns rel scan → (row : Row) → counted_for scan row ≡ row
    plain (inl (name, is)) row = ap (λ d. counted_for d row) is
    plain (inr is) row = ap (λ d. counted_for d row) is
