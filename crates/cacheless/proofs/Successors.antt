-- Rows that have successors: a version that is ended has a later one, by the stamp that ended it, or something else is known of that stamp. So where one counts, one is seen, or a stamp of which that is known counts.
use Rattle.std.proofs.Common.{◌≡◌, ◌∙◌, ◌⊎◌, inl, inr, ℕ, Bool, true, false, not, Option, Some, None, List, [], ◌∷◌, ◌++◌, cond, refl, sym, ap, subst, map, filter, fold}
use Rattle.std.specs.Prelude.{⊤}
use Rattle.std.specs.List.{AllByRecursion, list_any, flat_map}
use Rattle.std.specs.Option.{option_map_or, IfSome}
use Rattle.std.proofs.lemmas.Bool.{and_parts, and_from}
use Rattle.base_types.specs.RowKeys.{key_of, same_key, are_distinct_keys}
use Rattle.row_visibility.specs.declared.version.Version.{Version}
use Rattle.row_visibility.specs.declared.version.Stamp.{Stamp}
use Rattle.row_visibility.specs.Seen.{seen_by}
use Rattle.history_model.specs.Versions.{change_by, end_by, ends, version_of, ended_key, added_row, end_back, sees}
use Rattle.history_model.specs.Changing.{changed_key}
use Rattle.history_model.proofs.Every.{every-weaker, every-append, every-map, SomeOf, some-weaker, some-left, some-right, some-map, some-filter}
use Rattle.history_model.proofs.OneVersion.{distinct_split, differ_from, added_key}
use Rattle.history_model.proofs.Ordered.{if_some}
use Rattle.history_model.proofs.MaskedRows.{not_ended}
use Rattle.cacheless.specs.Types.{Row, Entry, Item}

-- a version of one of these rows, by this stamp
abbrev pub IsBy : (Row → Type 0) → Stamp → Version → Type 0
IsBy C stamp v = C v.row × (v.by ≡ stamp)

-- if it is of one of these rows, and ended, a later version of one is by the stamp that ended it, or D holds of that stamp
abbrev pub HasNext : (Row → Type 0) → (Stamp → Type 0) → List Version → Version → Type 0
HasNext C D later v = C v.row → IfSome v.ended (λ s. SomeOf (IsBy C s) later ⊎ D s)

-- so it is with each version
abbrev pub HaveNext : (Row → Type 0) → (Stamp → Type 0) → List Version → Type 0
HaveNext C D [] = ⊤
HaveNext C D (v ∷ vs) = HasNext C D vs v × HaveNext C D vs

-- a stamp of which D holds counts
abbrev pub IsCounted : (Stamp → Type 0) → (Stamp → Bool) → Type 0
IsCounted D f = (s : Stamp) × ((f s ≡ true) × D s)

-- of these rows' versions of which one counts, one is seen, or D holds of a stamp that counts
pub one_is_seen : (C : Row → Type 0) (D : Stamp → Type 0) (f : Stamp → Bool) (vs : List Version) → HaveNext C D vs → SomeOf (λ v. C v.row × (f v.by ≡ true)) vs → SomeOf (λ v. C v.row × (seen_by f v ≡ true)) vs ⊎ IsCounted D f
one_is_seen C D f [] next some = absurd some
one_is_seen C D f (v ∷ vs) next (inr there) = later (one_is_seen C D f vs next.1 there)
  where
    later : SomeOf (λ w. C w.row × (seen_by f w ≡ true)) vs ⊎ IsCounted D f → SomeOf (λ w. C w.row × (seen_by f w ≡ true)) (v ∷ vs) ⊎ IsCounted D f
    later (inl seen) = inl (inr seen)
    later (inr counted) = inr counted
one_is_seen C D f (v ∷ vs) next (inl here) = of v.ended refl (next.0 here.0) (one_is_seen C D f vs next.1)
  where
    Result : Type 0
    Result = SomeOf (λ w. C w.row × (seen_by f w ≡ true)) (v ∷ vs) ⊎ IsCounted D f

    unended : option_map_or f v.ended false ≡ false → Result
    unended none = inl (inl (here.0, and_from (f v.by) (not (option_map_or f v.ended false)) here.1 (ap not none)))

    later : SomeOf (λ w. C w.row × (seen_by f w ≡ true)) vs ⊎ IsCounted D f → Result
    later (inl seen) = inl (inr seen)
    later (inr counted) = inr counted

    of : (o : Option Stamp) → v.ended ≡ o → IfSome o (λ s. SomeOf (IsBy C s) vs ⊎ D s) → (SomeOf (λ w. C w.row × (f w.by ≡ true)) vs → SomeOf (λ w. C w.row × (seen_by f w ≡ true)) vs ⊎ IsCounted D f) → Result
    of None is after rest = unended (ap (λ o. option_map_or f o false) is)
    of (Some s) is after rest = by_test (f s) refl after
      where
        by_test : (t : Bool) → f s ≡ t → SomeOf (IsBy C s) vs ⊎ D s → Result
        by_test false not_yet after' = unended (ap (λ o. option_map_or f o false) is ∙ not_yet)
        by_test true counted (inl there) = later (rest (some-weaker (IsBy C s) (λ w. C w.row × (f w.by ≡ true)) (λ w h. (h.0, ap f h.1 ∙ counted)) vs there))
        by_test true counted (inr is_so) = inr (s, (counted, is_so))

-- where E follows from D
pub next-weaker : (C : Row → Type 0) (D E : Stamp → Type 0) → ((s : Stamp) → D s → E s) → (vs : List Version) → HaveNext C D vs → HaveNext C E vs
next-weaker C D E weaker [] next = tt
next-weaker C D E weaker (v ∷ vs) next = (λ c. if_some (λ s. SomeOf (IsBy C s) vs ⊎ D s) (λ s. SomeOf (IsBy C s) vs ⊎ E s) of v.ended (next.0 c), next-weaker C D E weaker vs next.1)
  where
    of : (s : Stamp) → SomeOf (IsBy C s) vs ⊎ D s → SomeOf (IsBy C s) vs ⊎ E s
    of s (inl some) = inl some
    of s (inr drop) = inr (weaker s drop)

-- the change gives one of these rows
abbrev pub Gives : (Row → Type 0) → Item → Type 0
Gives C item = (row : Row) × ((added_row item ≡ Some row) × C row)

-- each of the changes that ends the version, if it is of one of these rows, gives one, or there is another reason
abbrev pub AreGiven : (Row → Type 0) → Type 0 → List Entry → ℕ → List Item → Version → Type 0
AreGiven C reason before b items v = AllByRecursion (λ item. ends before b item v ≡ true → C v.row → Gives C item ⊎ reason) items

-- a change leaves the rows of the versions that are there, and the stamps by which they were added
pub by_kept : (Q : Row → Stamp → Type 0) (ending : Version → Bool) (stamp : Stamp) (v : Version) → Q v.row v.by → Q (end_by ending stamp v).row (end_by ending stamp v).by
by_kept Q ending stamp v held = by_test (ending v)
  where
    by_test : (t : Bool) → Q (elim t as (λ x. Version) [ true ↦ record v { ended = Some stamp } | false ↦ v ]).row (elim t as (λ x. Version) [ true ↦ record v { ended = Some stamp } | false ↦ v ]).by
    by_test true = held
    by_test false = held

next_changed : (C : Row → Type 0) (D : Stamp → Type 0) (before : List Entry) (b : ℕ) (stamp : Stamp) (item : Item) (vs : List Version) → AllByRecursion (λ v. ends before b item v ≡ true → C v.row → Gives C item ⊎ D stamp) vs → HaveNext C D vs → HaveNext C D (change_by before b stamp vs item)
next_changed C D before b stamp item [] given next = new (added_row item)
  where
    new : (o : Option Row) → HaveNext C D (version_of stamp o)
    new None = tt
    new (Some row) = ((λ c. tt), tt)
next_changed C D before b stamp item (v ∷ vs) given next = (by_test (ends before b item v) refl, next_changed C D before b stamp item vs given.1 next.1)
  where
    change : Version → Version
    change = end_by (ends before b item) stamp

    added : List Version
    added = version_of stamp (added_row item)

    gives : Gives C item ⊎ D stamp → SomeOf (IsBy C stamp) (map change vs ++ added) ⊎ D stamp
    gives (inl g) = inl (some-right (IsBy C stamp) (map change vs) added (subst (λ o. SomeOf (IsBy C stamp) (version_of stamp o)) (sym g.1.0) (inl (g.1.1, refl))))
    gives (inr is_so) = inr is_so

    stay : (s : Stamp) → SomeOf (IsBy C s) vs ⊎ D s → SomeOf (IsBy C s) (map change vs ++ added) ⊎ D s
    stay s (inl some) = inl (some-left (IsBy C s) (map change vs) added
        (some-map (IsBy C s) change vs (some-weaker (IsBy C s) (λ w. IsBy C s (change w)) (by_kept (λ row by. C row × (by ≡ s)) (ends before b item) stamp) vs some)))
    stay s (inr is_so) = inr is_so

    by_test : (t : Bool) → ends before b item v ≡ t → HasNext C D (map change vs ++ added) (elim t [ true ↦ record v { ended = Some stamp } | false ↦ v ])
    by_test true is = λ c. gives (given.0 is c)
    by_test false is = λ c. if_some (λ s. SomeOf (IsBy C s) vs ⊎ D s) (λ s. SomeOf (IsBy C s) (map change vs ++ added) ⊎ D s) stay v.ended (next.0 c)

-- after a write whose changes give such rows for those that they end, or of whose stamp D holds
pub next_written : (C : Row → Type 0) (D : Stamp → Type 0) (before : List Entry) (b : ℕ) (stamp : Stamp) (items : List Item) (vs : List Version) → are_distinct_keys (flat_map changed_key items) ≡ true → AllByRecursion (AreGiven C (D stamp) before b items) vs → HaveNext C D vs
    → HaveNext C D (fold (change_by before b stamp) vs items)
next_written C D before b stamp [] vs distinct given next = next
next_written C D before b stamp (item ∷ items) vs distinct given next =
    next_written C D before b stamp items (change_by before b stamp vs item) parts.1
    (every-append (Given items) (map change vs) (version_of stamp (added_row item))
    (every-map (Given items) change vs (every-weaker (Given (item ∷ items)) (λ v. Given items (change v)) old vs given))
    (new (added_row item) refl))
    (next_changed C D before b stamp item vs (every-weaker (Given (item ∷ items)) (λ v. ends before b item v ≡ true → C v.row → Gives C item ⊎ D stamp) (λ v g. g.0) vs given) next)
  where
    Given : List Item → Version → Type 0
    Given left v = AreGiven C (D stamp) before b left v

    parts : AllByRecursion (λ k. list_any (same_key k) (flat_map changed_key items) ≡ false) (changed_key item) × (are_distinct_keys (flat_map changed_key items) ≡ true)
    parts = distinct_split item (flat_map changed_key items) distinct

    change : Version → Version
    change = end_by (ends before b item) stamp

    old : (v : Version) → Given (item ∷ items) v → Given items (change v)
    old v g = by_test (ends before b item v) refl
      where
        ended : Version
        ended = record v { ended = Some stamp }

        by_test : (t : Bool) → ends before b item v ≡ t → Given items (elim t [ true ↦ record v { ended = Some stamp } | false ↦ v ])
        by_test true is = every-weaker (λ i. ends before b i v ≡ true → C v.row → Gives C i ⊎ D stamp) (λ i. ends before b i ended ≡ true → C v.row → Gives C i ⊎ D stamp)
            (λ i one also. one (and_from (option_map_or (same_key (key_of v.row)) (ended_key i) false) (sees before b v) (and_parts _ (sees before b ended) also).0 (and_parts _ (sees before b v) is).1)) items g.1
        by_test false is = g.1

    new : (o : Option Row) → added_row item ≡ o → AllByRecursion (Given items) (version_of stamp o)
    new None is = tt
    new (Some row) is = (
      every-weaker (λ i. AllByRecursion (λ key. key_of row ≡ key → ⊥) (changed_key i)) (λ i. ends before b i (record { row = row; by = stamp; ended = None }) ≡ true → C row → Gives C i ⊎ D stamp)
          (λ i differs also. absurd (not_ended before b (record { row = row; by = stamp; ended = None }) i differs also)) items (differ_from (key_of row) items (added_key (λ k. list_any (same_key k) (flat_map changed_key items) ≡ false) item row is parts.0)),
      tt,
    )

-- and after writes were taken back
pub next_gone : (C : Row → Type 0) (D E : Stamp → Type 0) (back : Stamp → Bool) → ((s : Stamp) → back s ≡ false → D s → E s) → (vs : List Version) → HaveNext C D vs → HaveNext C E (map (end_back back) (filter (λ v. not (back v.by)) vs))
next_gone C D E back stays [] next = tt
next_gone C D E back stays (v ∷ vs) next = by_test (back v.by) (next_gone C D E back stays vs next.1)
  where
    kept : List Version
    kept = filter (λ w. not (back w.by)) vs

    of : (o : Option Stamp) → IfSome o (λ s. SomeOf (IsBy C s) vs ⊎ D s) → IfSome (elim (option_map_or back o false) [ true ↦ None | false ↦ o ]) (λ s. SomeOf (IsBy C s) (map (end_back back) kept) ⊎ E s)
    of None later = tt
    of (Some s) later = by_back (back s) refl later
      where
        by_back : (t : Bool) → back s ≡ t → SomeOf (IsBy C s) vs ⊎ D s → IfSome (elim t [ true ↦ None | false ↦ Some s ]) (λ x. SomeOf (IsBy C x) (map (end_back back) kept) ⊎ E x)
        by_back true is next' = tt
        by_back false is (inl some) = inl (some-map (IsBy C s) (end_back back) kept
            (some-filter (IsBy C s) (λ w. not (back w.by)) vs (some-weaker (IsBy C s) (λ w. (not (back w.by) ≡ true) × IsBy C s w) (λ w h. (ap (λ x. not (back x)) h.1 ∙ ap not is, h)) vs some)))
        by_back false is (inr is_so) = inr (stays s is is_so)

    by_test : (t : Bool) → HaveNext C E (map (end_back back) kept) → HaveNext C E (map (end_back back) (cond (not t) (v ∷ kept) kept))
    by_test true rest = rest
    by_test false rest = ((λ c. of v.ended (next.0 c)), rest)
