-- A backend sees one relation of a name at most, where no write gives one name to two. So a relation that is seen is the one that its name gives, and what a lookup found its name gives still.
use Rattle.std.proofs.Common.{◌≡◌, ◌≤◌, ◌∙◌, ◌⊎◌, inl, inr, ℕ, Bool, true, false, not, Option, Some, None, List, [], ◌∷◌, ◌++◌, ◌&&◌, ◌||◌, cond, if◌then◌else◌, refl, sym, ap, subst, filter, fold, length, arith}
use Rattle.std.specs.Prelude.{⊤}
use Rattle.std.specs.List.{AllByRecursion, list_all, flat_map}
use Rattle.std.specs.Option.{option_map_or, IfSome}
use Rattle.std.specs.Str.{bytes_eq}
use Rattle.std.proofs.lemmas.Slice.Eq.{bytes_eq-Decides}
use Rattle.std.proofs.lemmas.Bool.{both_ways, and_parts}
use Rattle.base_types.specs.declared.row.Row.TheVariants as rows
use Rattle.base_types.specs.declared.scan.Purpose.TheVariants as scans
use Rattle.base_types.specs.RowKeys.{key_of}
use Rattle.base_types.specs.Scans.{selects, put_in_order}
use Rattle.row_visibility.specs.declared.version.Version.{Version}
use Rattle.row_visibility.specs.declared.version.Stamp.{Stamp}
use Rattle.event_kinds.specs.declared.entry.Event.TheVariants as events
use Rattle.event_kinds.specs.declared.entry.Item.TheVariants as forms
use Rattle.history_model.specs.Prefixes.{EachEntry}
use Rattle.history_model.specs.Transactions.{runs_as, is_committed}
use Rattle.history_model.specs.Versions.{versions_of, ends, ended_key, added_row, old_row, counts, sees, rows_of, answer_of}
use Rattle.history_model.specs.Names.{new_name, has_name, is_others, running_over, users_of}
use Rattle.history_model.specs.Changing.{is_empty}
use Rattle.history_model.specs.Writes.{is_free, has_row}
use Rattle.history_model.specs.Sound.{MayComeNext, IsSound}
use Rattle.history_model.proofs.Asking.{bytes_same}
use Rattle.history_model.proofs.Every.{every-weaker, every, every-both, SomeOf, some-weaker, some_with}
use Rattle.history_model.proofs.GivenRows.{given_seen, row_given}
use Rattle.history_model.proofs.InOrder.{IsIn, every_self}
use Rattle.history_model.proofs.Locked.{IsSeenAs}
use Rattle.history_model.proofs.Ordered.{Ordered, all_flat, all_kept, ended_named, sound_ordered}
use Rattle.history_model.proofs.Seen.{Pairwise, pair-weaker, pair-filter}
use Rattle.history_model.proofs.Touched.{entry_of}
use Rattle.cacheless.specs.Types.{Oid, Kind, Row, Purpose, Entry, Event, Item}
use Rattle.cacheless.specs.TableWrites.{ShareName, AreNamedApart, NamesApartBy, WritesNamesApart}
use Rattle.cacheless.proofs.Dropped.{ended_there}
use Rattle.cacheless.proofs.EndedFirst.{EndsIt, AllCount}
use Rattle.cacheless.proofs.OneOfAKind.{IsFreeRow, Inherits, GiveApart, KeepsApartBy, gives_way, none_clash}
use Rattle.cacheless.proofs.VersionsStay.{row_seen}

none_of : {X : Type 0} (xs : List X) → is_empty xs ≡ true → xs ≡ []
none_of [] is = refl
none_of (x ∷ xs) is = absurd (cc)

none_flat : {X Y : Type 0} (f : X → List Y) (xs : List X) → flat_map f xs ≡ [] → AllByRecursion (λ x. f x ≡ []) xs
none_flat f [] none = tt
none_flat f (x ∷ xs) none = by_first (f x) refl none (none_flat f xs)
  where
    by_first : (l : List _) → f x ≡ l → l ++ flat_map f xs ≡ [] → (flat_map f xs ≡ [] → AllByRecursion (λ y. f y ≡ []) xs) → (f x ≡ []) × AllByRecursion (λ y. f y ≡ []) xs
    by_first [] is none' rest = (is, rest none')
    by_first (y ∷ l) is none' rest = absurd (cc)

of_filtered : {X : Type 0} (keep : X → Bool) (P : X → Type 0) (xs : List X) → AllByRecursion P (filter keep xs) → AllByRecursion (λ x. keep x ≡ true → P x) xs
of_filtered keep P [] all = tt
of_filtered keep P (x ∷ xs) all = by_test (keep x) refl all (of_filtered keep P xs)
  where
    by_test : (t : Bool) → keep x ≡ t → AllByRecursion P (cond t (x ∷ filter keep xs) (filter keep xs)) → (AllByRecursion P (filter keep xs) → AllByRecursion (λ y. keep y ≡ true → P y) xs) → (keep x ≡ true → P x) × AllByRecursion (λ y. keep y ≡ true → P y) xs
    by_test true is all' rest = (λ kept. all'.0, rest all'.1)
    by_test false is all' rest = (λ kept. absurd (both_ways _ is kept), rest all')

-- a stamp that isn't another's counts
own_counts : (history : List Entry) (b : ℕ) (s : Stamp) → is_others history b s ≡ false → counts history b s ≡ true
own_counts history b s is = of (is_committed history s.xid.0) (runs_as history b s.xid.0) is
  where
    of : (x y : Bool) → (not x && not y) ≡ false → (x || y) ≡ true
    of true y none = refl
    of false true none = refl
    of false false none = absurd (cc)

-- of a version over which no other's transaction runs all stamps count
all_count : (history : List Entry) (b : ℕ) (v : Version) → running_over history b v ≡ [] → AllCount history b v
all_count history b v none = (own_counts history b v.by (one v.by all.0), of v.ended all.1)
  where
    One : Stamp → Type 0
    One s = (if is_others history b s then s.xid.0 ∷ [] else []) ≡ []

    all : AllByRecursion One (v.by ∷ option_map_or (λ s. s ∷ []) v.ended [])
    all = none_flat (λ s. if is_others history b s then s.xid.0 ∷ [] else []) (v.by ∷ option_map_or (λ s. s ∷ []) v.ended []) none

    one : (s : Stamp) → One s → is_others history b s ≡ false
    one s is = by_test (is_others history b s) is
      where
        by_test : (t : Bool) → (if t then s.xid.0 ∷ [] else []) ≡ [] → t ≡ false
        by_test true some = absurd (cc)
        by_test false none' = refl

    of : (o : Option Stamp) → AllByRecursion One (option_map_or (λ s. s ∷ []) o []) → IfSome o (λ s. counts history b s ≡ true)
    of None each = tt
    of (Some s) each = own_counts history b s (one s each.0)

bytes_one : (a b : List ℕ) → a ≡ b → bytes_eq a b ≡ true
bytes_one a b same = (bytes_eq-Decides a b).1 same

-- what shares a name has it, and the scan of the name asks for it
shares : (row : Row) (to : List ℕ) (oid : Oid) (kind : Kind) (fill : Option ℕ) → ShareName row (rows.Class oid to kind fill) → (has_name to row ≡ true) × (selects (scans.RelName to) row ≡ true)
shares (rows.Class of own kind' fill') to oid kind fill same = (bytes_one own to same, bytes_one own to same)
shares row to oid kind fill same = absurd same

-- a row of a relation with a free name is free
free_row : (history : List Entry) (b : ℕ) (items : List Item) (oid : Oid) (name : List ℕ) (kind : Kind) (fill : Option ℕ) → is_free history b name ≡ true → IsFreeRow ShareName history b items (rows.Class oid name kind fill)
free_row history b items oid name kind fill free =
    every-weaker (λ v. IsIn v (versions_of history) × (has_name name v.row ≡ true → running_over history b v ≡ [])) (λ v. ShareName v.row (rows.Class oid name kind fill) → AllCount history b v × (sees history b v ≡ true → EndsIt history b items v))
    (λ v h share. let named = shares v.row name oid kind fill share in (all_count history b v (h.1 named.0), λ seen. absurd (unseen v h.0 named.1 seen))) (versions_of history)
    (every-both (λ v. IsIn v (versions_of history)) (λ v. has_name name v.row ≡ true → running_over history b v ≡ []) (versions_of history) (every_self (versions_of history))
    (of_filtered (λ v. has_name name v.row) (λ v. running_over history b v ≡ []) (versions_of history) (none_flat (running_over history b) (filter (λ v. has_name name v.row) (versions_of history)) (none_of (users_of history b name) parts.0))))
  where
    parts : (is_empty (users_of history b name) ≡ true) × (is_empty (answer_of history b (scans.RelName name)) ≡ true)
    parts = and_parts (is_empty (users_of history b name)) (is_empty (answer_of history b (scans.RelName name))) free

    unseen : (v : Version) → IsIn v (versions_of history) → selects (scans.RelName name) v.row ≡ true → sees history b v ≡ true → ⊥
    unseen v there asks seen = nothing (subst (SomeOf (λ row. v.row ≡ row)) (none_of (answer_of history b (scans.RelName name)) parts.1)
        (row_given (λ row. v.row ≡ row) history b (scans.RelName name) (λ row same. subst (λ r. selects (scans.RelName name) r ≡ true) same asks)
        (row_seen (λ row. v.row ≡ row) history b (some-weaker (λ w. v ≡ w) (λ w. (v.row ≡ w.row) × (sees history b w ≡ true)) (λ w same. (ap (λ x. x.row) same, subst (λ x. sees history b x ≡ true) same seen)) (versions_of history) there))))
      where
        nothing : SomeOf (λ row. v.row ≡ row) [] → ⊥
        nothing none = none

-- each row of a relation that a write gives has a free name, or the name of the row that it replaces
named_item : (history : List Entry) (b : ℕ) (items : List Item) (item : Item) → Ordered history → IfSome (ended_key item) (λ key. has_row history b key ≡ true) → list_all (is_free history b) (new_name (old_row history b item) (added_row item)) ≡ true
    → IfSome (added_row item) (λ row. IsFreeRow ShareName history b items row ⊎ Inherits ShareName history b item row)
named_item history b items item k there free = of (added_row item) refl free
  where
    Stands : Row → Type 0
    Stands row = IsFreeRow ShareName history b items row ⊎ Inherits ShareName history b item row

    alone : (row : Row) → ((other : Row) → ShareName other row → ⊥) → Stands row
    alone row none = inl (every (λ v. ShareName v.row row → AllCount history b v × (sees history b v ≡ true → EndsIt history b items v)) (λ v share. absurd (none v.row share)) (versions_of history))

    only : (t : Bool) → (t && true) ≡ true → t ≡ true
    only true is = refl
    only false is = absurd (cc)

    no_relation : (other row : Row) → ((oid : Oid) (own : List ℕ) (kind : Kind) (fill : Option ℕ) → row ≡ rows.Class oid own kind fill → ⊥) → ShareName other row → ⊥
    no_relation (rows.Class oid own kind fill) (rows.Class to name kind' fill') none share = none to name kind' fill' refl
    no_relation (rows.Class oid own kind fill) row none share = share
    no_relation other row none share = share

    relation : (oid : Oid) (name : List ℕ) (kind : Kind) (fill : Option ℕ) → added_row item ≡ Some (rows.Class oid name kind fill) → (o : Option Row) → old_row history b item ≡ o → list_all (is_free history b) (new_name o (Some (rows.Class oid name kind fill))) ≡ true → Stands (rows.Class oid name kind fill)
    relation oid name kind fill is (Some (rows.Class to own kind' fill')) old free' = by_name (bytes_eq own name) refl free'
      where
        -- whatever shares the new row's name shares the old one's
        Alike : Row → Type 0
        Alike row = (r : Row) → ShareName r (rows.Class oid name kind fill) → ShareName r row × ShareName row r

        key_there : (i : Item) → added_row i ≡ Some (rows.Class oid name kind fill) → old_row history b i ≡ Some (rows.Class to own kind' fill') → IfSome (ended_key i) (λ key. has_row history b key ≡ true) → SomeOf (λ v. ends history b i v ≡ true) (versions_of history)
        key_there (forms.Put row) is' old' there' = some-weaker (λ v. (key_of v.row ≡ key_of row) × (ends history b (forms.Put row) v ≡ true)) (λ v. ends history b (forms.Put row) v ≡ true) (λ v h. h.1) (versions_of history) (ended_there history b (forms.Put row) (key_of row) refl there')
        key_there i is' old' there' = absurd (cc)

        alike : own ≡ name → Alike (rows.Class to own kind' fill')
        alike same (rows.Class oid' own' kind'' fill'') share = (share ∙ sym same, same ∙ sym share)
        alike same r share = absurd share

        takes_place : bytes_eq own name ≡ true → Inherits ShareName history b item (rows.Class oid name kind fill)
        takes_place same = some_with (λ v. ends history b item v ≡ true) (λ v. ends history b item v ≡ true → Alike v.row) (λ v. (ends history b item v ≡ true) × Alike v.row) (λ v here of. (here, of here)) (versions_of history)
            (ended_named history b Alike item k.one (subst (λ o. IfSome o Alike) (sym old) (alike (bytes_same own name same)))) (key_there item is old there)

        by_name : (t : Bool) → bytes_eq own name ≡ t → list_all (is_free history b) (if t then [] else name ∷ []) ≡ true → Stands (rows.Class oid name kind fill)
        by_name true same free'' = inr (takes_place same)
        by_name false same free'' = inl (free_row history b items oid name kind fill (only (is_free history b name) free''))
    relation oid name kind fill is (Some row) old free' = inl (free_row history b items oid name kind fill (only (is_free history b name) free'))
    relation oid name kind fill is None old free' = inl (free_row history b items oid name kind fill (only (is_free history b name) free'))

    of : (o : Option Row) → added_row item ≡ o → list_all (is_free history b) (new_name (old_row history b item) o) ≡ true → IfSome o Stands
    of None is free' = tt
    of (Some (rows.Class oid name kind fill)) is free' = relation oid name kind fill is (old_row history b item) refl free'
    of (Some row) is free' = alone row (λ other share. no_relation other row (λ oid own kind fill same. absurd (cc)) share)

apart_pairs : (items : List Item) → AreNamedApart items → Pairwise (GiveApart ShareName) items
apart_pairs [] apart = tt
apart_pairs (item ∷ items) apart = (apart.0, apart_pairs items apart.1)

-- so what a history allows keeps names apart, but for two new rows of one write
keeps_apart : (history : List Entry) (b c : ℕ) (event : Event) → IsSound history → MayComeNext history (entry_of b c event) → NamesApartBy event → KeepsApartBy ShareName history b event
keeps_apart history b c (events.Write xid items) sound comes apart = record {
  new = every-weaker (λ item. There item × Free item) (λ item. IfSome (added_row item) (λ row. IsFreeRow ShareName history b items row ⊎ Inherits ShareName history b item row)) (λ item h. named_item history b items item (sound_ordered history sound) h.0 h.1) items
      (every-both There Free items (all_kept (has_row history b) ended_key items comes.follows.event.there) (all_flat (is_free history b) (λ item. new_name (old_row history b item) (added_row item)) items comes.follows.event.free));
  apart = apart_pairs items apart;
}
  where
    There : Item → Type 0
    There item = IfSome (ended_key item) (λ key. has_row history b key ≡ true)

    Free : Item → Type 0
    Free item = list_all (is_free history b) (new_name (old_row history b item) (added_row item)) ≡ true
keeps_apart history b c event sound comes apart = tt

-- of a sound history whose writes give no name to two relations: a backend sees no two relations with one name
pub names_apart : (history : List Entry) (b : ℕ) → IsSound history → EachEntry WritesNamesApart history → Pairwise (λ row other. ShareName row other → ⊥) (rows_of history b)
names_apart history b sound apart = none_clash ShareName history b (gives_way ShareName WritesNamesApart keeps_apart history sound apart)

-- so the scan of a name gives one at most
pub one_name : (history : List Entry) (b : ℕ) (name : List ℕ) → IsSound history → EachEntry WritesNamesApart history → length (answer_of history b (scans.RelName name)) ≤ 1
one_name history b name sound apart = at_most (filter (selects d) (rows_of history b))
    (pair-filter (λ row other. ⊥) (selects d) (rows_of history b) (pair-weaker (λ row. ⊤) (λ row other. ShareName row other → ⊥) (λ row other. selects d row ≡ true → selects d other ≡ true → ⊥)
    (λ row other _ _ none asks also. none (share row other asks also)) (rows_of history b) (every (λ row. ⊤) (λ row. tt) (rows_of history b)) (names_apart history b sound apart)))
  where
    d : Purpose
    d = scans.RelName name

    share : (row other : Row) → selects d row ≡ true → selects d other ≡ true → ShareName row other
    share (rows.Class oid own kind fill) (rows.Class to also kind' fill') is too = bytes_same own name is ∙ sym (bytes_same also name too)
    share (rows.Class oid own kind fill) other is too = absurd (cc)
    share row other is too = absurd (cc)

    at_most : (found : List Row) → Pairwise (λ row other. ⊥) found → length (fold (put_in_order d) [] found) ≤ 1
    at_most [] none = omega arith
    at_most (row ∷ []) none = omega arith
    at_most (row ∷ other ∷ found) none = absurd none.0.0

alone_in : (row : Row) (given : List Row) → length given ≤ 1 → IsIn row given → given ≡ row ∷ []
alone_in row [] one there = absurd there
alone_in row (other ∷ []) one (inl is) = ap (λ r. r ∷ []) (sym is)
alone_in row (other ∷ []) one (inr none) = absurd none
alone_in row (other ∷ third ∷ given) one there = absurd (omega (arith, one))

-- and a relation that is seen is the one that its name gives
pub seen_by_name : (history : List Entry) (b : ℕ) (rel : Oid) (name : List ℕ) (kind : Kind) → IsSound history → EachEntry WritesNamesApart history → IsSeenAs history b rel name kind → answer_of history b (scans.RelName name) ≡ answer_of history b (scans.Class rel)
seen_by_name history b rel name kind sound apart seen = alone_in row (answer_of history b (scans.RelName name)) (one_name history b name sound apart) there ∙ sym seen.1
  where
    row : Row
    row = rows.Class rel name kind seen.0

    there : IsIn row (answer_of history b (scans.RelName name))
    there = row_given (λ r. row ≡ r) history b (scans.RelName name) (λ r same. subst (λ x. selects (scans.RelName name) x ≡ true) same (bytes_one name name refl))
        (subst (AllByRecursion (λ r. IsIn r (rows_of history b) × (selects (scans.Class rel) r ≡ true))) seen.1 (given_seen history b (scans.Class rel))).0.0
