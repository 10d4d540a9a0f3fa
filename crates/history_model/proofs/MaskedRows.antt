-- Of rows that concern a relation, masked as one likes: where each command that changes a masked row is marked, a backend sees the same masked rows whether its work of commands that aren't marked counts or not.
use Rattle.std.proofs.Common.{◌≡◌, ◌≤◌, ◌∙◌, ◌⊎◌, inl, inr, ℕ, Bool, true, false, not, Option, Some, None, List, [], ◌∷◌, ◌++◌, ◌==◌, ◌||◌, ◌&&◌, cond, refl, sym, ap, subst, map, filter, fold, arith}
use Rattle.std.specs.Prelude.{nat_le, ⊤}
use Rattle.std.specs.List.{AllByRecursion, list_any, flat_map, find}
use Rattle.std.specs.Option.{option_map_or, IfSome}
use Rattle.std.proofs.lemmas.Bool.{eqb-true, eq-eqb, both_ways, and_parts, and_from, and_right, false_from_ne_true, not-true}
use Rattle.base_types.specs.declared.ids.Xid.{Xid}
use Rattle.base_types.specs.declared.row.Row.{Row}
use Rattle.base_types.specs.RowKeys.{key_of, same_key, are_distinct_keys}
use Rattle.event_kinds.specs.declared.entry.Entry.{Entry}
use Rattle.event_kinds.specs.declared.entry.Event.{Event}
use Rattle.event_kinds.specs.declared.entry.Event.TheVariants as events
use Rattle.event_kinds.specs.declared.entry.Item.{Item}
use Rattle.event_kinds.specs.declared.entry.Item.TheVariants as forms
use Rattle.row_visibility.specs.declared.version.Version.{Version}
use Rattle.row_visibility.specs.declared.version.Stamp.{Stamp}
use Rattle.row_visibility.specs.Seen.{seen_by}
use Rattle.history_model.specs.After.{segment_of}
use Rattle.history_model.specs.Transactions.{Running, running_transaction_of, running_by, has_xid, is_visible, runs_as, is_committed, makes_visible}
use Rattle.history_model.specs.Versions.{versions_of, versions_by, change_by, end_by, ends, version_of, added_row, old_row, is_back, end_back, counts, sees}
use Rattle.history_model.specs.Sent.{lists_of}
use Rattle.history_model.specs.Held.{held_of}
use Rattle.history_model.specs.Changing.{changed_key}
use Rattle.history_model.specs.Orderly.{main_rel}
use Rattle.history_model.specs.Sound.{MayComeNext, IsSound}
use Rattle.history_model.proofs.Prefixes.{each-keeps}
use Rattle.history_model.proofs.Every.{every-weaker, every, every-append, every-map, every-both, every-swap, SomeOf, some-weaker, some_with, some-left, some-right, some-sides, some-map, some-unmap, some-filter, some-unfilter, some_or}
use Rattle.history_model.proofs.Lawful.{IsLawful}
use Rattle.history_model.proofs.Reading.{running_transaction_of-own as running-own, running_transaction_of-other as running-other, versions_of-more as versions-more}
use Rattle.history_model.proofs.Runs.{Runs, Runs-more, one_xid}
use Rattle.history_model.proofs.Touched.{entry_of, OfStamps, stamps-weaker, stamps-write, is_of, Touch, Touched}
use Rattle.history_model.proofs.Guards.{key_eq, Guard, GuardsLawfully, MayChange, changes_on, guard_changes, one_changer, any_with}
use Rattle.history_model.proofs.Seen.{counts_at, IsDown, every_command, seen-same, counts_at-same}
use Rattle.history_model.proofs.OneVersion.{visible_as, gone_seen, before_command, before_down, GoneView, gone_view, distinct_split, differ_from, added_key}
use Rattle.history_model.proofs.Lives.{Begun, begun_at}
use Rattle.history_model.proofs.Ordered.{Ordered, Ordered-start, Ordered-more, if_some, guards_lawful, ended_named, early_at, lawful_of}
use Rattle.history_model.proofs.TakenLocks.{TakesFrom, release_takes, unlock_takes, taken_counts}

-- a test that no command passes
abbrev pub no_command : ℕ → Bool
no_command c = false

-- rows that concern a relation, as they are masked
pub record Masking : Type 1 where
  pub mask : Row → Row
  pub concerns : Row → Type 0
  pub main : (row : Row) → main_rel (mask row) ≡ main_rel row

-- a change leaves the masked row
abbrev pub KeepsMask : Masking → Option Row → Item → Type 0
KeepsMask m (Some old) (forms.Put row) = m.mask old ≡ m.mask row
KeepsMask m old item = ⊥

-- what a backend did in a command isn't taken away by an event of its own
abbrev pub SparesCommand : ℕ → Event → ℕ → Type 0
SparesCommand c (events.Gone from) i = nat_le from i ≡ false
SparesCommand c (events.Release from) i = nat_le from i ≡ false
SparesCommand c (events.Unlock rel mode) i = nat_le c i ≡ false
SparesCommand c event i = ⊤

-- what marks the commands in which masked rows may be changed, as locks that are held: it stays until the command is taken back or its locks are released
pub record Marking : Type 1 where
  pub has : List Entry → ℕ → ℕ → Type 0
  pub kept : (history : List Entry) (e : Entry) (a i : ℕ) → Ordered history → MayComeNext history e → ((e.backend == a) ≡ true → SparesCommand e.command e.event i) → has history a i → has (history ++ e ∷ []) a i

-- of a row that a change names: if it concerns the relation, the command is marked, or the change leaves the masked row
abbrev pub IsFor : Masking → Marking → List Entry → ℕ → ℕ → Xid → List Item → Item → Row → Type 0
IsFor m n history w c xid items item row = m.concerns (m.mask row) → n.has (history ++ entry_of w c (events.Write xid items) ∷ []) w c ⊎ KeepsMask m (old_row history w item) item

-- so it is with each write
abbrev pub Masks : Masking → Marking → Type 0
Masks m n = (history : List Entry) (w c : ℕ) (xid : Xid) (items : List Item) → Ordered history → MayComeNext history (entry_of w c (events.Write xid items))
    → AllByRecursion (λ item. IfSome (added_row item) (IsFor m n history w c xid items item) × IfSome (old_row history w item) (IsFor m n history w c xid items item)) items

-- the version is seen, and its masked row is this one
abbrev pub Shows : Masking → (Stamp → Bool) → Row → Version → Type 0
Shows m f x v = (seen_by f v ≡ true) × (m.mask v.row ≡ x)

-- such a row is seen in one view of versions just where it is seen in another
abbrev pub ShowSame : Masking → Row → (Stamp → Bool) → List Version → (Stamp → Bool) → List Version → Type 0
ShowSame m x f vs g ws = (SomeOf (Shows m f x) vs → SomeOf (Shows m g x) ws) × (SomeOf (Shows m g x) ws → SomeOf (Shows m f x) vs)

-- one test passes no more commands than another
abbrev pub IsLess : (ℕ → Bool) → (ℕ → Bool) → Type 0
IsLess q p = (c : ℕ) → q c ≡ true → p c ≡ true

-- no command that passes one test and not the other is marked
abbrev pub HasNone : Marking → List Entry → ℕ → (ℕ → Bool) → (ℕ → Bool) → Type 0
HasNone n history a p q = (c : ℕ) → p c ≡ true → q c ≡ false → n.has history a c → ⊥

-- a backend sees the same masked rows, whether its work of commands that aren't marked counts or not
abbrev pub Steady : Masking → Marking → List Entry → Type 0
Steady m n history = (a : ℕ) (p q : ℕ → Bool) (x : Row) → m.concerns x → IsDown p → IsDown q → IsLess q p → HasNone n history a p q
    → ShowSame m x (counts_at history a p) (versions_of history) (counts_at history a q) (versions_of history)

pub show-trans : (m : Masking) (x : Row) (f g h : Stamp → Bool) (vs ws us : List Version) → ShowSame m x f vs g ws → ShowSame m x g ws h us → ShowSame m x f vs h us
show-trans m x f g h vs ws us one two = ((λ s. two.0 (one.0 s)), λ s. one.1 (two.1 s))

pub show-sym : (m : Masking) (x : Row) (f g : Stamp → Bool) (vs ws : List Version) → ShowSame m x f vs g ws → ShowSame m x g ws f vs
show-sym m x f g vs ws one = (one.1, one.0)

pub main_is : (m : Masking) (row x : Row) → m.mask row ≡ x → main_rel row ≡ main_rel x
main_is m row x is = sym (m.main row) ∙ ap main_rel is

-- where the stamps of the relation's versions count alike
pub counted_same : (m : Masking) (x : Row) (f g : Stamp → Bool) (vs : List Version) → AllByRecursion (λ v. main_rel v.row ≡ main_rel x → OfStamps (λ s row. f s ≡ g s) v) vs → ShowSame m x f vs g vs
counted_same m x f g vs all = (
  some_with (Shows m f x) Same (Shows m g x) (λ v sh same. (sym (seen-same f g v (same (main_is m v.row x sh.1))) ∙ sh.0, sh.1)) vs all,
  some_with (Shows m g x) Same (Shows m f x) (λ v sh same. (seen-same f g v (same (main_is m v.row x sh.1)) ∙ sh.0, sh.1)) vs all,
)
  where
    Same : Version → Type 0
    Same v = main_rel v.row ≡ main_rel x → OfStamps (λ s row. f s ≡ g s) v

pub counted_all : (m : Masking) (x : Row) (f g : Stamp → Bool) (vs : List Version) → AllByRecursion (OfStamps (λ s row. f s ≡ g s)) vs → ShowSame m x f vs g vs
counted_all m x f g vs all = counted_same m x f g vs (every-weaker (OfStamps (λ s row. f s ≡ g s)) (λ v. main_rel v.row ≡ main_rel x → OfStamps (λ s row. f s ≡ g s) v) (λ v same is. same) vs all)

abbrev ended_at : Stamp → Version → Version
ended_at stamp v = record { row = v.row; by = v.by; ended = Some stamp }

abbrev added_at : Stamp → Row → Version
added_at stamp row = record { row = row; by = stamp; ended = None }

-- a write that isn't seen shows what was shown
write_hidden : (m : Masking) (x : Row) (f : Stamp → Bool) (history : List Entry) (w : ℕ) (stamp : Stamp) → f stamp ≡ false → (items : List Item) (vs : List Version)
    → AllByRecursion (λ v. AllByRecursion (λ item. ends history w item v ≡ true → IfSome v.ended (λ s. f s ≡ false)) items) vs → ShowSame m x f (fold (change_by history w stamp) vs items) f vs
write_hidden m x f history w stamp hidden [] vs none = ((λ s. s), λ s. s)
write_hidden m x f history w stamp hidden (item ∷ items) vs none =
    show-trans m x f f f (fold (change_by history w stamp) (change_by history w stamp vs item) items) (change_by history w stamp vs item) vs (write_hidden m x f history w stamp hidden items (change_by history w stamp vs item) states) (back, forth)
  where
    change : Version → Version
    change = end_by (ends history w item) stamp

    Q : List Item → Version → Type 0
    Q left v = AllByRecursion (λ i. ends history w i v ≡ true → IfSome v.ended (λ s. f s ≡ false)) left

    one : (v : Version) → Q (item ∷ items) v → Q items (change v) × (seen_by f (change v) ≡ seen_by f v) × ((change v).row ≡ v.row)
    one v q = by_test (ends history w item v) refl
      where
        seen_as : (o : Option Stamp) → IfSome o (λ s. f s ≡ false) → (f v.by && not (f stamp)) ≡ (f v.by && not (option_map_or f o false))
        seen_as None free = ap (λ t. f v.by && not t) hidden
        seen_as (Some s) free = ap (λ t. f v.by && not t) (hidden ∙ sym free)

        by_test : (t : Bool) → ends history w item v ≡ t → Q items (elim t [ true ↦ ended_at stamp v | false ↦ v ]) × (seen_by f (elim t [ true ↦ ended_at stamp v | false ↦ v ]) ≡ seen_by f v) × ((elim t as (λ y. Version) [ true ↦ ended_at stamp v | false ↦ v ]).row ≡ v.row)
        by_test true is = (every (λ i. ends history w i (ended_at stamp v) ≡ true → f stamp ≡ false) (λ i ends'. hidden) items, seen_as v.ended (q.0 is), refl)
        by_test false is = (q.1, refl, refl)

    new_states : (o : Option Row) → AllByRecursion (Q items) (version_of stamp o)
    new_states None = tt
    new_states (Some row) = (every (λ i. ends history w i (added_at stamp row) ≡ true → ⊤) (λ i ends'. tt) items, tt)

    states : AllByRecursion (Q items) (change_by history w stamp vs item)
    states = every-append (Q items) (map change vs) (version_of stamp (added_row item)) (every-map (Q items) change vs (every-weaker (Q (item ∷ items)) (λ v. Q items (change v)) (λ v q. (one v q).0) vs none)) (new_states (added_row item))

    unseen_new : (o : Option Row) → SomeOf (Shows m f x) (version_of stamp o) → ⊥
    unseen_new None some = some
    unseen_new (Some row) (inl sh) = both_ways _ hidden (and_parts (f stamp) true sh.0).0
    unseen_new (Some row) (inr more) = more

    old_back : SomeOf (Shows m f x) (map change vs) → SomeOf (Shows m f x) vs
    old_back old = some_with (λ v. Shows m f x (change v)) (Q (item ∷ items)) (Shows m f x) (λ v sh q. let o = one v q in (sym o.1 ∙ sh.0, sym (ap m.mask o.2) ∙ sh.1)) vs none (some-unmap (Shows m f x) change vs old)

    by_side : SomeOf (Shows m f x) (map change vs) ⊎ SomeOf (Shows m f x) (version_of stamp (added_row item)) → SomeOf (Shows m f x) vs
    by_side (inl old) = old_back old
    by_side (inr new) = absurd (unseen_new (added_row item) new)

    back : SomeOf (Shows m f x) (change_by history w stamp vs item) → SomeOf (Shows m f x) vs
    back some = by_side (some-sides (Shows m f x) (map change vs) (version_of stamp (added_row item)) some)

    forth : SomeOf (Shows m f x) vs → SomeOf (Shows m f x) (change_by history w stamp vs item)
    forth some = some-left (Shows m f x) (map change vs) (version_of stamp (added_row item))
        (some-map (Shows m f x) change vs (some_with (Shows m f x) (Q (item ∷ items)) (λ v. Shows m f x (change v)) (λ v sh q. let o = one v q in (o.1 ∙ sh.0, ap m.mask o.2 ∙ sh.1)) vs none some))

-- a change that adds this row, masked
abbrev Adds : Masking → Row → Item → Type 0
Adds m x item = (row : Row) × (added_row item ≡ Some row) × (m.mask row ≡ x)

-- a write that is seen: what it shows was shown, or it adds it
write_back : (m : Masking) (x : Row) (f : Stamp → Bool) (history : List Entry) (w : ℕ) (stamp : Stamp) → f stamp ≡ true → (C : Type 0) (items : List Item) (vs : List Version)
    → AllByRecursion (λ item. Adds m x item → C) items → (SomeOf (Shows m f x) vs → C) → SomeOf (Shows m f x) (fold (change_by history w stamp) vs items) → C
write_back m x f history w stamp shown C [] vs adds from some = from some
write_back m x f history w stamp shown C (item ∷ items) vs adds from some =
    write_back m x f history w stamp shown C items (change_by history w stamp vs item) adds.1 (λ here. by_side (some-sides (Shows m f x) (map change vs) (version_of stamp (added_row item)) here)) some
  where
    change : Version → Version
    change = end_by (ends history w item) stamp

    by_test : (v : Version) (t : Bool) → Shows m f x (elim t [ true ↦ ended_at stamp v | false ↦ v ]) → Shows m f x v
    by_test v true sh = absurd (both_ways _ (not-true (f stamp) (and_parts (f v.by) (not (f stamp)) sh.0).1) shown)
    by_test v false sh = sh

    added : (o : Option Row) → added_row item ≡ o → SomeOf (Shows m f x) (version_of stamp o) → C
    added None is some' = absurd some'
    added (Some row) is (inl sh) = adds.0 (row, is, sh.1)
    added (Some row) is (inr more) = absurd more

    by_side : SomeOf (Shows m f x) (map change vs) ⊎ SomeOf (Shows m f x) (version_of stamp (added_row item)) → C
    by_side (inl old) = from (some-weaker (λ v. Shows m f x (change v)) (Shows m f x) (λ v sh. by_test v (ends history w item v) sh) vs (some-unmap (Shows m f x) change vs old))
    by_side (inr new) = added (added_row item) refl new

-- and what was shown it shows, if a change that ends it adds it
abbrev Lasts : Masking → Row → (Stamp → Bool) → List Entry → ℕ → List Item → Version → Type 0
Lasts m x f history w items v = Shows m f x v × AllByRecursion (λ item. ends history w item v ≡ true → Adds m x item) items

-- a change ends no version of another key
pub not_ended : (history : List Entry) (w : ℕ) (v : Version) (item : Item) → AllByRecursion (λ key. key_of v.row ≡ key → ⊥) (changed_key item) → ends history w item v ≡ true → ⊥
not_ended history w v (forms.Put new) differs ends' = differs.0 (key_eq (key_of v.row) (key_of new) (and_parts (same_key (key_of v.row) (key_of new)) (sees history w v) ends').0)
not_ended history w v (forms.Remove key) differs ends' = differs.0 (key_eq (key_of v.row) key (and_parts (same_key (key_of v.row) key) (sees history w v) ends').0)
not_ended history w v item differs ends' = absurd (cc)

write_forth : (m : Masking) (x : Row) (f : Stamp → Bool) (history : List Entry) (w : ℕ) (stamp : Stamp) → f stamp ≡ true → (items : List Item) (vs : List Version) → are_distinct_keys (flat_map changed_key items) ≡ true
    → SomeOf (Lasts m x f history w items) vs → SomeOf (Shows m f x) (fold (change_by history w stamp) vs items)
write_forth m x f history w stamp shown [] vs distinct some = some-weaker (Lasts m x f history w []) (Shows m f x) (λ v h. h.0) vs some
write_forth m x f history w stamp shown (item ∷ items) vs distinct some =
    write_forth m x f history w stamp shown items (change_by history w stamp vs item) parts.1
    (of (some_or (λ v. Lasts m x f history w items (change v)) (Adds m x item) vs (some-weaker (Lasts m x f history w (item ∷ items)) (λ v. Lasts m x f history w items (change v) ⊎ Adds m x item) step vs some)))
  where
    change : Version → Version
    change = end_by (ends history w item) stamp

    parts : AllByRecursion (λ k. list_any (same_key k) (flat_map changed_key items) ≡ false) (changed_key item) × (are_distinct_keys (flat_map changed_key items) ≡ true)
    parts = distinct_split item (flat_map changed_key items) distinct

    step : (v : Version) → Lasts m x f history w (item ∷ items) v → Lasts m x f history w items (change v) ⊎ Adds m x item
    step v h = by_test (ends history w item v) refl
      where
        by_test : (t : Bool) → ends history w item v ≡ t → Lasts m x f history w items (elim t [ true ↦ ended_at stamp v | false ↦ v ]) ⊎ Adds m x item
        by_test true is = inr (h.1.0 is)
        by_test false is = inl (h.0, h.1.1)

    never : (row : Row) → added_row item ≡ Some row → AllByRecursion (λ i. ends history w i (added_at stamp row) ≡ true → Adds m x i) items
    never row is = every-weaker (λ i. AllByRecursion (λ key. key_of row ≡ key → ⊥) (changed_key i)) (λ i. ends history w i (added_at stamp row) ≡ true → Adds m x i) (λ i differs ends'. absurd (not_ended history w (added_at stamp row) i differs ends')) items
        (differ_from (key_of row) items (added_key (λ k. list_any (same_key k) (flat_map changed_key items) ≡ false) item row is parts.0))

    of : SomeOf (λ v. Lasts m x f history w items (change v)) vs ⊎ Adds m x item → SomeOf (Lasts m x f history w items) (change_by history w stamp vs item)
    of (inl old) = some-left (Lasts m x f history w items) (map change vs) (version_of stamp (added_row item)) (some-map (Lasts m x f history w items) change vs old)
    of (inr new) = some-right (Lasts m x f history w items) (map change vs) (version_of stamp (added_row item))
        (subst (λ o. SomeOf (Lasts m x f history w items) (version_of stamp o)) (sym new.1) (inl ((and_from (f stamp) true shown refl, new.2), never new.0 new.1)))

-- a row that is found is that of a version which is seen
pub find_some : (p : Row → Bool) (g : Version → Bool) (o : Row) (vs : List Version) → find p (map (λ w. w.row) (filter g vs)) ≡ Some o → SomeOf (λ v. (g v ≡ true) × (v.row ≡ o)) vs
find_some p g o [] is = absurd (cc)
find_some p g o (v ∷ vs) is = by_tests (g v) refl is (find_some p g o vs)
  where
    Found : Version → Type 0
    Found u = (g u ≡ true) × (u.row ≡ o)

    in_row : g v ≡ true → (t : Bool) → cond t (Some v.row) (find p (map (λ w. w.row) (filter g vs))) ≡ Some o → (find p (map (λ w. w.row) (filter g vs)) ≡ Some o → SomeOf Found vs) → SomeOf Found (v ∷ vs)
    in_row sight true here rest = let same : v.row ≡ o = cc in inl (sight, same)
    in_row sight false here rest = inr (rest here)

    by_tests : (s : Bool) → g v ≡ s → find p (map (λ w. w.row) (cond s (v ∷ filter g vs) (filter g vs))) ≡ Some o → (find p (map (λ w. w.row) (filter g vs)) ≡ Some o → SomeOf Found vs) → SomeOf Found (v ∷ vs)
    by_tests true sight here rest = in_row sight (p v.row) here rest
    by_tests false sight here rest = inr (rest here)

-- after an entry that makes nothing visible the stamps that were there count as before
counted_kept : (m : Masking) (x : Row) (history : List Entry) (w c : ℕ) (event : Event) (a : ℕ) (p : ℕ → Bool) → IsLawful history (entry_of w c event) → Runs history → Touched history → ((y : ℕ) → makes_visible y event ≡ false)
    → ShowSame m x (counts_at (history ++ entry_of w c event ∷ []) a p) (versions_of history) (counts_at history a p) (versions_of history)
counted_kept m x history w c event a p lawful r touched hidden =
    counted_all m x (counts_at (history ++ entry_of w c event ∷ []) a p) (counts_at history a p) (versions_of history)
    (every-weaker (OfStamps (Touch history)) (OfStamps (λ s row. counts_at (history ++ entry_of w c event ∷ []) a p s ≡ counts_at history a p s))
    (stamps-weaker (Touch history) (λ s row. counts_at (history ++ entry_of w c event ∷ []) a p s ≡ counts_at history a p s) (λ s row touch. counts_at-same history w c event a p s row lawful r (hidden s.xid.0) touch)) (versions_of history) touched)

-- a write that isn't seen
write_unseen : (m : Masking) (history : List Entry) (w c : ℕ) (xid : Xid) (items : List Item) → IsLawful history (entry_of w c (events.Write xid items)) → Ordered history → (a : ℕ) (q : ℕ → Bool) (x : Row) → counts_at (history ++ entry_of w c (events.Write xid items) ∷ []) a q (record { xid = xid; command = c }) ≡ false
    → ShowSame m x (counts_at (history ++ entry_of w c (events.Write xid items) ∷ []) a q) (versions_by history w c (events.Write xid items) (versions_of history)) (counts_at history a q) (versions_of history)
write_unseen m history w c xid items lawful k a q x is =
    show-trans m x (f q) (f q) (counts_at history a q) written vs vs (write_hidden m x (f q) history w stamp is items vs (uncounted q)) (counted_kept m x history w c (events.Write xid items) a q lawful k.runs k.touched (λ y. refl))
  where
    after : List Entry
    after = history ++ entry_of w c (events.Write xid items) ∷ []

    stamp : Stamp
    stamp = record { xid = xid; command = c }

    vs : List Version
    vs = versions_of history

    written : List Version
    written = versions_by history w c (events.Write xid items) (versions_of history)

    f : (ℕ → Bool) → Stamp → Bool
    f q = counts_at after a q

    no_end : (q : ℕ → Bool) (v : Version) (o : Option Stamp) → IfSome o (λ s. Touch history s v.row) → (counts history w v.by && not (option_map_or (counts history w) o false)) ≡ true → IfSome o (λ s. (someone : ℕ) → runs_as history someone s.xid.0 ≡ false) → IfSome o (λ s. f q s ≡ false)
    no_end q v None touch seen none' = tt
    no_end q v (Some s) touch seen none' =
        counts_at-same history w c (events.Write xid items) a q s v.row lawful k.runs refl touch ∙ ap (λ t. t || (runs_as history a s.xid.0 && q s.command)) (not_committed (is_committed history s.xid.0) refl) ∙ ap (λ t. t && q s.command) (none' a)
      where
        not_committed : (t : Bool) → is_committed history s.xid.0 ≡ t → t ≡ false
        not_committed false was = refl
        not_committed true was = absurd (both_ways _ (ap (λ t. not (t || runs_as history w s.xid.0)) was) (and_parts (counts history w v.by) (not (counts history w s)) seen).1)

    Once : Item → Version → Type 0
    Once item v = ends history w item v ≡ true → IfSome v.ended (λ s. (someone : ℕ) → runs_as history someone s.xid.0 ≡ false)

    uncounted : (q : ℕ → Bool) → AllByRecursion (λ v. AllByRecursion (λ item. ends history w item v ≡ true → IfSome v.ended (λ s. f q s ≡ false)) items) vs
    uncounted q = every-weaker (λ v. OfStamps (Touch history) v × AllByRecursion (λ item. Once item v) items) (λ v. AllByRecursion (λ item. ends history w item v ≡ true → IfSome v.ended (λ s. f q s ≡ false)) items)
        (λ v h. every-weaker (λ item. Once item v) (λ item. ends history w item v ≡ true → IfSome v.ended (λ s. f q s ≡ false)) (λ item once is. no_end q v v.ended h.0.1 (and_parts _ (sees history w v) is).1 (once is)) items h.1) vs
        (every-both (OfStamps (Touch history)) (λ v. AllByRecursion (λ item. Once item v) items) vs k.touched (every-swap Once items vs lawful.2))

-- a write of a backend leaves the masked rows that it sees, where each change of such a row leaves the masked row
abbrev pub LeavesMask : Masking → List Entry → ℕ → Item → Row → Type 0
LeavesMask m history w item row = m.concerns (m.mask row) → KeepsMask m (old_row history w item) item

pub write_leaves : (m : Masking) (history : List Entry) (w c : ℕ) (xid : Xid) (items : List Item) → IsLawful history (entry_of w c (events.Write xid items)) → Ordered history → are_distinct_keys (flat_map changed_key items) ≡ true
    → AllByRecursion (λ item. IfSome (added_row item) (LeavesMask m history w item) × IfSome (old_row history w item) (LeavesMask m history w item)) items → AllByRecursion (λ l. l.command ≤ c) (lists_of history w)
    → (p : ℕ → Bool) (x : Row) → m.concerns x → IsDown p → p c ≡ true → counts_at (history ++ entry_of w c (events.Write xid items) ∷ []) w p (record { xid = xid; command = c }) ≡ true
    → ShowSame m x (counts_at (history ++ entry_of w c (events.Write xid items) ∷ []) w p) (versions_by history w c (events.Write xid items) (versions_of history)) (counts_at history w p) (versions_of history)
write_leaves m history w c xid items lawful k keys leaves low p x cx down pc is =
    show-trans m x (f p) (f p) (counts_at history w p) written vs vs (back, forth) (counted_kept m x history w c (events.Write xid items) w p lawful k.runs k.touched (λ y. refl))
  where
    after : List Entry
    after = history ++ entry_of w c (events.Write xid items) ∷ []

    stamp : Stamp
    stamp = record { xid = xid; command = c }

    vs : List Version
    vs = versions_of history

    written : List Version
    written = versions_by history w c (events.Write xid items) (versions_of history)

    f : (ℕ → Bool) → Stamp → Bool
    f q = counts_at after w q

    For : Item → Row → Type 0
    For item = LeavesMask m history w item

    counted : (s : Stamp) (row : Row) → Touch history s row → f p s ≡ counts history w s
    counted s row touch = counts_at-same history w c (events.Write xid items) w p s row lawful k.runs refl touch ∙ below (runs_as history w s.xid.0) refl
      where
        below : (t : Bool) → runs_as history w s.xid.0 ≡ t → (is_committed history s.xid.0 || (t && p s.command)) ≡ (is_committed history s.xid.0 || t)
        below false is' = refl
        below true is' =
            let small : s.command ≤ c = any_with (is_of s.command) (λ l. l.command ≤ c) (s.command ≤ c) (λ l here short. omega (arith, eqb-true l.command s.command here, short)) (lists_of history w) (touch.written w is') low in
            ap (λ t. is_committed history s.xid.0 || t) (down s.command c small pc)

    full : (v : Version) → OfStamps (Touch history) v → seen_by (f p) v ≡ sees history w v
    full v touch = seen-same (f p) (counts history w) v (stamps-weaker (Touch history) (λ s row. f p s ≡ counts history w s) counted v touch)

    account : (item : Item) (o : Option Row) → old_row history w item ≡ o → Adds m x item → KeepsMask m o item → SomeOf (Shows m (f p) x) vs
    account (forms.Put new) (Some old) is' adds it =
        let same_new : new ≡ adds.0 = cc in
        some_with (λ v. (sees history w v ≡ true) × (v.row ≡ old)) (OfStamps (Touch history)) (Shows m (f p) x) (λ v h touch. (full v touch ∙ h.0, ap m.mask h.1 ∙ it ∙ ap m.mask same_new ∙ adds.2)) vs k.touched
        (find_some (λ row. same_key (key_of row) (key_of new)) (sees history w) old vs is')
    account item (Some old) is' adds it = absurd it
    account item None is' adds it = absurd it

    back : SomeOf (Shows m (f p) x) written → SomeOf (Shows m (f p) x) vs
    back = write_back m x (f p) history w stamp is (SomeOf (Shows m (f p) x) vs) items vs
        (every-weaker (λ item. IfSome (added_row item) (For item) × IfSome (old_row history w item) (For item)) (λ item. Adds m x item → SomeOf (Shows m (f p) x) vs)
        (λ item h adds. account item (old_row history w item) refl adds ((subst (λ o. IfSome o (For item)) adds.1 h.0) (subst m.concerns (sym adds.2) cx))) items leaves) (λ some. some)

    Named : Item → Row → Type 0
    Named item row = (old_row history w item ≡ Some row) × For item row

    named : (item : Item) (o : Option Row) → old_row history w item ≡ o → IfSome o (For item) → IfSome o (Named item)
    named item None is' held_for = tt
    named item (Some row) is' held_for = (is', held_for)

    adds_it : (item : Item) (v : Version) → Shows m (f p) x v → Named item v.row → Adds m x item
    adds_it item v sh n = of item (subst (λ o. KeepsMask m o item) n.0 (n.1 (subst m.concerns (sym sh.1) cx)))
      where
        of : (i : Item) → KeepsMask m (Some v.row) i → Adds m x i
        of (forms.Put new) it = (new, refl, sym it ∙ sh.1)
        of i it = absurd it

    all_named : AllByRecursion (λ v. AllByRecursion (λ item. ends history w item v ≡ true → Named item v.row) items) vs
    all_named = every-swap (λ item v. ends history w item v ≡ true → Named item v.row) items vs
        (every-weaker (λ item. IfSome (added_row item) (For item) × IfSome (old_row history w item) (For item)) (λ item. AllByRecursion (λ v. ends history w item v ≡ true → Named item v.row) vs)
        (λ item h. ended_named history w (Named item) item k.one (named item (old_row history w item) refl h.1)) items leaves)

    forth : SomeOf (Shows m (f p) x) vs → SomeOf (Shows m (f p) x) written
    forth some = write_forth m x (f p) history w stamp is items vs keys
        (some_with (Shows m (f p) x) (λ v. AllByRecursion (λ item. ends history w item v ≡ true → Named item v.row) items) (Lasts m x (f p) history w items)
        (λ v sh names. (sh, every-weaker (λ item. ends history w item v ≡ true → Named item v.row) (λ item. ends history w item v ≡ true → Adds m x item) (λ item n ends'. adds_it item v sh (n ends')) items names)) vs all_named some)

-- where all that its backend did counts either way
write_full : (m : Masking) (history : List Entry) (w c : ℕ) (xid : Xid) (items : List Item) → IsLawful history (entry_of w c (events.Write xid items)) → Ordered history → AllByRecursion (λ l. l.command ≤ c) (lists_of history w)
    → (p q : ℕ → Bool) (x : Row) → IsDown p → IsDown q → p c ≡ true → q c ≡ true → ShowSame m x (counts_at (history ++ entry_of w c (events.Write xid items) ∷ []) w p) (versions_by history w c (events.Write xid items) (versions_of history)) (counts_at (history ++ entry_of w c (events.Write xid items) ∷ []) w q) (versions_by history w c (events.Write xid items) (versions_of history))
write_full m history w c xid items lawful k low p q x down_p down_q pc qc =
    counted_all m x (f p) (f q) written (stamps-write (λ s row. f p s ≡ f q s) (λ row. ⊤) (segment_of history) w stamp (λ row n. same_new) items vs (every (λ item. IfSome (added_row item) (λ row. ⊤) × AllByRecursion (λ v. ends history w item v ≡ true → ⊤) vs) (λ item. (any_row (added_row item), every (λ v. ends history w item v ≡ true → ⊤) (λ v is. tt) vs)) items)
    (every-weaker (OfStamps (Touch history)) (OfStamps (λ s row. f p s ≡ f q s)) (stamps-weaker (Touch history) (λ s row. f p s ≡ f q s) same_old) vs k.touched))
  where
    after : List Entry
    after = history ++ entry_of w c (events.Write xid items) ∷ []

    stamp : Stamp
    stamp = record { xid = xid; command = c }

    vs : List Version
    vs = versions_of history

    written : List Version
    written = versions_by history w c (events.Write xid items) (versions_of history)

    f : (ℕ → Bool) → Stamp → Bool
    f q = counts_at after w q

    any_row : (o : Option Row) → IfSome o (λ row. ⊤)
    any_row None = tt
    any_row (Some row) = tt

    same_new : f p stamp ≡ f q stamp
    same_new = ap (λ t. is_committed after xid.0 || (runs_as after w xid.0 && t)) (pc ∙ sym qc)

    at_old : (r : ℕ → Bool) → IsDown r → r c ≡ true → (s : Stamp) (row : Row) → Touch history s row → f r s ≡ counts history w s
    at_old r down rc s row touch = counts_at-same history w c (events.Write xid items) w r s row lawful k.runs refl touch ∙ below (runs_as history w s.xid.0) refl
      where
        below : (t : Bool) → runs_as history w s.xid.0 ≡ t → (is_committed history s.xid.0 || (t && r s.command)) ≡ (is_committed history s.xid.0 || t)
        below false is' = refl
        below true is' =
            let small : s.command ≤ c = any_with (is_of s.command) (λ l. l.command ≤ c) (s.command ≤ c) (λ l here short. omega (arith, eqb-true l.command s.command here, short)) (lists_of history w) (touch.written w is') low in
            ap (λ t. is_committed history s.xid.0 || t) (down s.command c small rc)

    same_old : (s : Stamp) (row : Row) → Touch history s row → f p s ≡ f q s
    same_old s row touch = at_old p down_p pc s row touch ∙ sym (at_old q down_q qc s row touch)

steady_write : (m : Masking) (n : Marking) (history : List Entry) (w c : ℕ) (xid : Xid) (items : List Item) → IsLawful history (entry_of w c (events.Write xid items)) → Ordered history → are_distinct_keys (flat_map changed_key items) ≡ true
    → AllByRecursion (λ item. IfSome (added_row item) (IsFor m n history w c xid items item) × IfSome (old_row history w item) (IsFor m n history w c xid items item)) items → AllByRecursion (λ l. l.command ≤ c) (lists_of history w)
    → (a : ℕ) (p q : ℕ → Bool) (x : Row) → m.concerns x → IsDown p → IsDown q → IsLess q p → HasNone n (history ++ entry_of w c (events.Write xid items) ∷ []) a p q → ShowSame m x (counts_at history a p) (versions_of history) (counts_at history a q) (versions_of history)
    → ShowSame m x (counts_at (history ++ entry_of w c (events.Write xid items) ∷ []) a p) (versions_by history w c (events.Write xid items) (versions_of history)) (counts_at (history ++ entry_of w c (events.Write xid items) ∷ []) a q) (versions_by history w c (events.Write xid items) (versions_of history))
steady_write m n history w c xid items lawful k keys guarded low a p q x cx down_p down_q less none was = by_run (runs_as after a xid.0) refl
  where
    after : List Entry
    after = history ++ entry_of w c (events.Write xid items) ∷ []

    stamp : Stamp
    stamp = record { xid = xid; command = c }

    vs : List Version
    vs = versions_of history

    written : List Version
    written = versions_by history w c (events.Write xid items) (versions_of history)

    f : (ℕ → Bool) → Stamp → Bool
    f r = counts_at after a r

    well : Runs after
    well = Runs-more history (entry_of w c (events.Write xid items)) k.runs lawful

    runs : runs_as after w xid.0 ≡ true
    runs = ap (has_xid xid.0) (running-own history (entry_of w c (events.Write xid items)) w (eq-eqb w w refl)) ∙ eq-eqb xid.0 xid.0 refl

    unseen : is_visible (running_transaction_of after w) ≡ false
    unseen = ap is_visible (running-own history (entry_of w c (events.Write xid items)) w (eq-eqb w w refl)) ∙ begun_unseen (running_transaction_of history w) lawful.0
      where
        begun_unseen : (o : Option Running) → is_visible o ≡ false → is_visible (running_by c (events.Write xid items) o) ≡ false
        begun_unseen None is = refl
        begun_unseen (Some t) is = is

    uncommitted : is_committed after xid.0 ≡ false
    uncommitted = well.hidden w xid.0 runs unseen

    stamp_is : (r : ℕ → Bool) → f r stamp ≡ (runs_as after a xid.0 && r c)
    stamp_is r = ap (λ t. t || (runs_as after a xid.0 && r c)) uncommitted

    hidden : (r : ℕ → Bool) → (runs_as after a xid.0 && r c) ≡ false → ShowSame m x (f r) written (counts_at history a r) vs
    hidden r is = write_unseen m history w c xid items lawful k a r x (stamp_is r ∙ is)

    join : ShowSame m x (f p) written (counts_at history a p) vs → ShowSame m x (f q) written (counts_at history a q) vs → ShowSame m x (f p) written (f q) written
    join one two = show-trans m x (f p) (counts_at history a p) (f q) written vs written one (show-trans m x (counts_at history a p) (counts_at history a q) (f q) vs vs written was (show-sym m x (f q) (counts_at history a q) written vs two))

    not_less : p c ≡ false → q c ≡ false
    not_less is = false_from_ne_true (q c) (λ passes. both_ways _ is (less c passes))

    For : Item → Row → Type 0
    For item = IsFor m n history w c xid items item

    kept_by : w ≡ a → p c ≡ true → q c ≡ false → (item : Item) (row : Row) → For item row → LeavesMask m history w item row
    kept_by one pc qc item row for concerned = of (for concerned)
      where
        of : n.has after w c ⊎ KeepsMask m (old_row history w item) item → KeepsMask m (old_row history w item) item
        of (inl marked) = absurd (none c pc qc (subst (λ o. n.has after o c) one marked))
        of (inr it) = it

    seen : w ≡ a → (t : Bool) → p c ≡ t → (u : Bool) → q c ≡ u → ShowSame m x (f p) written (f q) written
    seen one false pc u qc = join (hidden p (ap (λ t. runs_as after a xid.0 && t) pc ∙ and_right (runs_as after a xid.0) false refl)) (hidden q (ap (λ t. runs_as after a xid.0 && t) (not_less pc) ∙ and_right (runs_as after a xid.0) false refl))
    seen one true pc true qc = subst (λ o. ShowSame m x (counts_at after o p) written (counts_at after o q) written) one (write_full m history w c xid items lawful k low p q x down_p down_q pc qc)
    seen one true pc false qc = join
        (subst (λ o. ShowSame m x (counts_at after o p) written (counts_at history o p) vs) one (write_leaves m history w c xid items lawful k keys
        (every-weaker (λ item. IfSome (added_row item) (For item) × IfSome (old_row history w item) (For item)) (λ item. IfSome (added_row item) (LeavesMask m history w item) × IfSome (old_row history w item) (LeavesMask m history w item))
        (λ item h. (if_some (For item) (LeavesMask m history w item) (kept_by one pc qc item) (added_row item) h.0, if_some (For item) (LeavesMask m history w item) (kept_by one pc qc item) (old_row history w item) h.1)) items guarded)
        low p x cx down_p pc (subst (λ o. counts_at after o p stamp ≡ true) (sym one) (stamp_is p ∙ and_from (runs_as after a xid.0) (p c) (subst (λ o. runs_as after o xid.0 ≡ true) one runs) pc))))
        (hidden q (ap (λ t. runs_as after a xid.0 && t) qc ∙ and_right (runs_as after a xid.0) false refl))

    by_run : (t : Bool) → runs_as after a xid.0 ≡ t → ShowSame m x (f p) written (f q) written
    by_run false is = join (hidden p (ap (λ t. t && p c) is)) (hidden q (ap (λ t. t && q c) is))
    by_run true is = seen (well.one w a xid.0 runs is) (p c) refl (q c) refl

-- what is taken back
gone_shows : (m : Masking) (x : Row) (g h : Stamp → Bool) (back : Stamp → Bool) (vs : List Version) → AllByRecursion (OfStamps (λ s row. back s ≡ false → g s ≡ h s)) vs → ((s : Stamp) → back s ≡ true → h s ≡ false)
    → ShowSame m x g (map (end_back back) (filter (λ v. not (back v.by)) vs)) h vs
gone_shows m x g h back vs all none = (back_to, forth)
  where
    T : Stamp → Row → Type 0
    T s row = back s ≡ false → g s ≡ h s

    keep : Version → Bool
    keep v = not (back v.by)

    Kept : Version → Type 0
    Kept v = (keep v ≡ true) × Shows m g x (end_back back v)

    back_to : SomeOf (Shows m g x) (map (end_back back) (filter keep vs)) → SomeOf (Shows m h x) vs
    back_to some = some_with Kept (OfStamps T) (Shows m h x) (λ v sh held. (gone_seen T g h back v (λ s row same is. same is) none held sh.0 sh.1.0, sh.1.1)) vs all
        (some-unfilter (λ v. Shows m g x (end_back back v)) keep vs (some-unmap (Shows m g x) (end_back back) (filter keep vs) some))

    free : (o : Option Stamp) → IfSome o (λ s. back s ≡ false → g s ≡ h s) → not (option_map_or h o false) ≡ true → not (option_map_or g (elim (option_map_or back o false) [ true ↦ None | false ↦ o ]) false) ≡ true
    free None held unended = refl
    free (Some s) held unended = by_test (back s) refl
      where
        by_test : (t : Bool) → back s ≡ t → not (option_map_or g (elim t [ true ↦ None | false ↦ Some s ]) false) ≡ true
        by_test true is = refl
        by_test false is = ap not (held is) ∙ unended

    stays_seen : (v : Version) → Shows m h x v → OfStamps T v → Kept v
    stays_seen v sh held =
        let parts = and_parts (h v.by) (not (option_map_or h v.ended false)) sh.0 in
        let own : back v.by ≡ false = false_from_ne_true (back v.by) (λ is. both_ways _ (none v.by is) parts.0) in
        (ap not own, (and_from (g v.by) (not (option_map_or g (elim (option_map_or back v.ended false) [ true ↦ None | false ↦ v.ended ]) false)) (held.0 own ∙ parts.0) (free v.ended held.1 parts.1), sh.1))

    forth : SomeOf (Shows m h x) vs → SomeOf (Shows m g x) (map (end_back back) (filter keep vs))
    forth some = some-map (Shows m g x) (end_back back) (filter keep vs) (some-filter (λ v. Shows m g x (end_back back v)) keep vs (some_with (Shows m h x) (OfStamps T) Kept stays_seen vs all some))

-- a test of commands, where a backend's own are taken back from a number on
abbrev pub passing : Bool → (ℕ → Bool) → ℕ → ℕ → Bool
passing own p from i = elim own [ true ↦ before_command p from i | false ↦ p i ]

pub gone_leaves : (m : Masking) (history : List Entry) (w c from : ℕ) → IsLawful history (entry_of w c (events.Gone from)) → Ordered history → (a : ℕ) (p : ℕ → Bool) (x : Row) → IsDown p
    → ShowSame m x (counts_at (history ++ entry_of w c (events.Gone from) ∷ []) a p) (versions_by history w c (events.Gone from) (versions_of history)) (counts_at history a (passing (w == a) p from)) (versions_of history)
gone_leaves m history w c from lawful k a p x down = subst (λ r. ShowSame m x (f p) left (counts_at history a r) vs) seen.is
    (gone_shows m x (f p) (counts_at history a seen.passes) (is_back history w from) vs
    (every-weaker (OfStamps (Touch history)) (OfStamps (λ s row. is_back history w from s ≡ false → f p s ≡ counts_at history a seen.passes s)) (stamps-weaker (Touch history) (λ s row. is_back history w from s ≡ false → f p s ≡ counts_at history a seen.passes s) seen.same) vs k.touched) seen.none)
  where
    vs : List Version
    vs = versions_of history

    left : List Version
    left = versions_by history w c (events.Gone from) (versions_of history)

    f : (ℕ → Bool) → Stamp → Bool
    f q = counts_at (history ++ entry_of w c (events.Gone from) ∷ []) a q

    seen : GoneView history w c from a p
    seen = gone_view history w c from a p lawful k.runs down

steady_visible : (m : Masking) (history : List Entry) (w c : ℕ) (xid : Xid) → IsLawful history (entry_of w c (events.Visible xid)) → Ordered history → (a : ℕ) (p q : ℕ → Bool) (x : Row) → ShowSame m x (counts_at history a p) (versions_of history) (counts_at history a q) (versions_of history)
    → ShowSame m x (counts_at (history ++ entry_of w c (events.Visible xid) ∷ []) a p) (versions_of history) (counts_at (history ++ entry_of w c (events.Visible xid) ∷ []) a q) (versions_of history)
steady_visible m history w c xid lawful k a p q x was = by_owner (w == a) refl
  where
    after : List Entry
    after = history ++ entry_of w c (events.Visible xid) ∷ []

    vs : List Version
    vs = versions_of history

    f : (ℕ → Bool) → Stamp → Bool
    f r = counts_at after a r

    -- its own: no test counts any more
    own : w ≡ a → ShowSame m x (f p) vs (f q) vs
    own one = counted_all m x (f p) (f q) vs (every-weaker (OfStamps (Touch history)) (OfStamps (λ s row. f p s ≡ f q s)) (stamps-weaker (Touch history) (λ s row. f p s ≡ f q s) (λ s row touch. as_w p s row touch ∙ sym (as_w q s row touch))) vs k.touched)
      where
        not_own : (s : Stamp) → (xid.0 == s.xid.0) ≡ false → runs_as history a s.xid.0 ≡ false
        not_own s differs = false_from_ne_true (runs_as history a s.xid.0) (λ runs. both_ways _ differs (eq-eqb xid.0 s.xid.0 (one_xid xid.0 s.xid.0 (running_transaction_of history w) lawful.1 (subst (λ o. runs_as history o s.xid.0 ≡ true) (sym one) runs))))

        as_w : (r : ℕ → Bool) (s : Stamp) (row : Row) → Touch history s row → f r s ≡ counts_at history w every_command s
        as_w r s row touch = visible_as history w c xid a r lawful k.runs s row touch (not_own s)

    -- another's: on the relation one of the two has changed nothing
    idle : (w == a) ≡ false → list_any (changes_on a (main_rel x)) (held_of history) ≡ false → ShowSame m x (f p) vs (f q) vs
    idle other free = counted_same m x (f p) (f q) vs (every-weaker (OfStamps (Guard history)) (λ v. main_rel v.row ≡ main_rel x → OfStamps (λ s row. f p s ≡ f q s) v)
        (λ v guards' same. of_stamps v guards' same) vs k.guards)
      where
        not_run : (s : Stamp) (row : Row) → main_rel row ≡ main_rel x → Guard history s row → runs_as after a s.xid.0 ≡ false
        not_run s row same guard = ap (has_xid s.xid.0) (running-other history (entry_of w c (events.Visible xid)) a other)
            ∙ false_from_ne_true (runs_as history a s.xid.0) (λ runs. both_ways _ free (subst (λ rel. MayChange (held_of history) a rel) same (guard_changes (held_of history) a s.command (main_rel row) (guard a runs))))

        alike : (s : Stamp) (row : Row) → main_rel row ≡ main_rel x → Guard history s row → f p s ≡ f q s
        alike s row same guard = ap (λ t. is_committed after s.xid.0 || (t && p s.command)) (not_run s row same guard) ∙ sym (ap (λ t. is_committed after s.xid.0 || (t && q s.command)) (not_run s row same guard))

        of_stamps : (v : Version) → OfStamps (Guard history) v → main_rel v.row ≡ main_rel x → OfStamps (λ s row. f p s ≡ f q s) v
        of_stamps v guards' same = (alike v.by v.row same guards'.0, if_some (λ s. Guard history s v.row) (λ s. f p s ≡ f q s) (λ s guard. alike s v.row same guard) v.ended guards'.1)

    busy : (w == a) ≡ false → MayChange (held_of history) a (main_rel x) → ShowSame m x (f p) vs (f q) vs
    busy other may =
        show-trans m x (f p) (counts_at history a p) (f q) vs vs vs (kept p)
        (show-trans m x (counts_at history a p) (counts_at history a q) (f q) vs vs vs was (show-sym m x (f q) (counts_at history a q) vs vs (kept q)))
      where
        unmarked : (s : Stamp) (row : Row) → main_rel row ≡ main_rel x → Guard history s row → (xid.0 == s.xid.0) ≡ false
        unmarked s row same guard = false_from_ne_true (xid.0 == s.xid.0) (λ is.
            let theirs : MayChange (held_of history) w (main_rel x) = subst (λ rel. MayChange (held_of history) w rel) same (guard_changes (held_of history) w s.command (main_rel row) (guard w (subst (λ y. runs_as history w y ≡ true) (eqb-true xid.0 s.xid.0 is) lawful.1))) in
            both_ways _ other (eq-eqb w a (one_changer (held_of history) w a (main_rel x) k.locks.agree theirs may)))

        kept : (r : ℕ → Bool) → ShowSame m x (f r) vs (counts_at history a r) vs
        kept r = counted_same m x (f r) (counts_at history a r) vs (every-weaker (λ v. OfStamps (Touch history) v × OfStamps (Guard history) v) (λ v. main_rel v.row ≡ main_rel x → OfStamps (λ s row. f r s ≡ counts_at history a r s) v)
            (λ v h same. (alike v.by v.row same h.0.0 h.1.0, of_ended v.row same v.ended h.0.1 h.1.1)) vs (every-both (OfStamps (Touch history)) (OfStamps (Guard history)) vs k.touched k.guards))
          where
            alike : (s : Stamp) (row : Row) → main_rel row ≡ main_rel x → Touch history s row → Guard history s row → f r s ≡ counts_at history a r s
            alike s row same touch guard = counts_at-same history w c (events.Visible xid) a r s row lawful k.runs (unmarked s row same guard) touch

            of_ended : (row : Row) → main_rel row ≡ main_rel x → (o : Option Stamp) → IfSome o (λ s. Touch history s row) → IfSome o (λ s. Guard history s row) → IfSome o (λ s. f r s ≡ counts_at history a r s)
            of_ended row same None touch guard = tt
            of_ended row same (Some s) touch guard = alike s row same touch guard

    by_held : (w == a) ≡ false → (t : Bool) → list_any (changes_on a (main_rel x)) (held_of history) ≡ t → ShowSame m x (f p) vs (f q) vs
    by_held other true may = busy other may
    by_held other false free = idle other free

    by_owner : (t : Bool) → (w == a) ≡ t → ShowSame m x (f p) vs (f q) vs
    by_owner true is = own (eqb-true w a is)
    by_owner false other = by_held other (list_any (changes_on a (main_rel x)) (held_of history)) refl

-- an entry that takes locks
taken_leaves : (m : Masking) (from : ℕ) (history : List Entry) (w c : ℕ) (event : Event) → TakesFrom from history w c event → IsLawful history (entry_of w c event) → Ordered history → (a : ℕ) (p : ℕ → Bool) (x : Row)
    → ShowSame m x (counts_at (history ++ entry_of w c event ∷ []) a p) (versions_of history) (counts_at history a (passing (w == a) p from)) (versions_of history)
taken_leaves m from history w c event takes lawful k a p x = show-trans m x (counts_at after a p) (counts_at history a p) (counts_at history a (passing (w == a) p from)) vs vs vs
    (counted_kept m x history w c event a p lawful k.runs k.touched takes.hidden) (by_owner (w == a) refl)
  where
    after : List Entry
    after = history ++ entry_of w c event ∷ []

    vs : List Version
    vs = versions_of history

    Same : (ℕ → Bool) → Type 0
    Same r = ShowSame m x (counts_at history a p) vs (counts_at history a r) vs

    -- its own: what stands is of commands below
    by_owner : (t : Bool) → (w == a) ≡ t → Same (passing t p from)
    by_owner true is = counted_all m x (counts_at history a p) (counts_at history a (before_command p from)) vs (every-weaker (OfStamps (Touch history)) (OfStamps (λ s row. counts_at history a p s ≡ counts_at history a (before_command p from) s))
        (stamps-weaker (Touch history) (λ s row. counts_at history a p s ≡ counts_at history a (before_command p from) s) (taken_counts from history w c event takes a (eqb-true w a is) p)) vs k.touched)
    by_owner false other = ((λ s. s), λ s. s)

-- an entry that changes no row and makes nothing visible
steady_quiet : (m : Masking) (history : List Entry) (w c : ℕ) (event : Event) → IsLawful history (entry_of w c event) → Ordered history → ((y : ℕ) → makes_visible y event ≡ false) → (a : ℕ) (p q : ℕ → Bool) (x : Row) → ShowSame m x (counts_at history a p) (versions_of history) (counts_at history a q) (versions_of history)
    → ShowSame m x (counts_at (history ++ entry_of w c event ∷ []) a p) (versions_of history) (counts_at (history ++ entry_of w c event ∷ []) a q) (versions_of history)
steady_quiet m history w c event lawful k hidden a p q x was =
    show-trans m x (counts_at after a p) (counts_at history a p) (counts_at after a q) vs vs vs (kept p)
    (show-trans m x (counts_at history a p) (counts_at history a q) (counts_at after a q) vs vs vs was (show-sym m x (counts_at after a q) (counts_at history a q) vs vs (kept q)))
  where
    after : List Entry
    after = history ++ entry_of w c event ∷ []

    vs : List Version
    vs = versions_of history

    kept : (r : ℕ → Bool) → ShowSame m x (counts_at after a r) vs (counts_at history a r) vs
    kept r = counted_kept m x history w c event a r lawful k.runs k.touched hidden

pub passing_down : (own : Bool) (p : ℕ → Bool) (from : ℕ) → IsDown p → IsDown (passing own p from)
passing_down true p from down = before_down p from down
passing_down false p from down = down

passing_less : (own : Bool) (p q : ℕ → Bool) (from : ℕ) → IsLess q p → IsLess (passing own q from) (passing own p from)
passing_less true p q from less i is = let parts = and_parts (q i) (not (nat_le from i)) is in and_from (p i) (not (nat_le from i)) (less i parts.0) parts.1
passing_less false p q from less i is = less i is

-- what passes before, passes after and isn't taken away
passing_parts : (own : Bool) (p q : ℕ → Bool) (from i : ℕ) → passing own p from i ≡ true → passing own q from i ≡ false → (p i ≡ true) × (q i ≡ false) × (own ≡ true → nat_le from i ≡ false)
passing_parts true p q from i is not' =
    let parts = and_parts (p i) (not (nat_le from i)) is in
    (parts.0, false_from_ne_true (q i) (λ passes. both_ways _ not' (and_from (q i) (not (nat_le from i)) passes parts.1)), λ own. not-true (nat_le from i) parts.1)
passing_parts false p q from i is not' = (is, not', λ own. absurd (cc))

-- after one more entry that may come
Steady-more : (m : Masking) (n : Marking) → Masks m n → (history : List Entry) (e : Entry) → Ordered history → MayComeNext history e → Steady m n history → Steady m n (history ++ e ∷ [])
Steady-more m n masks history e k comes steady a p q x cx down_p down_q less none =
    subst (λ vs. ShowSame m x (counts_at (history ++ e ∷ []) a p) vs (counts_at (history ++ e ∷ []) a q) vs) (sym (versions-more history e))
    (of e.event (lawful_of history e k comes) (guards_lawful history e.backend e.command e.event comes.follows.event comes.orderly k (early_at history e k comes.follows.life)) comes none)
  where
    w : ℕ
    w = e.backend

    c : ℕ
    c = e.command

    begun : Begun c (running_transaction_of history w) (lists_of history w)
    begun = begun_at history e comes.follows.life k.lives

    Was : (ℕ → Bool) → (ℕ → Bool) → Type 0
    Was r t = ShowSame m x (counts_at history a r) (versions_of history) (counts_at history a t) (versions_of history)

    plain : (event : Event) → MayComeNext history (entry_of w c event) → HasNone n (history ++ entry_of w c event ∷ []) a p q → ((i : ℕ) → (w == a) ≡ true → SparesCommand c event i) → Was p q
    plain event may none' spares = steady a p q x cx down_p down_q less (λ i pi qi had. none' i pi qi (n.kept history (entry_of w c event) a i k may (spares i) had))

    cut : (event : Event) (from : ℕ) → MayComeNext history (entry_of w c event) → HasNone n (history ++ entry_of w c event ∷ []) a p q → ((i : ℕ) → nat_le from i ≡ false → SparesCommand c event i) → Was (passing (w == a) p from) (passing (w == a) q from)
    cut event from may none' spares = steady a (passing (w == a) p from) (passing (w == a) q from) x cx (passing_down (w == a) p from down_p) (passing_down (w == a) q from down_q) (passing_less (w == a) p q from less)
        (λ i pi qi had. let parts = passing_parts (w == a) p q from i pi qi in none' i parts.0 parts.1 (n.kept history (entry_of w c event) a i k may (λ own. spares i (parts.2 own)) had))

    join : (event : Event) (ws : List Version) (from : ℕ) → ShowSame m x (counts_at (history ++ entry_of w c event ∷ []) a p) ws (counts_at history a (passing (w == a) p from)) (versions_of history) → ShowSame m x (counts_at (history ++ entry_of w c event ∷ []) a q) ws (counts_at history a (passing (w == a) q from)) (versions_of history)
        → Was (passing (w == a) p from) (passing (w == a) q from) → ShowSame m x (counts_at (history ++ entry_of w c event ∷ []) a p) ws (counts_at (history ++ entry_of w c event ∷ []) a q) ws
    join event ws from one two was = show-trans m x (counts_at (history ++ entry_of w c event ∷ []) a p) (counts_at history a (passing (w == a) p from)) (counts_at (history ++ entry_of w c event ∷ []) a q) ws (versions_of history) ws one
        (show-trans m x (counts_at history a (passing (w == a) p from)) (counts_at history a (passing (w == a) q from)) (counts_at (history ++ entry_of w c event ∷ []) a q) (versions_of history) (versions_of history) ws was
        (show-sym m x (counts_at (history ++ entry_of w c event ∷ []) a q) (counts_at history a (passing (w == a) q from)) ws (versions_of history) two))

    of : (event : Event) → IsLawful history (entry_of w c event) → GuardsLawfully history w c event → MayComeNext history (entry_of w c event) → HasNone n (history ++ entry_of w c event ∷ []) a p q
        → ShowSame m x (counts_at (history ++ entry_of w c event ∷ []) a p) (versions_by history w c event (versions_of history)) (counts_at (history ++ entry_of w c event ∷ []) a q) (versions_by history w c event (versions_of history))
    of (events.Write xid items) lawful guarding may none' =
        steady_write m n history w c xid items lawful k may.follows.event.keys (masks history w c xid items k may) begun.low a p q x cx down_p down_q less none' (plain (events.Write xid items) may none' (λ i own. tt))
    of (events.Gone from) lawful guarding may none' = join (events.Gone from) (versions_by history w c (events.Gone from) (versions_of history)) from (gone_leaves m history w c from lawful k a p x down_p) (gone_leaves m history w c from lawful k a q x down_q) (cut (events.Gone from) from may none' (λ i below. below))
    of (events.Visible xid) lawful guarding may none' = steady_visible m history w c xid lawful k a p q x (plain (events.Visible xid) may none' (λ i own. tt))
    of (events.Release from) lawful guarding may none' =
        let takes = release_takes history w c from lawful guarding k in
        join (events.Release from) (versions_of history) from (taken_leaves m from history w c (events.Release from) takes lawful k a p x) (taken_leaves m from history w c (events.Release from) takes lawful k a q x) (cut (events.Release from) from may none' (λ i below. below))
    of (events.Unlock rel mode) lawful guarding may none' =
        let takes = unlock_takes history w c rel mode guarding in
        join (events.Unlock rel mode) (versions_of history) c (taken_leaves m c history w c (events.Unlock rel mode) takes lawful k a p x) (taken_leaves m c history w c (events.Unlock rel mode) takes lawful k a q x) (cut (events.Unlock rel mode) c may none' (λ i below. below))
    of event lawful guarding may none' = steady_quiet m history w c event lawful k (λ y. refl) a p q x (plain event may none' (λ i own. tt))

Steady-start : (m : Masking) (n : Marking) → Steady m n []
Steady-start m n a p q x cx down_p down_q less none = ((λ s. s), λ s. s)

-- it holds of each sound history
pub sound_steady : (m : Masking) (n : Marking) → Masks m n → (history : List Entry) → IsSound history → Steady m n history
sound_steady m n masks history sound = (each-keeps MayComeNext (λ h. Ordered h × Steady m n h) (Ordered-start, Steady-start m n) (λ before e both comes. (Ordered-more before e both.0 comes, Steady-more m n masks before e both.0 comes both.1)) history sound).1
