-- A row that is taken away: each version of it is ended, before that or by it. So it stays unless that is taken back, and whoever counts it doesn't see the row. So it is with the own row of a relation that is dropped.
use Rattle.std.proofs.Common.{◌≡◌, ◌≤◌, ◌<◌, ◌∙◌, ◌⊎◌, inl, inr, ℕ, Bool, true, false, not, Option, Some, None, List, [], ◌∷◌, ◌++◌, ◌+◌, refl, sym, ap, subst, map, filter, fold, length, arith}
use Rattle.std.specs.Prelude.{⊤}
use Rattle.std.specs.List.{AllByRecursion, list_any, flat_map}
use Rattle.std.specs.Option.{option_map_or, IfSome}
use Rattle.std.proofs.lemmas.Bool.{both_ways, or_cases, or_left, and_from}
use Rattle.base_types.specs.declared.ids.Xid.{Xid}
use Rattle.base_types.specs.declared.row.Row.TheVariants as rows
use Rattle.base_types.specs.declared.row_key.RowKey.{RowKey}
use Rattle.base_types.specs.declared.row_key.RowKey.TheVariants as keys
use Rattle.base_types.specs.RowKeys.{key_of, same_key, are_distinct_keys}
use Rattle.row_visibility.specs.declared.version.Version.{Version}
use Rattle.row_visibility.specs.declared.version.Stamp.{Stamp}
use Rattle.event_kinds.specs.declared.entry.Event.TheVariants as events
use Rattle.event_kinds.specs.declared.entry.Item.TheVariants as forms
use Rattle.history_model.specs.Versions.{versions_of, versions_by, change_by, end_by, ends, ended_key, version_of, added_row, is_back, end_back, counts, sees}
use Rattle.history_model.specs.Held.{granted_by, held_by, held_of}
use Rattle.history_model.specs.Drawn.{drawn_by, next_oid}
use Rattle.history_model.specs.Changing.{changed_key}
use Rattle.history_model.specs.Writes.{has_row}
use Rattle.history_model.specs.Orderly.{main_rel}
use Rattle.history_model.specs.Sound.{MayComeNext}
use Rattle.history_model.proofs.Reading.{versions_of-more as versions-more}
use Rattle.history_model.proofs.Every.{every-weaker, every, every-append, every-map, every-filter, every-both, every-swap, any-flat, SomeOf, some-weaker, from_some}
use Rattle.history_model.proofs.Asking.{oid_eq}
use Rattle.history_model.proofs.Exclude.{IsNew, all_granted_new, in_range}
use Rattle.history_model.proofs.Touched.{entry_of, OfStamps, Touch}
use Rattle.history_model.proofs.Guards.{key_refl, IsGuarded}
use Rattle.history_model.proofs.Lawful.{EndsOnce, IsLawful}
use Rattle.history_model.proofs.OneVersion.{distinct_split, differ_from, added_key}
use Rattle.history_model.proofs.Ordered.{Ordered, all_kept, lawful_of}
use Rattle.history_model.proofs.Reached.{next_rises}
use Rattle.history_model.proofs.Runs.{Runs}
use Rattle.cacheless.specs.Types.{Oid, Row, Entry, Event, Item}
use Rattle.cacheless.specs.TableWrites.{takes_relation}
use Rattle.cacheless.proofs.EndedFirst.{EndedFirst, ended_on, ended_back, ended_hidden, EndsIt, ends_unended, AllCount, ended_or_seen, guarded_counts}
use Rattle.cacheless.proofs.NumberedColumns.{Lasts, any_some, row_there}
use Rattle.cacheless.proofs.VersionsStay.{IsSpared}

-- each version of the row with this key is ended first
abbrev pub AreEnded : List Entry → RowKey → Stamp → List Version → Type 0
AreEnded history key s vs = AllByRecursion (λ v. key_of v.row ≡ key → EndedFirst history s v.ended) vs

-- such a row is seen
abbrev pub SeesRow : List Entry → ℕ → RowKey → Type 0
SeesRow history b key = SomeOf (λ v. (key_of v.row ≡ key) × (sees history b v ≡ true)) (versions_of history)

-- whoever counts the stamp that took it away doesn't see it
pub ended_unseen : (history : List Entry) (b : ℕ) (key : RowKey) (s : Stamp) → AreEnded history key s (versions_of history) → counts history b s ≡ true → SeesRow history b key → ⊥
ended_unseen history b key s ended counted =
    from_some (λ v. (key_of v.row ≡ key) × (sees history b v ≡ true)) ⊥ (versions_of history) (every-weaker (λ v. key_of v.row ≡ key → EndedFirst history s v.ended) (λ v. (key_of v.row ≡ key) × (sees history b v ≡ true) → ⊥)
    (λ v first h. ended_hidden history b s v counted (first h.0) h.1) (versions_of history) ended)

-- the relation is dropped by this stamp
pub record IsDropped (history : List Entry) (rel : Oid) (s : Stamp) : Type 0 where
  pub drawn : rel.0 < next_oid history
  pub ended : AreEnded history (keys.Class rel) s (versions_of history)

-- the relation's own row is seen
abbrev pub SeesClass : List Entry → ℕ → Oid → Type 0
SeesClass history b rel = SeesRow history b (keys.Class rel)

-- whoever counts the drop doesn't see the relation
pub dropped_unseen : (history : List Entry) (b : ℕ) (rel : Oid) (s : Stamp) → IsDropped history rel s → counts history b s ≡ true → SeesClass history b rel → ⊥
dropped_unseen history b rel s dropped counted = ended_unseen history b (keys.Class rel) s dropped.ended counted

-- what a change ends is there, if its backend sees it
pub ended_there : (history : List Entry) (b : ℕ) (item : Item) (key : RowKey) → ended_key item ≡ Some key → has_row history b key ≡ true → SomeOf (λ v. (key_of v.row ≡ key) × (ends history b item v ≡ true)) (versions_of history)
ended_there history b item key is has = some-weaker (λ v. (key_of v.row ≡ key) × (sees history b v ≡ true)) (λ v. (key_of v.row ≡ key) × (ends history b item v ≡ true))
    (λ v h. (h.0, and_from (option_map_or (same_key (key_of v.row)) (ended_key item) false) (sees history b v) (ap (λ o. option_map_or (same_key (key_of v.row)) o false) is ∙ ap (λ k. same_key k key) h.0 ∙ key_refl key) h.1)) (versions_of history) (row_there history b key has)

-- a change gives no row with the key
abbrev GivesNone : RowKey → Item → Type 0
GivesNone key item = IfSome (added_row item) (λ row. key_of row ≡ key → ⊥)

-- after changes that give no row with the key, E holds of the end of each version with it: of one of which it holds already, or that a change ends, where it holds of the write's stamp if any ends one
ended_written : (history : List Entry) (b : ℕ) (stamp : Stamp) (E : Option Stamp → Type 0) (key : RowKey) (items : List Item) (vs : List Version) → AllByRecursion (GivesNone key) items
    → AllByRecursion (λ v. key_of v.row ≡ key → (E v.ended ⊎ EndsIt history b items v) × AllByRecursion (λ item. ends history b item v ≡ true → E (Some stamp)) items) vs → AllByRecursion (λ v. key_of v.row ≡ key → E v.ended) (fold (change_by history b stamp) vs items)
ended_written history b stamp E key [] vs none ended = every-weaker (λ v. key_of v.row ≡ key → (E v.ended ⊎ ⊥) × ⊤) (λ v. key_of v.row ≡ key → E v.ended) (λ v h same. of v.ended (h same).0) vs ended
  where
    of : (o : Option Stamp) → E o ⊎ ⊥ → E o
    of o (inl is) = is
    of o (inr none') = absurd none'
ended_written history b stamp E key (item ∷ items) vs none ended =
    ended_written history b stamp E key items (change_by history b stamp vs item) none.1
    (every-append (Q items) (map change vs) (version_of stamp (added_row item)) (every-map (Q items) change vs (every-weaker (Q (item ∷ items)) (λ v. Q items (change v)) old vs ended)) (new (added_row item) none.0))
  where
    change : Version → Version
    change = end_by (ends history b item) stamp

    Q : List Item → Version → Type 0
    Q left v = key_of v.row ≡ key → (E v.ended ⊎ EndsIt history b left v) × AllByRecursion (λ i. ends history b i v ≡ true → E (Some stamp)) left

    old : (v : Version) → Q (item ∷ items) v → Q items (change v)
    old v q = by_test (ends history b item v) refl
      where
        rest : ends history b item v ≡ false → E v.ended ⊎ EndsIt history b (item ∷ items) v → E v.ended ⊎ EndsIt history b items v
        rest not' (inl is) = inl is
        rest not' (inr (inl here)) = absurd (both_ways _ not' here)
        rest not' (inr (inr later)) = inr later

        by_test : (t : Bool) → ends history b item v ≡ t → Q items (elim t as (λ x. Version) [ true ↦ record v { ended = Some stamp } | false ↦ v ])
        by_test true is = λ same. (inl ((q same).1.0 is), every (λ i. ends history b i (record v { ended = Some stamp }) ≡ true → E (Some stamp)) (λ i also. (q same).1.0 is) items)
        by_test false is = λ same. (rest is (q same).0, (q same).1.1)

    new : (o : Option Row) → IfSome o (λ row. key_of row ≡ key → ⊥) → AllByRecursion (Q items) (version_of stamp o)
    new None differs = tt
    new (Some row) differs = (λ same. absurd (differs same), tt)

all_of : {X Y : Type 0} (P : Y → Type 0) (f : X → List Y) (xs : List X) → AllByRecursion P (flat_map f xs) → AllByRecursion (λ x. AllByRecursion P (f x)) xs
all_of P f [] all = tt
all_of P f (x ∷ xs) all = let parts = split (f x) (flat_map f xs) all in (parts.0, all_of P f xs parts.1)
  where
    split : (ys zs : List _) → AllByRecursion P (ys ++ zs) → AllByRecursion P ys × AllByRecursion P zs
    split [] zs both = (tt, both)
    split (y ∷ ys) zs both = let rest = split ys zs both.1 in ((both.0, rest.0), rest.1)

-- a new relation has another oid
made_above : (history : List Entry) (b c : ℕ) (xid : Xid) (items : List Item) → MayComeNext history (entry_of b c (events.Write xid items)) → AllByRecursion (λ item. AllByRecursion (IsNew b (next_oid history) (next_oid history + length (flat_map drawn_by items))) (granted_by b c item)) items
made_above history b c xid items comes = all_of (IsNew b low high) (granted_by b c) items
    (all_granted_new b c low high items (subst (AllByRecursion (λ n. (low ≤ n) × (n < high))) (sym comes.follows.event.oids) (in_range low high low (length (flat_map drawn_by items)) (omega arith) (omega arith))))
  where
    low : ℕ
    low = next_oid history

    high : ℕ
    high = next_oid history + length (flat_map drawn_by items)

-- a change adds no row with the key
abbrev pub AddsNone : RowKey → Item → Type 0
AddsNone key (forms.Add row) = key_of row ≡ key → ⊥
AddsNone key item = ⊤

-- nor does a write
abbrev pub AddsNoneBy : RowKey → Event → Type 0
AddsNoneBy key (events.Write xid items) = AllByRecursion (AddsNone key) items
AddsNoneBy key event = ⊤

-- a write that adds no such row leaves one that is taken away
ended_by_write : (history : List Entry) (b c : ℕ) (xid : Xid) (items : List Item) (key : RowKey) (s : Stamp) → Ordered history → AllByRecursion (OfStamps (Lasts history)) (versions_of history) → MayComeNext history (entry_of b c (events.Write xid items)) → AllByRecursion (AddsNone key) items
    → AreEnded history key s (versions_of history) → AreEnded history key s (versions_by history b c (events.Write xid items) (versions_of history))
ended_by_write history b c xid items key s k lasts comes adds ended =
    ended_written history b stamp (EndedFirst history s) key items (versions_of history) added
    (every-weaker (λ v. Ended v × AllByRecursion (λ item. ends history b item v ≡ true → key_of v.row ≡ key → ⊥) items)
    (λ v. key_of v.row ≡ key → (EndedFirst history s v.ended ⊎ EndsIt history b items v) × AllByRecursion (λ item. ends history b item v ≡ true → EndedFirst history s (Some stamp)) items)
    (λ v h same. (
      inl (h.0 same),
      every-weaker (λ item. ends history b item v ≡ true → key_of v.row ≡ key → ⊥) (λ item. ends history b item v ≡ true → EndedFirst history s (Some stamp)) (λ item none is. absurd (none is same)) items h.1,
    )) (versions_of history)
    (every-both Ended (λ v. AllByRecursion (λ item. ends history b item v ≡ true → key_of v.row ≡ key → ⊥) items) (versions_of history) ended
    (every-swap (λ item v. ends history b item v ≡ true → key_of v.row ≡ key → ⊥) items (versions_of history) never)))
  where
    stamp : Stamp
    stamp = record { xid = xid; command = c }

    Ended : Version → Type 0
    Ended v = key_of v.row ≡ key → EndedFirst history s v.ended

    -- no change ends a version of it
    Never : Item → Type 0
    Never item = AllByRecursion (λ v. ends history b item v ≡ true → key_of v.row ≡ key → ⊥) (versions_of history)

    never : AllByRecursion Never items
    never = every-weaker (EndsOnce history b) Never (λ item one.
        every-weaker (λ v. (ends history b item v ≡ true → v.ended ≡ None) × Ended v) (λ v. ends history b item v ≡ true → key_of v.row ≡ key → ⊥)
        (λ v h is same. subst (EndedFirst history s) (h.0 is) (h.1 same)) (versions_of history)
        (every-both (λ v. ends history b item v ≡ true → v.ended ≡ None) Ended (versions_of history) (ends_unended history b item lasts one) ended)) items (lawful_of history (entry_of b c (events.Write xid items)) k comes).2

    There : Item → Type 0
    There item = IfSome (ended_key item) (λ key. has_row history b key ≡ true)

    gives_none : (item : Item) → Never item → There item → AddsNone key item → GivesNone key item
    gives_none (forms.Put row) none there new = λ same.
        from_some (λ v. (key_of v.row ≡ key_of row) × (ends history b (forms.Put row) v ≡ true)) ⊥ (versions_of history)
        (every-weaker (λ v. ends history b (forms.Put row) v ≡ true → key_of v.row ≡ key → ⊥) (λ v. (key_of v.row ≡ key_of row) × (ends history b (forms.Put row) v ≡ true) → ⊥) (λ v none' h. none' h.1 (h.0 ∙ same)) (versions_of history) none)
        (ended_there history b (forms.Put row) (key_of row) refl there)
    gives_none (forms.Add row) none there new = new
    gives_none item none there new = tt

    added : AllByRecursion (GivesNone key) items
    added = every-weaker (λ item. Never item × (There item × AddsNone key item)) (GivesNone key) (λ item h. gives_none item h.0 h.1.0 h.1.1) items
        (every-both Never (λ item. There item × AddsNone key item) items never (every-both There (AddsNone key) items (all_kept (has_row history b) ended_key items comes.follows.event.there) adds))

-- so does taking writes back, unless it takes that back
ended_gone : (history : List Entry) (b c from : ℕ) (key : RowKey) (s : Stamp) → Runs history → IsLawful history (entry_of b c (events.Gone from)) → is_back history b from s ≡ false → AreEnded history key s (versions_of history)
    → AreEnded (history ++ entry_of b c (events.Gone from) ∷ []) key s (versions_by history b c (events.Gone from) (versions_of history))
ended_gone history b c from key s r lawful spared ended =
    every-map (λ v. key_of v.row ≡ key → EndedFirst after s v.ended) (end_back back) (filter (λ v. not (back v.by)) (versions_of history))
    (every-filter (λ v. key_of v.row ≡ key → EndedFirst after s (end_back back v).ended) (λ v. not (back v.by)) (versions_of history)
    (every-weaker (λ v. key_of v.row ≡ key → EndedFirst history s v.ended) (λ v. not (back v.by) ≡ true → key_of v.row ≡ key → EndedFirst after s (end_back back v).ended) (λ v first kept same. ended_back history b c from s v.ended r lawful spared (first same)) (versions_of history) ended))
  where
    after : List Entry
    after = history ++ entry_of b c (events.Gone from) ∷ []

    back : Stamp → Bool
    back = is_back history b from

ended_still : (history : List Entry) (e : Entry) (key : RowKey) (s : Stamp) (vs : List Version) → AreEnded history key s vs → AreEnded (history ++ e ∷ []) key s vs
ended_still history e key s vs ended = every-weaker (λ v. key_of v.row ≡ key → EndedFirst history s v.ended) (λ v. key_of v.row ≡ key → EndedFirst (history ++ e ∷ []) s v.ended) (λ v first same. ended_on history e s v.ended (first same)) vs ended

ended_by : (history : List Entry) (b c : ℕ) (event : Event) (key : RowKey) (s : Stamp) → Ordered history → AllByRecursion (OfStamps (Lasts history)) (versions_of history) → MayComeNext history (entry_of b c event) → AddsNoneBy key event → IsSpared history b event s → AreEnded history key s (versions_of history)
    → AreEnded (history ++ entry_of b c event ∷ []) key s (versions_by history b c event (versions_of history))
ended_by history b c (events.Write xid items) key s k lasts comes adds spared ended =
    ended_still history (entry_of b c (events.Write xid items)) key s (versions_by history b c (events.Write xid items) (versions_of history)) (ended_by_write history b c xid items key s k lasts comes adds ended)
ended_by history b c (events.Gone from) key s k lasts comes adds spared ended = ended_gone history b c from key s k.runs (lawful_of history (entry_of b c (events.Gone from)) k comes) spared ended
ended_by history b c event key s k lasts comes adds spared ended = ended_still history (entry_of b c event) key s (versions_of history) ended

-- what is taken away stays so after an entry that adds no such row, unless that is taken back
pub ended_more : (history : List Entry) (e : Entry) (key : RowKey) (s : Stamp) → Ordered history → AllByRecursion (OfStamps (Lasts history)) (versions_of history) → MayComeNext history e → AddsNoneBy key e.event → IsSpared history e.backend e.event s
    → AreEnded history key s (versions_of history) → AreEnded (history ++ e ∷ []) key s (versions_of (history ++ e ∷ []))
ended_more history e key s k lasts comes adds spared ended = subst (AreEnded (history ++ e ∷ []) key s) (sym (versions-more history e)) (ended_by history e.backend e.command e.event key s k lasts comes adds spared ended)

-- the own row of a relation that is drawn no write adds
pub class_added : (history : List Entry) (b c : ℕ) (event : Event) (rel : Oid) → MayComeNext history (entry_of b c event) → rel.0 < next_oid history → AddsNoneBy (keys.Class rel) event
class_added history b c (events.Write xid items) rel comes drawn = every-weaker New (AddsNone (keys.Class rel)) of items (made_above history b c xid items comes)
  where
    New : Item → Type 0
    New item = AllByRecursion (IsNew b (next_oid history) (next_oid history + length (flat_map drawn_by items))) (granted_by b c item)

    of : (item : Item) → New item → AddsNone (keys.Class rel) item
    of (forms.Add (rows.Class oid own kind fill)) new = λ same. (let one : oid ≡ rel = cc in omega (arith, new.0.above, drawn, ap (λ o. o.0) one))
    of (forms.Add (rows.Att to num own col_type stat live)) new = λ same. absurd (cc)
    of (forms.Add (rows.Def oid to num word)) new = λ same. absurd (cc)
    of (forms.Add (rows.Ind index table state nums)) new = λ same. absurd (cc)
    of (forms.Add (rows.Con oid to own valid what)) new = λ same. absurd (cc)
    of (forms.Add (rows.Trg oid to own on)) new = λ same. absurd (cc)
    of item new = tt
class_added history b c event rel comes drawn = tt

-- what is dropped stays so, unless the drop is taken back
pub dropped_more : (history : List Entry) (e : Entry) (rel : Oid) (s : Stamp) → Ordered history → AllByRecursion (OfStamps (Lasts history)) (versions_of history) → MayComeNext history e → IsSpared history e.backend e.event s → IsDropped history rel s
    → IsDropped (history ++ e ∷ []) rel s
dropped_more history e rel s k lasts comes spared dropped = record {
  drawn = omega (arith, dropped.drawn, next_rises history e);
  ended = ended_more history e (keys.Class rel) s k lasts comes (class_added history e.backend e.command e.event rel comes dropped.drawn) spared dropped.ended;
}

-- a write that takes a row away gives none with its key
takes_gives_none : (key : RowKey) (takes : Item → Bool) → ((item : Item) → takes item ≡ true → item ≡ forms.Remove key) → (items : List Item) → are_distinct_keys (flat_map changed_key items) ≡ true → list_any takes items ≡ true → AllByRecursion (GivesNone key) items
takes_gives_none key takes is_taking [] distinct some = absurd (cc)
takes_gives_none key takes is_taking (item ∷ items) distinct some = of (or_cases (takes item) (list_any takes items) some) (takes_gives_none key takes is_taking items parts.1)
  where
    No : Item → Type 0
    No = GivesNone key

    parts : AllByRecursion (λ k. list_any (same_key k) (flat_map changed_key items) ≡ false) (changed_key item) × (are_distinct_keys (flat_map changed_key items) ≡ true)
    parts = distinct_split item (flat_map changed_key items) distinct

    others : (i : Item) → AllByRecursion (λ k. key ≡ k → ⊥) (changed_key i) → No i
    others (forms.Add row) differs = λ same. differs.0 (sym same)
    others (forms.Put row) differs = λ same. differs.0 (sym same)
    others i differs = tt

    is_key : (i : Item) → takes i ≡ true → changed_key i ≡ key ∷ []
    is_key i is = ap changed_key (is_taking i is)

    none_added : (i : Item) → takes i ≡ true → No i
    none_added i is = subst No (sym (is_taking i is)) tt

    here : (i : Item) → takes i ≡ true → AllByRecursion (λ k. list_any (same_key k) (flat_map changed_key items) ≡ false) (changed_key i) → AllByRecursion No items
    here i is split = every-weaker (λ j. AllByRecursion (λ k. key ≡ k → ⊥) (changed_key j)) No others items
        (differ_from key items (subst (AllByRecursion (λ k. list_any (same_key k) (flat_map changed_key items) ≡ false)) (is_key i is) split).0)

    among : (js : List Item) → list_any takes js ≡ true → list_any (same_key key) (flat_map changed_key js) ≡ true
    among js there = any-flat (same_key key) changed_key takes (λ j is. ap (list_any (same_key key)) (is_key j is) ∙ or_left (same_key key key) false (key_refl key)) js there

    later : list_any takes items ≡ true → (o : Option Row) → added_row item ≡ o → IfSome o (λ row. key_of row ≡ key → ⊥)
    later there None is = tt
    later there (Some row) is = λ same. both_ways _ (subst (λ k. list_any (same_key k) (flat_map changed_key items) ≡ false) same (added_key (λ k. list_any (same_key k) (flat_map changed_key items) ≡ false) item row is parts.0)) (among items there)

    of : (takes item ≡ true) ⊎ (list_any takes items ≡ true) → (list_any takes items ≡ true → AllByRecursion No items) → No item × AllByRecursion No items
    of (inl is) rest = (none_added item is, here item is parts.0)
    of (inr there) rest = (later there (added_row item) refl, rest there)

-- a write that takes a row of a relation away, and may change the relation's rows, ends each version of it
pub ended_new : (history : List Entry) (b c : ℕ) (xid : Xid) (items : List Item) (key : RowKey) (rel : Oid) (takes : Item → Bool) → ((row : Row) → key_of row ≡ key → main_rel row ≡ rel) → ((item : Item) → takes item ≡ true → item ≡ forms.Remove key)
    → Ordered history → AllByRecursion (OfStamps (Lasts history)) (versions_of history) → MayComeNext history (entry_of b c (events.Write xid items)) → list_any takes items ≡ true → IsGuarded (held_by b c (events.Write xid items) (held_of history)) b c rel
    → AreEnded (history ++ entry_of b c (events.Write xid items) ∷ []) key (record { xid = xid; command = c }) (versions_of (history ++ entry_of b c (events.Write xid items) ∷ []))
ended_new history b c xid items key rel takes main is_taking k lasts comes some guarded = subst (AreEnded after key stamp) (sym (versions-more history e))
    (ended_written history b stamp (EndedFirst after stamp) key items (versions_of history) (takes_gives_none key takes is_taking items comes.follows.event.keys some)
    (every-weaker (λ v. OfStamps (Touch history) v × (main_rel v.row ≡ rel → AllCount history b v))
    (λ v. key_of v.row ≡ key → (EndedFirst after stamp v.ended ⊎ EndsIt history b items v) × AllByRecursion (λ item. ends history b item v ≡ true → EndedFirst after stamp (Some stamp)) items)
    (λ v h same. (each v same (ended_or_seen history b c xid items k comes v h.0 (h.1 (main v.row same))), every (λ item. ends history b item v ≡ true → EndedFirst after stamp (Some stamp)) (λ item is. inr (refl, omega arith)) items)) (versions_of history)
    (every-both (OfStamps (Touch history)) (λ v. main_rel v.row ≡ rel → AllCount history b v) (versions_of history) k.touched (guarded_counts history b c xid items rel k lasts comes guarded))))
  where
    e : Entry
    e = entry_of b c (events.Write xid items)

    after : List Entry
    after = history ++ e ∷ []

    stamp : Stamp
    stamp = record { xid = xid; command = c }

    ends_it : (v : Version) → key_of v.row ≡ key → sees history b v ≡ true → (item : Item) → takes item ≡ true → ends history b item v ≡ true
    ends_it v same seen item is = subst (λ i. ends history b i v ≡ true) (sym (is_taking item is)) (and_from (same_key (key_of v.row) key) (sees history b v) (ap (λ k'. same_key k' key) same ∙ key_refl key) seen)

    each : (v : Version) → key_of v.row ≡ key → EndedFirst after stamp v.ended ⊎ (sees history b v ≡ true) → EndedFirst after stamp v.ended ⊎ EndsIt history b items v
    each v same (inl first) = inl first
    each v same (inr seen) = inr (some-weaker (λ item. takes item ≡ true) (λ item. ends history b item v ≡ true) (λ item takes'. ends_it v same seen item takes') items (any_some takes items some))

class_main : (rel : Oid) (row : Row) → key_of row ≡ keys.Class rel → main_rel row ≡ rel
class_main rel (rows.Class oid own kind fill) same = (let one : oid ≡ rel = cc in one)
class_main rel row same = absurd (cc)

takes_class : (rel : Oid) (item : Item) → takes_relation rel item ≡ true → item ≡ forms.Remove (keys.Class rel)
takes_class rel (forms.Remove (keys.Class of)) is = ap (λ o. forms.Remove (keys.Class o)) (oid_eq of rel is)
takes_class rel item is = absurd (cc)

-- a write that takes a relation away drops it
pub dropped_new : (history : List Entry) (b c : ℕ) (xid : Xid) (items : List Item) (rel : Oid) → Ordered history → AllByRecursion (OfStamps (Lasts history)) (versions_of history) → MayComeNext history (entry_of b c (events.Write xid items))
    → rel.0 < next_oid history → list_any (takes_relation rel) items ≡ true → IsGuarded (held_by b c (events.Write xid items) (held_of history)) b c rel → IsDropped (history ++ entry_of b c (events.Write xid items) ∷ []) rel (record { xid = xid; command = c })
dropped_new history b c xid items rel k lasts comes drawn takes guarded = record {
  drawn = omega (arith, drawn, next_rises history (entry_of b c (events.Write xid items)));
  ended = ended_new history b c xid items (keys.Class rel) rel (takes_relation rel) (class_main rel) (takes_class rel) k lasts comes takes guarded;
}
