-- Where relations may be dropped and renamed: a column's version that is ended has a later one by the stamp that ended it, or its relation is dropped by that stamp. So whoever sees a relation and keeps others from changing it sees its columns numbered from 1, and no version has the number after the last.
use Rattle.std.proofs.Common.{◌≡◌, ◌<◌, ◌∙◌, ◌⊎◌, inl, inr, ℕ, true, List, [], ◌∷◌, ◌++◌, refl, sym, ap, subst}
use Rattle.std.specs.List.{AllByRecursion, list_any}
use Rattle.std.specs.Option.{IfSome}
use Rattle.std.proofs.lemmas.Bool.{and_parts}
use Rattle.base_types.specs.declared.ids.Xid.{Xid}
use Rattle.base_types.specs.declared.kind.Kind.{Kind}
use Rattle.base_types.specs.declared.row.Row.TheVariants as rows
use Rattle.base_types.specs.declared.row_key.RowKey.{RowKey}
use Rattle.base_types.specs.declared.row_key.RowKey.TheVariants as keys
use Rattle.base_types.specs.declared.scan.Purpose.TheVariants as scans
use Rattle.base_types.specs.RowKeys.{key_of, same_key}
use Rattle.base_types.specs.Scans.{selects}
use Rattle.row_visibility.specs.declared.version.Version.{Version}
use Rattle.row_visibility.specs.declared.version.Stamp.{Stamp}
use Rattle.event_kinds.specs.declared.entry.Event.TheVariants as events
use Rattle.event_kinds.specs.declared.entry.Item.TheVariants as forms
use Rattle.lock_modes.specs.declared.grant.Grant.{Grant}
use Rattle.history_model.specs.Prefixes.{EachEntry}
use Rattle.history_model.specs.Versions.{versions_of, versions_by, ends, added_row, is_back, counts, sees, rows_of}
use Rattle.history_model.specs.Held.{held_by, held_of}
use Rattle.history_model.specs.Drawn.{next_oid}
use Rattle.history_model.specs.Orderly.{main_rel}
use Rattle.history_model.specs.Sound.{MayComeNext, IsSound}
use Rattle.history_model.proofs.Prefixes.{EachEntry-weaker}
use Rattle.history_model.proofs.Reading.{versions_of-more as versions-more}
use Rattle.history_model.proofs.Every.{every-weaker, every-both, every-swap, SomeOf, some-weaker}
use Rattle.history_model.proofs.Guards.{key_eq, GuardsLawfully, IsGuarded}
use Rattle.history_model.proofs.InOrder.{IsIn}
use Rattle.history_model.proofs.Ordered.{Ordered, all_each, early_at, guards_lawful, sound_ordered}
use Rattle.history_model.proofs.DrawnRows.{rows_drawn}
use Rattle.history_model.proofs.GivenRows.{given_seen}
use Rattle.history_model.proofs.Locked.{changing_modes, AreBarred, IsSeenAs}
use Rattle.history_model.proofs.Seen.{Pairwise}
use Rattle.history_model.proofs.Touched.{entry_of, OfStamps}
use Rattle.cacheless.specs.Types.{Oid, Row, Entry, Event, Item}
use Rattle.cacheless.specs.TableWrites.{AreNamesakes, IsCalledWell, takes_relation, takes_whole, KeepsColumnsBy, WritesColumns}
use Rattle.cacheless.proofs.AlongSound.{along_sound}
use Rattle.cacheless.proofs.Dropped.{IsDropped, SeesClass, dropped_more, dropped_new, dropped_unseen}
use Rattle.cacheless.proofs.NamedColumns.{CallsBy, WritesCalled, called_apart, called_well}
use Rattle.cacheless.proofs.NumberedColumns.{Lasts, lasting, IsColumn, NumbersBy, WritesNumbered, AreNumbered, numbered_where}
use Rattle.cacheless.proofs.VersionsStay.{version_seen}
use Rattle.cacheless.proofs.Successors.{HaveNext, IsCounted, Gives, one_is_seen, next-weaker, next_written, next_gone}

-- a change that ends a column's version gives the column a row, or the write drops its relation
given_by : (rel : Oid) (num : ℕ) (before : List Entry) (b c : ℕ) (xid : Xid) (items : List Item) → Ordered before → AllByRecursion (OfStamps (Lasts before)) (versions_of before) → AllByRecursion (λ v. (main_rel v.row).0 < next_oid before) (versions_of before)
    → MayComeNext before (entry_of b c (events.Write xid items)) → (item : Item) → takes_whole items item ≡ true → AllByRecursion (λ v. ends before b item v ≡ true → IsGuarded (held_by b c (events.Write xid items) (held_of before)) b c (main_rel v.row)) (versions_of before)
    → AllByRecursion (λ v. ends before b item v ≡ true → IsColumn rel num v.row → Gives (IsColumn rel num) item ⊎ IsDropped (before ++ entry_of b c (events.Write xid items) ∷ []) rel (record { xid = xid; command = c })) (versions_of before)
given_by rel num before b c xid items k lasts drawn comes item whole guarded =
    every-weaker (λ v. (ends before b item v ≡ true → IsGuarded held b c (main_rel v.row)) × ((main_rel v.row).0 < next_oid before)) (λ v. ends before b item v ≡ true → IsColumn rel num v.row → Gives (IsColumn rel num) item ⊎ Drops)
    (λ v h is column. of item whole v (λ sees'. h.0 sees') h.1 is column) (versions_of before)
    (every-both (λ v. ends before b item v ≡ true → IsGuarded held b c (main_rel v.row)) (λ v. (main_rel v.row).0 < next_oid before) (versions_of before) guarded drawn)
  where
    held : List Grant
    held = held_by b c (events.Write xid items) (held_of before)

    Drops : Type 0
    Drops = IsDropped (before ++ entry_of b c (events.Write xid items) ∷ []) rel (record { xid = xid; command = c })

    main : (row : Row) → IsColumn rel num row → main_rel row ≡ rel
    main (rows.Att own num' name col_type stat live) is = cc
    main row is = absurd (cc)

    -- the key that a change takes away is the column's
    its_key : (key : RowKey) (v : Version) → ends before b (forms.Remove key) v ≡ true → IsColumn rel num v.row → key ≡ keys.Att rel num
    its_key key v is column = sym (key_eq (key_of v.row) key (and_parts (same_key (key_of v.row) key) (sees before b v) is).0) ∙ column

    of : (i : Item) → takes_whole items i ≡ true → (v : Version) → (ends before b i v ≡ true → IsGuarded held b c (main_rel v.row)) → (main_rel v.row).0 < next_oid before → ends before b i v ≡ true → IsColumn rel num v.row → Gives (IsColumn rel num) i ⊎ Drops
    of (forms.Put row) whole' v guards low is column = inl (row, (refl, sym (key_eq (key_of v.row) (key_of row) (and_parts (same_key (key_of v.row) (key_of row)) (sees before b v) is).0) ∙ column))
    of (forms.Remove (keys.Att own num')) whole' v guards low is column =
        let key : keys.Att own num' ≡ keys.Att rel num = its_key (keys.Att own num') v is column in
        let same : own ≡ rel = cc in
        inr (dropped_new before b c xid items rel k lasts comes (subst (λ o. o.0 < next_oid before) (main v.row column) low) (subst (λ o. list_any (takes_relation o) items ≡ true) same whole') (subst (IsGuarded held b c) (main v.row column) (guards is)))
    of (forms.Remove (keys.Class own)) whole' v guards low is column = absurd (cc (its_key (keys.Class own) v is column))
    of (forms.Remove (keys.Def own)) whole' v guards low is column = absurd (cc (its_key (keys.Def own) v is column))
    of (forms.Remove (keys.Ind own)) whole' v guards low is column = absurd (cc (its_key (keys.Ind own) v is column))
    of (forms.Remove (keys.Con own)) whole' v guards low is column = absurd (cc (its_key (keys.Con own) v is column))
    of (forms.Remove (keys.Trg own)) whole' v guards low is column = absurd (cc (its_key (keys.Trg own) v is column))
    of i whole' v guards low is column = absurd (cc)

next_by : (rel : Oid) (num : ℕ) (before : List Entry) (b c : ℕ) (event : Event) → IsSound before → MayComeNext before (entry_of b c event) → KeepsColumnsBy before b event → HaveNext (IsColumn rel num) (IsDropped before rel) (versions_of before)
    → HaveNext (IsColumn rel num) (IsDropped (before ++ entry_of b c event ∷ []) rel) (versions_by before b c event (versions_of before))
next_by rel num before b c (events.Write xid items) sound comes keeps next =
    next_written (IsColumn rel num) Drops before b stamp items (versions_of before) comes.follows.event.keys
    (every-swap (λ item v. ends before b item v ≡ true → IsColumn rel num v.row → Gives (IsColumn rel num) item ⊎ Drops stamp) items (versions_of before)
    (every-weaker (λ item. (takes_whole items item ≡ true) × Guarded item) (λ item. AllByRecursion (λ v. ends before b item v ≡ true → IsColumn rel num v.row → Gives (IsColumn rel num) item ⊎ Drops stamp) (versions_of before))
    (λ item h. given_by rel num before b c xid items k (lasting before sound) (rows_drawn before sound) comes item h.0 h.1) items
    (every-both (λ item. takes_whole items item ≡ true) Guarded items (all_each (takes_whole items) items keeps.whole) guarded)))
    (next-weaker (IsColumn rel num) (IsDropped before rel) Drops (λ s drop. dropped_more before e rel s k (lasting before sound) comes tt drop) (versions_of before) next)
  where
    e : Entry
    e = entry_of b c (events.Write xid items)

    k : Ordered before
    k = sound_ordered before sound

    Drops : Stamp → Type 0
    Drops = IsDropped (before ++ e ∷ []) rel

    stamp : Stamp
    stamp = record { xid = xid; command = c }

    held : List Grant
    held = held_by b c (events.Write xid items) (held_of before)

    Guarded : Item → Type 0
    Guarded item = AllByRecursion (λ v. ends before b item v ≡ true → IsGuarded held b c (main_rel v.row)) (versions_of before)

    lawfully : GuardsLawfully before b c (events.Write xid items)
    lawfully = guards_lawful before b c (events.Write xid items) comes.follows.event comes.orderly k (early_at before e k comes.follows.life)

    guarded : AllByRecursion Guarded items
    guarded = every-weaker (λ item. IfSome (added_row item) (λ row. IsGuarded held b c (main_rel row)) × Guarded item) Guarded (λ item h. h.1) items lawfully
next_by rel num before b c (events.Gone from) sound comes keeps next =
    next_gone (IsColumn rel num) (IsDropped before rel) (IsDropped (before ++ entry_of b c (events.Gone from) ∷ []) rel) (is_back before b from)
    (λ s spared drop. dropped_more before (entry_of b c (events.Gone from)) rel s (sound_ordered before sound) (lasting before sound) comes spared drop) (versions_of before) next
next_by rel num before b c event sound comes keeps next =
    next-weaker (IsColumn rel num) (IsDropped before rel) (IsDropped (before ++ entry_of b c event ∷ []) rel) (λ s drop. dropped_more before (entry_of b c event) rel s (sound_ordered before sound) (lasting before sound) comes tt drop) (versions_of before) next

-- columns have successors, or their relation is dropped
have_next : (rel : Oid) (num : ℕ) (history : List Entry) → IsSound history → EachEntry WritesColumns history → HaveNext (IsColumn rel num) (IsDropped history rel) (versions_of history)
have_next rel num = along_sound WritesColumns (λ h. HaveNext (IsColumn rel num) (IsDropped h rel) (versions_of h)) tt
    (λ before e sound comes keeps next. subst (HaveNext (IsColumn rel num) (IsDropped (before ++ e ∷ []) rel)) (sym (versions-more before e)) (next_by rel num before e.backend e.command e.event sound comes keeps next))

-- a column of which a version counts is seen by whoever sees its relation
pub column_counted_seen : (history : List Entry) (b : ℕ) (rel : Oid) (num : ℕ) → IsSound history → EachEntry WritesColumns history → SeesClass history b rel → SomeOf (λ v. IsColumn rel num v.row × (counts history b v.by ≡ true)) (versions_of history)
    → SomeOf (λ v. IsColumn rel num v.row × (sees history b v ≡ true)) (versions_of history)
column_counted_seen history b rel num sound writes class some = of (one_is_seen (IsColumn rel num) (IsDropped history rel) (counts history b) (versions_of history) (have_next rel num history sound writes) some)
  where
    of : SomeOf (λ v. IsColumn rel num v.row × (sees history b v ≡ true)) (versions_of history) ⊎ IsCounted (IsDropped history rel) (counts history b) → SomeOf (λ v. IsColumn rel num v.row × (sees history b v ≡ true)) (versions_of history)
    of (inl seen) = seen
    of (inr drop) = absurd (dropped_unseen history b rel drop.0 drop.1.1 drop.1.0 class)

-- a relation that is seen so is seen by its own row
pub class_seen : (history : List Entry) (b : ℕ) (rel : Oid) (name : List ℕ) (kind : Kind) → IsSeenAs history b rel name kind → SeesClass history b rel
class_seen history b rel name kind seen =
    some-weaker (λ v. (rows.Class rel name kind seen.0 ≡ v.row) × (sees history b v ≡ true)) (λ v. (key_of v.row ≡ keys.Class rel) × (sees history b v ≡ true)) (λ v h. (ap key_of (sym h.0), h.1)) (versions_of history)
    (version_seen (λ row. rows.Class rel name kind seen.0 ≡ row) history b
    (subst (AllByRecursion (λ row. IsIn row (rows_of history b) × (selects (scans.Class rel) row ≡ true))) seen.1 (given_seen history b (scans.Class rel))).0.0)

columns_numbered : (before : List Entry) (b : ℕ) (event : Event) → KeepsColumnsBy before b event → NumbersBy before b event
columns_numbered before b (events.Write xid items) keeps = keeps.columns
columns_numbered before b event keeps = tt

-- of a sound history whose writes keep the columns of tables: the columns of a relation that a backend sees are numbered from 1, where it keeps others from holding each mode under which rows of the relation are changed
pub whole_columns : (history : List Entry) (b : ℕ) (rel : Oid) (name : List ℕ) (kind : Kind) → IsSound history → EachEntry WritesColumns history → IsSeenAs history b rel name kind → AreBarred (held_of history) b rel changing_modes → AreNumbered history b rel
whole_columns history b rel name kind sound writes seen barred =
    numbered_where history b rel sound (EachEntry-weaker WritesColumns WritesNumbered (λ before e keeps. columns_numbered before e.backend e.event keeps) history writes)
    (λ num. column_counted_seen history b rel num sound writes (class_seen history b rel name kind seen)) barred

columns_called : (before : List Entry) (b : ℕ) (event : Event) → KeepsColumnsBy before b event → CallsBy before b event
columns_called before b (events.Write xid items) keeps = (keeps.called, keeps.apart)
columns_called before b event keeps = tt

-- and no backend sees two columns of a relation that have one name
pub whole_apart : (history : List Entry) (b : ℕ) → IsSound history → EachEntry WritesColumns history → Pairwise (λ row other. AreNamesakes row other → ⊥) (rows_of history b)
whole_apart history b sound writes = called_apart history b sound (EachEntry-weaker WritesColumns WritesCalled (λ before e keeps. columns_called before e.backend e.event keeps) history writes)

-- and each that it sees has a name that a command may give, or is dropped
pub whole_called : (history : List Entry) (b : ℕ) → IsSound history → EachEntry WritesColumns history → AllByRecursion IsCalledWell (rows_of history b)
whole_called history b sound writes = called_well history b sound (EachEntry-weaker WritesColumns WritesCalled (λ before e keeps. columns_called before e.backend e.event keeps) history writes)
