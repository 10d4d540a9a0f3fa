-- Who sees an index row sees the own row of its index, of kind Index, and the other way round: both came in one write, and whoever took one away took the other away with it.
use Rattle.std.proofs.Common.{◌≡◌, ◌<◌, ◌∙◌, ◌⊎◌, inl, inr, ℕ, Bool, true, false, not, Option, Some, None, List, [], ◌∷◌, ◌++◌, ◌||◌, ◌&&◌, refl, sym, ap, subst, map, filter, fold, arith}
use Rattle.std.specs.List.{AllByRecursion, list_any}
use Rattle.std.specs.Option.{option_map_or, IfSome}
use Rattle.std.proofs.lemmas.Bool.{and_parts, not-true}
use Rattle.base_types.specs.declared.ids.Xid.{Xid}
use Rattle.base_types.specs.declared.index_state.IndexState.{IndexState}
use Rattle.base_types.specs.declared.kind.Kind.TheVariants.{Table, Index}
use Rattle.base_types.specs.declared.row.Row.TheVariants as rows
use Rattle.base_types.specs.declared.row_key.RowKey.{RowKey}
use Rattle.base_types.specs.declared.row_key.RowKey.TheVariants as keys
use Rattle.base_types.specs.declared.scan.Purpose.TheVariants as scans
use Rattle.base_types.specs.RowKeys.{key_of, same_key}
use Rattle.base_types.specs.Scans.{selects}
use Rattle.row_visibility.specs.declared.version.Version.{Version}
use Rattle.row_visibility.specs.declared.version.Stamp.{Stamp}
use Rattle.event_kinds.specs.declared.entry.Event.TheVariants as events
use Rattle.event_kinds.specs.declared.entry.Item.TheVariants as forms
use Rattle.lock_modes.specs.declared.grant.Grant.{Grant}
use Rattle.history_model.specs.Prefixes.{EachEntry}
use Rattle.history_model.specs.Versions.{versions_of, versions_by, change_by, end_by, ends, version_of, ended_key, added_row, old_row, row_with, is_back, end_back, counts, sees, rows_of, answer_of}
use Rattle.history_model.specs.Held.{held_by, held_of}
use Rattle.history_model.specs.Drawn.{next_oid}
use Rattle.history_model.specs.Orderly.{main_rel}
use Rattle.history_model.specs.Sound.{MayComeNext, IsSound}
use Rattle.history_model.specs.Writes.{has_row, keeps_kind}
use Rattle.history_model.specs.Changing.{same_kind}
use Rattle.history_model.proofs.Asking.{oid_eq}
use Rattle.history_model.proofs.DrawnRows.{rows_drawn}
use Rattle.history_model.proofs.Every.{every-weaker, every-map, every-filter, every-both, every-swap, SomeOf, some-weaker, some-right, from_some}
use Rattle.history_model.proofs.GivenRows.{given_seen}
use Rattle.history_model.proofs.Guards.{key_eq, any_with, GuardsLawfully, IsGuarded}
use Rattle.history_model.proofs.InOrder.{IsIn}
use Rattle.history_model.proofs.Locked.{IsSeenAs, seen_alone}
use Rattle.history_model.proofs.Ordered.{Ordered, all_each, all_kept, early_at, ended_named, guards_lawful, lawful_of, sound_ordered}
use Rattle.history_model.proofs.Reached.{next_rises}
use Rattle.history_model.proofs.Reading.{versions_of-more as versions-more}
use Rattle.history_model.proofs.Touched.{entry_of, OfStamps, Touch}
use Rattle.cacheless.specs.Types.{Oid, Row, Entry, Event, Item}
use Rattle.cacheless.specs.TableWrites.{makes_index, adds_index_row, takes_index_row, is_of_index, takes_relation, goes_together, KeepsIndexesBy, WritesIndexes}
use Rattle.cacheless.proofs.AlongSound.{along_sound}
use Rattle.cacheless.proofs.EndedFirst.{first_counts}
use Rattle.cacheless.proofs.Dropped.{IsDropped, dropped_more, dropped_new, dropped_unseen, AreEnded, SeesRow, ended_there, ended_unseen, AddsNone, AddsNoneBy, ended_more, class_added, ended_new}
use Rattle.cacheless.proofs.NumberedColumns.{lasting, GoesFirst, first_then, first_on, first_spared, counted_first, every_written, any_some}
use Rattle.cacheless.proofs.Successors.{HaveNext, IsCounted, Gives, one_is_seen, next-weaker, next_written, next_gone}
use Rattle.cacheless.proofs.VersionsStay.{IsSpared, some_written, some_stays, version_seen, row_seen}

-- the relation's own row, of kind Index
abbrev pub IsIndexOf : Oid → Row → Type 0
IsIndexOf rel (rows.Class oid name Index fill) = oid ≡ rel
IsIndexOf rel row = ⊥

-- what is given by a change of a write is that of a version after it, by its stamp
given_written : (C : Row → Type 0) (before : List Entry) (b : ℕ) (stamp : Stamp) (items : List Item) (vs : List Version) → SomeOf (Gives C) items → SomeOf (λ v. C v.row × (v.by ≡ stamp)) (fold (change_by before b stamp) vs items)
given_written C before b stamp [] vs some = absurd some
given_written C before b stamp (item ∷ items) vs (inr later) = given_written C before b stamp items (change_by before b stamp vs item) later
given_written C before b stamp (item ∷ items) vs (inl gives) = some_written (λ row by. C row × (by ≡ stamp)) before b stamp items (change_by before b stamp vs item)
    (some-right (λ v. C v.row × (v.by ≡ stamp)) (map (end_by (ends before b item) stamp) vs) (version_of stamp (added_row item)) (subst (λ o. SomeOf (λ v. C v.row × (v.by ≡ stamp)) (version_of stamp o)) (sym gives.1.0) (inl (gives.1.1, refl))))

-- there is a version of the index's own row by the stamp
abbrev HasOwn : Oid → List Version → Stamp → Type 0
HasOwn rel vs s = SomeOf (λ w. IsIndexOf rel w.row × (w.by ≡ s)) vs

-- each version of an index row has one by its stamp
abbrev AreBeside : Oid → List Version → List Version → Type 0
AreBeside rel all vs = AllByRecursion (λ v. key_of v.row ≡ keys.Ind rel → HasOwn rel all v.by) vs

makes_gives : (rel : Oid) (item : Item) → makes_index rel item ≡ true → Gives (IsIndexOf rel) item
makes_gives rel (forms.Add (rows.Class oid name Index fill)) is = (rows.Class oid name Index fill, (refl, oid_eq oid rel is))
makes_gives rel item is = absurd (cc)

-- a change that gives an index row adds it, in one write with the own row of its index
beside_given : (before : List Entry) (b : ℕ) (rel : Oid) (items : List Item) (item : Item) → goes_together before b items item ≡ true → IfSome (added_row item) (λ row. key_of row ≡ keys.Ind rel → SomeOf (Gives (IsIndexOf rel)) items)
beside_given before b rel items (forms.Add (rows.Ind index table state nums)) is = λ same. (let one : index ≡ rel = cc in some-weaker (λ i. makes_index rel i ≡ true) (Gives (IsIndexOf rel)) (λ i makes. makes_gives rel i makes) items (any_some (makes_index rel) items (subst (λ o. list_any (makes_index o) items ≡ true) one is)))
beside_given before b rel items (forms.Put (rows.Ind index table state nums)) is = absurd (cc)
beside_given before b rel items (forms.Add (rows.Class oid name kind fill)) is = λ same. absurd (cc)
beside_given before b rel items (forms.Add (rows.Att of num own col_type stat live)) is = λ same. absurd (cc)
beside_given before b rel items (forms.Add (rows.Def oid of num word)) is = λ same. absurd (cc)
beside_given before b rel items (forms.Add (rows.Con oid of own valid what)) is = λ same. absurd (cc)
beside_given before b rel items (forms.Add (rows.Trg oid of own on)) is = λ same. absurd (cc)
beside_given before b rel items (forms.Put (rows.Class oid name kind fill)) is = λ same. absurd (cc)
beside_given before b rel items (forms.Put (rows.Att of num own col_type stat live)) is = λ same. absurd (cc)
beside_given before b rel items (forms.Put (rows.Def oid of num word)) is = λ same. absurd (cc)
beside_given before b rel items (forms.Put (rows.Con oid of own valid what)) is = λ same. absurd (cc)
beside_given before b rel items (forms.Put (rows.Trg oid of own on)) is = λ same. absurd (cc)
beside_given before b rel items (forms.Remove key) is = tt
beside_given before b rel items (forms.Force of) is = tt

beside_by : (before : List Entry) (b c : ℕ) (event : Event) (rel : Oid) → KeepsIndexesBy before b event → AreBeside rel (versions_of before) (versions_of before) → AreBeside rel (versions_by before b c event (versions_of before)) (versions_by before b c event (versions_of before))
beside_by before b c (events.Write xid items) rel keeps beside =
    every_written (λ row by. key_of row ≡ keys.Ind rel → HasOwn rel now by) before b stamp items (versions_of before)
    (every-weaker (λ item. goes_together before b items item ≡ true) (λ item. IfSome (added_row item) (λ row. key_of row ≡ keys.Ind rel → HasOwn rel now stamp)) new items (all_each (goes_together before b items) items keeps.together))
    (every-weaker (λ v. key_of v.row ≡ keys.Ind rel → HasOwn rel (versions_of before) v.by) (λ v. key_of v.row ≡ keys.Ind rel → HasOwn rel now v.by)
    (λ v has same. some_written (λ row by. IsIndexOf rel row × (by ≡ v.by)) before b stamp items (versions_of before) (has same)) (versions_of before) beside)
  where
    stamp : Stamp
    stamp = record { xid = xid; command = c }

    now : List Version
    now = fold (change_by before b stamp) (versions_of before) items

    new : (item : Item) → goes_together before b items item ≡ true → IfSome (added_row item) (λ row. key_of row ≡ keys.Ind rel → HasOwn rel now stamp)
    new item is = of (added_row item) (beside_given before b rel items item is)
      where
        of : (o : Option Row) → IfSome o (λ row. key_of row ≡ keys.Ind rel → SomeOf (Gives (IsIndexOf rel)) items) → IfSome o (λ row. key_of row ≡ keys.Ind rel → HasOwn rel now stamp)
        of None gives = tt
        of (Some row) gives = λ same. given_written (IsIndexOf rel) before b stamp items (versions_of before) (gives same)
beside_by before b c (events.Gone from) rel keeps beside =
    every-map (λ v. key_of v.row ≡ keys.Ind rel → HasOwn rel now v.by) (end_back back) (filter (λ v. not (back v.by)) (versions_of before))
    (every-filter (λ v. key_of v.row ≡ keys.Ind rel → HasOwn rel now v.by) (λ v. not (back v.by)) (versions_of before)
    (every-weaker (λ v. key_of v.row ≡ keys.Ind rel → HasOwn rel (versions_of before) v.by) (λ v. not (back v.by) ≡ true → key_of v.row ≡ keys.Ind rel → HasOwn rel now v.by)
    (λ v has kept same. some_stays (λ row by. IsIndexOf rel row × (by ≡ v.by)) before b c (events.Gone from) (versions_of before)
    (some-weaker (λ w. IsIndexOf rel w.row × (w.by ≡ v.by)) (λ w. (IsIndexOf rel w.row × (w.by ≡ v.by)) × (back w.by ≡ false)) (λ w h. (h, ap back h.1 ∙ untaken (back v.by) kept)) (versions_of before) (has same))) (versions_of before) beside))
  where
    back : Stamp → Bool
    back = is_back before b from

    now : List Version
    now = versions_by before b c (events.Gone from) (versions_of before)

    untaken : (t : Bool) → not t ≡ true → t ≡ false
    untaken false is = refl
    untaken true is = absurd (cc)
beside_by before b c event rel keeps beside = beside

beside : (rel : Oid) (history : List Entry) → IsSound history → EachEntry WritesIndexes history → AreBeside rel (versions_of history) (versions_of history)
beside rel = along_sound WritesIndexes (λ h. AreBeside rel (versions_of h) (versions_of h)) tt
    (λ before e sound comes keeps was. subst (λ vs. AreBeside rel vs vs) (sym (versions-more before e)) (beside_by before e.backend e.command e.event rel keeps was))

-- the index row is taken away by this stamp
record IsTaken (history : List Entry) (rel : Oid) (s : Stamp) : Type 0 where
  drawn : rel.0 < next_oid history
  ended : AreEnded history (keys.Ind rel) s (versions_of history)

-- the index row of a relation that is drawn no write adds
index_added : (before : List Entry) (b c : ℕ) (event : Event) (rel : Oid) → MayComeNext before (entry_of b c event) → rel.0 < next_oid before → KeepsIndexesBy before b event → AddsNoneBy (keys.Ind rel) event
index_added before b c (events.Write xid items) rel comes drawn keeps = every-weaker (λ item. goes_together before b items item ≡ true) (AddsNone (keys.Ind rel)) of items (all_each (goes_together before b items) items keeps.together)
  where
    makes_own : (i : Item) → makes_index rel i ≡ true → AddsNone (keys.Class rel) i → ⊥
    makes_own (forms.Add (rows.Class oid name Index fill)) is none = none (ap keys.Class (oid_eq oid rel is))
    makes_own i is none = absurd (cc)

    of : (item : Item) → goes_together before b items item ≡ true → AddsNone (keys.Ind rel) item
    of (forms.Add (rows.Ind index table state nums)) is = λ same. (let one : index ≡ rel = cc in any_with (makes_index rel) (AddsNone (keys.Class rel)) ⊥ makes_own items (subst (λ o. list_any (makes_index o) items ≡ true) one is) (class_added before b c (events.Write xid items) rel comes drawn))
    of (forms.Add (rows.Class oid name kind fill)) is = λ same. absurd (cc)
    of (forms.Add (rows.Att to num own col_type stat live)) is = λ same. absurd (cc)
    of (forms.Add (rows.Def oid to num word)) is = λ same. absurd (cc)
    of (forms.Add (rows.Con oid to own valid what)) is = λ same. absurd (cc)
    of (forms.Add (rows.Trg oid to own on)) is = λ same. absurd (cc)
    of (forms.Put row) is = tt
    of (forms.Remove key) is = tt
    of (forms.Force to) is = tt
index_added before b c event rel comes drawn keeps = tt

taken_more : (before : List Entry) (e : Entry) (rel : Oid) (s : Stamp) → IsSound before → MayComeNext before e → WritesIndexes before e → IsSpared before e.backend e.event s → IsTaken before rel s → IsTaken (before ++ e ∷ []) rel s
taken_more before e rel s sound comes keeps spared taken = record {
  drawn = omega (arith, taken.drawn, next_rises before e);
  ended = ended_more before e (keys.Ind rel) s (sound_ordered before sound) (lasting before sound) comes (index_added before e.backend e.command e.event rel comes taken.drawn keeps) spared taken.ended;
}

-- a row in the place of an index's own, of one kind with it, is an index's own
index_kept : (rel : Oid) (old row : Row) → key_of old ≡ key_of row → same_kind old row ≡ true → IsIndexOf rel old → IsIndexOf rel row
index_kept rel (rows.Class oid own Index fill) (rows.Class to name Index fill') keyed alike is = (let one : oid ≡ to = cc in sym one ∙ is)
index_kept rel (rows.Class oid own Index fill) (rows.Class to name Table fill') keyed alike is = absurd (cc)
index_kept rel (rows.Class oid own Index fill) row keyed alike is = absurd (cc)
index_kept rel (rows.Class oid own Table fill) row keyed alike is = absurd is
index_kept rel old row keyed alike is = absurd is

own_key : (rel : Oid) (row : Row) → IsIndexOf rel row → key_of row ≡ keys.Class rel
own_key rel (rows.Class oid name Index fill) is = ap keys.Class is
own_key rel row is = absurd is

own_main : (rel : Oid) (row : Row) → IsIndexOf rel row → main_rel row ≡ rel
own_main rel (rows.Class oid name Index fill) is = is
own_main rel row is = absurd is

own_is : (rel : Oid) (row : Row) → IsIndexOf rel row → is_of_index (Some row) ≡ true
own_is rel (rows.Class oid name Index fill) is = refl
own_is rel row is = absurd is

index_main : (rel : Oid) (row : Row) → key_of row ≡ keys.Ind rel → main_rel row ≡ rel
index_main rel (rows.Ind index table state nums) same = (let one : index ≡ rel = cc in one)
index_main rel row same = absurd (cc)

takes_index : (rel : Oid) (item : Item) → takes_index_row rel item ≡ true → item ≡ forms.Remove (keys.Ind rel)
takes_index rel (forms.Remove (keys.Ind of)) is = ap (λ o. forms.Remove (keys.Ind o)) (oid_eq of rel is)
takes_index rel item is = absurd (cc)

if_kind : (o : Option Row) (row : Row) → option_map_or (λ old. same_kind old row) o true ≡ true → IfSome o (λ old. same_kind old row ≡ true)
if_kind None row is = tt
if_kind (Some old) row is = is

if_found : (o : Option Row) → IfSome o (λ row. o ≡ Some row)
if_found None = tt
if_found (Some row) = refl

takes_if : (t u : Bool) → t ≡ true → (not t || u) ≡ true → u ≡ true
takes_if true u is some = some
takes_if false u is some = absurd (cc)

-- what is known of the versions that a change ends, if they are of an index's own row: the change gives one, or its write takes the index row away
own_given : (before : List Entry) (b c : ℕ) (xid : Xid) (items : List Item) (rel : Oid) → IsSound before → MayComeNext before (entry_of b c (events.Write xid items)) → (item : Item) → goes_together before b items item ≡ true → keeps_kind before b item ≡ true
    → AllByRecursion (λ v. ends before b item v ≡ true → IsGuarded (held_by b c (events.Write xid items) (held_of before)) b c (main_rel v.row)) (versions_of before)
    → AllByRecursion (λ v. ends before b item v ≡ true → IsIndexOf rel v.row → Gives (IsIndexOf rel) item ⊎ IsTaken (before ++ entry_of b c (events.Write xid items) ∷ []) rel (record { xid = xid; command = c })) (versions_of before)
own_given before b c xid items rel sound comes = of
  where
    e : Entry
    e = entry_of b c (events.Write xid items)

    k : Ordered before
    k = sound_ordered before sound

    held : List Grant
    held = held_by b c (events.Write xid items) (held_of before)

    Taken : Type 0
    Taken = IsTaken (before ++ e ∷ []) rel (record { xid = xid; command = c })

    Given : Item → Version → Type 0
    Given item v = ends before b item v ≡ true → IsIndexOf rel v.row → Gives (IsIndexOf rel) item ⊎ Taken

    its_key : (key : RowKey) (v : Version) → ends before b (forms.Remove key) v ≡ true → IsIndexOf rel v.row → key ≡ keys.Class rel
    its_key key v is own = sym (key_eq (key_of v.row) key (and_parts (same_key (key_of v.row) key) (sees before b v) is).0) ∙ own_key rel v.row own

    none : (key : RowKey) → (key ≡ keys.Class rel → ⊥) → AllByRecursion (Given (forms.Remove key)) (versions_of before)
    none key differs = all (versions_of before)
      where
        all : (vs : List Version) → AllByRecursion (Given (forms.Remove key)) vs
        all [] = tt
        all (v ∷ vs) = (λ is own. absurd (differs (its_key key v is own)), all vs)

    never : (item : Item) → ((v : Version) → ends before b item v ≡ true → ⊥) → AllByRecursion (Given item) (versions_of before)
    never item unended = all (versions_of before)
      where
        all : (vs : List Version) → AllByRecursion (Given item) vs
        all [] = tt
        all (v ∷ vs) = (λ is own. absurd (unended v is), all vs)

    taken : (own : Oid) → (not (is_of_index (row_with before b (keys.Class own))) || list_any (takes_index_row own) items) ≡ true → (v : Version) → ends before b (forms.Remove (keys.Class own)) v ≡ true → row_with before b (keys.Class own) ≡ Some v.row → IsGuarded held b c (main_rel v.row) → (main_rel v.row).0 < next_oid before
        → IsIndexOf rel v.row → Taken
    taken own together v is found guarded drawn index =
        let one : own ≡ rel = (let same : keys.Class own ≡ keys.Class rel = its_key (keys.Class own) v is index in cc) in
        let some : list_any (takes_index_row own) items ≡ true = takes_if (is_of_index (row_with before b (keys.Class own))) (list_any (takes_index_row own) items) (ap is_of_index found ∙ own_is rel v.row index) together in
        record {
          drawn = omega (arith, subst (λ o. o.0 < next_oid before) (own_main rel v.row index) drawn, next_rises before e);
          ended = ended_new before b c xid items (keys.Ind rel) rel (takes_index_row rel) (index_main rel) (takes_index rel) k (lasting before sound) comes (subst (λ o. list_any (takes_index_row o) items ≡ true) one some) (subst (IsGuarded held b c) (own_main rel v.row index) guarded);
        }

    of : (item : Item) → goes_together before b items item ≡ true → keeps_kind before b item ≡ true → AllByRecursion (λ v. ends before b item v ≡ true → IsGuarded held b c (main_rel v.row)) (versions_of before) → AllByRecursion (Given item) (versions_of before)
    of (forms.Put row) together kinds guarded = every-weaker (λ v. ends before b (forms.Put row) v ≡ true → same_kind v.row row ≡ true) (Given (forms.Put row))
        (λ v alike is own. inl (row, (refl, index_kept rel v.row row (key_eq (key_of v.row) (key_of row) (and_parts (same_key (key_of v.row) (key_of row)) (sees before b v) is).0) (alike is) own))) (versions_of before)
        (ended_named before b (λ old. same_kind old row ≡ true) (forms.Put row) k.one (if_kind (old_row before b (forms.Put row)) row kinds))
    of (forms.Remove (keys.Class own)) together kinds guarded = every-weaker (λ v. (ends before b (forms.Remove (keys.Class own)) v ≡ true → row_with before b (keys.Class own) ≡ Some v.row) × ((ends before b (forms.Remove (keys.Class own)) v ≡ true → IsGuarded held b c (main_rel v.row)) × ((main_rel v.row).0 < next_oid before)))
        (Given (forms.Remove (keys.Class own))) (λ v h is index. inr (taken own together v is (h.0 is) (h.1.0 is) h.1.1 index)) (versions_of before)
        (every-both (λ v. ends before b (forms.Remove (keys.Class own)) v ≡ true → row_with before b (keys.Class own) ≡ Some v.row) (λ v. (ends before b (forms.Remove (keys.Class own)) v ≡ true → IsGuarded held b c (main_rel v.row)) × ((main_rel v.row).0 < next_oid before)) (versions_of before)
        (ended_named before b (λ r. row_with before b (keys.Class own) ≡ Some r) (forms.Remove (keys.Class own)) k.one (if_found (row_with before b (keys.Class own))))
        (every-both (λ v. ends before b (forms.Remove (keys.Class own)) v ≡ true → IsGuarded held b c (main_rel v.row)) (λ v. (main_rel v.row).0 < next_oid before) (versions_of before) guarded (rows_drawn before sound)))
    of (forms.Remove (keys.Att own num)) together kinds guarded = none (keys.Att own num) (λ same. absurd (cc))
    of (forms.Remove (keys.Def own)) together kinds guarded = none (keys.Def own) (λ same. absurd (cc))
    of (forms.Remove (keys.Ind own)) together kinds guarded = none (keys.Ind own) (λ same. absurd (cc))
    of (forms.Remove (keys.Con own)) together kinds guarded = none (keys.Con own) (λ same. absurd (cc))
    of (forms.Remove (keys.Trg own)) together kinds guarded = none (keys.Trg own) (λ same. absurd (cc))
    of (forms.Add row) together kinds guarded = never (forms.Add row) (λ v is. absurd (cc))
    of (forms.Force to) together kinds guarded = never (forms.Force to) (λ v is. absurd (cc))

next_by : (rel : Oid) (before : List Entry) (b c : ℕ) (event : Event) → IsSound before → MayComeNext before (entry_of b c event) → KeepsIndexesBy before b event → HaveNext (IsIndexOf rel) (IsTaken before rel) (versions_of before)
    → HaveNext (IsIndexOf rel) (IsTaken (before ++ entry_of b c event ∷ []) rel) (versions_by before b c event (versions_of before))
next_by rel before b c (events.Write xid items) sound comes keeps next =
    next_written (IsIndexOf rel) Taken before b stamp items (versions_of before) comes.follows.event.keys
    (every-swap (λ item v. ends before b item v ≡ true → IsIndexOf rel v.row → Gives (IsIndexOf rel) item ⊎ Taken stamp) items (versions_of before)
    (every-weaker (λ item. (goes_together before b items item ≡ true) × ((keeps_kind before b item ≡ true) × Guarded item)) (λ item. AllByRecursion (λ v. ends before b item v ≡ true → IsIndexOf rel v.row → Gives (IsIndexOf rel) item ⊎ Taken stamp) (versions_of before))
    (λ item h. own_given before b c xid items rel sound comes item h.0 h.1.0 h.1.1) items
    (every-both (λ item. goes_together before b items item ≡ true) (λ item. (keeps_kind before b item ≡ true) × Guarded item) items (all_each (goes_together before b items) items keeps.together)
    (every-both (λ item. keeps_kind before b item ≡ true) Guarded items (all_each (keeps_kind before b) items comes.follows.event.kinds) guarded))))
    (next-weaker (IsIndexOf rel) (IsTaken before rel) Taken (λ s taken. taken_more before e rel s sound comes keeps tt taken) (versions_of before) next)
  where
    e : Entry
    e = entry_of b c (events.Write xid items)

    k : Ordered before
    k = sound_ordered before sound

    Taken : Stamp → Type 0
    Taken = IsTaken (before ++ e ∷ []) rel

    stamp : Stamp
    stamp = record { xid = xid; command = c }

    held : List Grant
    held = held_by b c (events.Write xid items) (held_of before)

    Guarded : Item → Type 0
    Guarded item = AllByRecursion (λ v. ends before b item v ≡ true → IsGuarded held b c (main_rel v.row)) (versions_of before)

    lawfully : GuardsLawfully before b c (events.Write xid items)
    lawfully = guards_lawful before b c (events.Write xid items) comes.follows.event comes.orderly k (early_at before e k comes.follows.life)

    guarded : AllByRecursion Guarded items
    guarded = every-weaker (λ item. IfSome (added_row item) (λ row. IsGuarded held b c (main_rel row)) × Guarded item) Guarded (λ item h. h.1) items lawfully
next_by rel before b c (events.Gone from) sound comes keeps next =
    next_gone (IsIndexOf rel) (IsTaken before rel) (IsTaken (before ++ entry_of b c (events.Gone from) ∷ []) rel) (is_back before b from)
    (λ s spared taken. taken_more before (entry_of b c (events.Gone from)) rel s sound comes keeps spared taken) (versions_of before) next
next_by rel before b c event sound comes keeps next =
    next-weaker (IsIndexOf rel) (IsTaken before rel) (IsTaken (before ++ entry_of b c event ∷ []) rel) (λ s taken. taken_more before (entry_of b c event) rel s sound comes keeps tt taken) (versions_of before) next

have_next : (rel : Oid) (history : List Entry) → IsSound history → EachEntry WritesIndexes history → HaveNext (IsIndexOf rel) (IsTaken history rel) (versions_of history)
have_next rel = along_sound WritesIndexes (λ h. HaveNext (IsIndexOf rel) (IsTaken h rel) (versions_of h)) tt
    (λ before e sound comes keeps next. subst (HaveNext (IsIndexOf rel) (IsTaken (before ++ e ∷ []) rel)) (sym (versions-more before e)) (next_by rel before e.backend e.command e.event sound comes keeps next))

-- who sees an index row sees the own row of its index
index_seen : (history : List Entry) (b : ℕ) (rel : Oid) → IsSound history → EachEntry WritesIndexes history → SeesRow history b (keys.Ind rel) → SomeOf (λ v. IsIndexOf rel v.row × (sees history b v ≡ true)) (versions_of history)
index_seen history b rel sound writes seen = of (one_is_seen (IsIndexOf rel) (IsTaken history rel) (counts history b) (versions_of history) (have_next rel history sound writes) counted)
  where
    Counted : Version → Type 0
    Counted w = IsIndexOf rel w.row × (counts history b w.by ≡ true)

    counted : SomeOf Counted (versions_of history)
    counted = from_some (λ v. (key_of v.row ≡ keys.Ind rel) × (sees history b v ≡ true)) (SomeOf Counted (versions_of history)) (versions_of history)
        (every-weaker (λ v. key_of v.row ≡ keys.Ind rel → HasOwn rel (versions_of history) v.by) (λ v. (key_of v.row ≡ keys.Ind rel) × (sees history b v ≡ true) → SomeOf Counted (versions_of history))
        (λ v has h. some-weaker (λ w. IsIndexOf rel w.row × (w.by ≡ v.by)) Counted (λ w own. (own.0, ap (counts history b) own.1 ∙ (and_parts (counts history b v.by) (not (option_map_or (counts history b) v.ended false)) h.1).0)) (versions_of history) (has h.0)) (versions_of history) (beside rel history sound writes))
        seen

    of : SomeOf (λ v. IsIndexOf rel v.row × (sees history b v ≡ true)) (versions_of history) ⊎ IsCounted (IsTaken history rel) (counts history b) → SomeOf (λ v. IsIndexOf rel v.row × (sees history b v ≡ true)) (versions_of history)
    of (inl is) = is
    of (inr taken) = absurd (ended_unseen history b (keys.Ind rel) taken.0 taken.1.1.ended taken.1.0 seen)

-- the own row of an index, with whatever name
pub record IsOwnOf (rel : Oid) (given : List Row) : Type 0 where
  pub name : List ℕ
  pub fill : Option ℕ
  pub there : IsIn (rows.Class rel name Index fill) given

own_there : (rel : Oid) (given : List Row) → SomeOf (IsIndexOf rel) given → IsOwnOf rel given
own_there rel [] some = absurd some
own_there rel (row ∷ given) (inl own) = of row own
  where
    of : (r : Row) → IsIndexOf rel r → IsOwnOf rel (r ∷ given)
    of (rows.Class oid name Index fill) is = record { name = name; fill = fill; there = inl (ap (λ o. rows.Class o name Index fill) (sym is)) }
    of r is = absurd is
own_there rel (row ∷ given) (inr later) = let rest = own_there rel given later in record { name = rest.name; fill = rest.fill; there = inr rest.there }

-- of a sound history whose writes keep indexes whole: a backend that sees an index row sees the own row of its index
pub index_whole : (history : List Entry) (b : ℕ) (index table : Oid) (state : IndexState) (nums : List ℕ) → IsSound history → EachEntry WritesIndexes history → IsIn (rows.Ind index table state nums) (rows_of history b) → IsOwnOf index (rows_of history b)
index_whole history b index table state nums sound writes there = own_there index (rows_of history b) (row_seen (IsIndexOf index) history b (index_seen history b index sound writes
    (some-weaker (λ v. (rows.Ind index table state nums ≡ v.row) × (sees history b v ≡ true)) (λ v. (key_of v.row ≡ keys.Ind index) × (sees history b v ≡ true)) (λ v h. (ap key_of (sym h.0), h.1)) (versions_of history)
    (version_seen (λ row. rows.Ind index table state nums ≡ row) history b there))))

-- so a table has no index row that a backend sees
pub table_unindexed : (history : List Entry) (b : ℕ) (rel : Oid) (name : List ℕ) → IsSound history → EachEntry WritesIndexes history → IsSeenAs history b rel name Table → SeesRow history b (keys.Ind rel) → ⊥
table_unindexed history b rel name sound writes table seen = of own.name own.fill (seen_alone history b rel own.name Index own.fill sound own.there)
  where
    own : IsOwnOf rel (rows_of history b)
    own = own_there rel (rows_of history b) (row_seen (IsIndexOf rel) history b (index_seen history b rel sound writes seen))

    of : (n : List ℕ) (fill : Option ℕ) → answer_of history b (scans.Class rel) ≡ rows.Class rel n Index fill ∷ [] → ⊥
    of n fill index = let both : rows.Class rel name Table table.0 ∷ [] ≡ rows.Class rel n Index fill ∷ [] = sym table.1 ∙ index in cc both

-- The other way round: there is a version of the index row, by a stamp that goes first.
abbrev HasIndexRow : List Entry → Oid → List Version → Stamp → Type 0
HasIndexRow history rel vs s = SomeOf (λ w. (key_of w.row ≡ keys.Ind rel) × GoesFirst history w.by s) vs

-- each version of an index's own row has one
abbrev HaveIndexRows : List Entry → Oid → List Version → List Version → Type 0
HaveIndexRows history rel all vs = AllByRecursion (λ v. IsIndexOf rel v.row → HasIndexRow history rel all v.by) vs

adds_gives : (rel : Oid) (item : Item) → adds_index_row rel item ≡ true → Gives (λ row. key_of row ≡ keys.Ind rel) item
adds_gives rel (forms.Add (rows.Ind index table state nums)) is = (rows.Ind index table state nums, (refl, ap keys.Ind (oid_eq index rel is)))
adds_gives rel item is = absurd (cc)

-- the index row that a write has beside an index's own row that it makes
made_given : (rel : Oid) (items : List Item) → list_any (adds_index_row rel) items ≡ true → SomeOf (Gives (λ row. key_of row ≡ keys.Ind rel)) items
made_given rel items some = some-weaker (λ i. adds_index_row rel i ≡ true) (Gives (λ row. key_of row ≡ keys.Ind rel)) (λ i adds. adds_gives rel i adds) items (any_some (adds_index_row rel) items some)

-- an index's own row that a change puts in the place of another is in the place of one of its kind
was_index : (rel : Oid) (old row : Row) → same_key (key_of old) (key_of row) ≡ true → same_kind old row ≡ true → IsIndexOf rel row → IsIndexOf rel old
was_index rel (rows.Class oid own Index fill) (rows.Class to name Index fill') keyed alike is = oid_eq oid to keyed ∙ is
was_index rel (rows.Class oid own Table fill) (rows.Class to name Index fill') keyed alike is = absurd (cc)
was_index rel old (rows.Class to name Index fill') keyed alike is = absurd (cc)
was_index rel old (rows.Class to name Table fill') keyed alike is = absurd is
was_index rel old row keyed alike is = absurd is

-- after a write each has one
rows_written : (before : List Entry) (b c : ℕ) (xid : Xid) (items : List Item) (rel : Oid) → IsSound before → MayComeNext before (entry_of b c (events.Write xid items)) → AllByRecursion (λ item. goes_together before b items item ≡ true) items → HaveIndexRows before rel (versions_of before) (versions_of before)
    → HaveIndexRows (before ++ entry_of b c (events.Write xid items) ∷ []) rel (versions_by before b c (events.Write xid items) (versions_of before)) (versions_by before b c (events.Write xid items) (versions_of before))
rows_written before b c xid items rel sound comes together have =
    every_written (λ row by. IsIndexOf rel row → Has by) before b stamp items (versions_of before)
    (every-weaker (λ item. (goes_together before b items item ≡ true) × ((keeps_kind before b item ≡ true) × IfSome (ended_key item) (λ key. has_row before b key ≡ true))) (λ item. IfSome (added_row item) (λ row. IsIndexOf rel row → Has stamp)) (λ item h. given item h.0 h.1.0 h.1.1) items
    (every-both (λ item. goes_together before b items item ≡ true) (λ item. (keeps_kind before b item ≡ true) × IfSome (ended_key item) (λ key. has_row before b key ≡ true)) items together
    (every-both (λ item. keeps_kind before b item ≡ true) (λ item. IfSome (ended_key item) (λ key. has_row before b key ≡ true)) items (all_each (keeps_kind before b) items comes.follows.event.kinds) (all_kept (has_row before b) ended_key items comes.follows.event.there))))
    (every-weaker (λ v. IsIndexOf rel v.row → HasIndexRow before rel (versions_of before) v.by) (λ v. IsIndexOf rel v.row → Has v.by) (λ v has own. later v.by (has own)) (versions_of before) have)
  where
    e : Entry
    e = entry_of b c (events.Write xid items)

    stamp : Stamp
    stamp = record { xid = xid; command = c }

    now : List Version
    now = fold (change_by before b stamp) (versions_of before) items

    Has : Stamp → Type 0
    Has s = HasIndexRow (before ++ e ∷ []) rel now s

    later : (s : Stamp) → HasIndexRow before rel (versions_of before) s → Has s
    later s has = some_written (λ row by. (key_of row ≡ keys.Ind rel) × GoesFirst (before ++ e ∷ []) by s) before b stamp items (versions_of before)
        (some-weaker (λ w. (key_of w.row ≡ keys.Ind rel) × GoesFirst before w.by s) (λ w. (key_of w.row ≡ keys.Ind rel) × GoesFirst (before ++ e ∷ []) w.by s) (λ w h. (h.0, first_on before e w.by s h.1)) (versions_of before) has)

    -- what a version that the writer sees has goes first of the write too
    sooner : (s : Stamp) → GoesFirst (before ++ e ∷ []) s stamp → Has s → Has stamp
    sooner s first has = some-weaker (λ w. (key_of w.row ≡ keys.Ind rel) × GoesFirst (before ++ e ∷ []) w.by s) (λ w. (key_of w.row ≡ keys.Ind rel) × GoesFirst (before ++ e ∷ []) w.by stamp)
        (λ w h. (h.0, first_then (before ++ e ∷ []) w.by s stamp h.1 first)) now has

    made : (own : Oid) → own ≡ rel → list_any (adds_index_row own) items ≡ true → Has stamp
    made own is some = some-weaker (λ v. (key_of v.row ≡ keys.Ind rel) × (v.by ≡ stamp)) (λ w. (key_of w.row ≡ keys.Ind rel) × GoesFirst (before ++ e ∷ []) w.by stamp) (λ w h. (h.0, inr (ap (λ s. s.xid.0) h.1, omega (arith, ap (λ s. s.command) h.1)))) now
        (given_written (λ row. key_of row ≡ keys.Ind rel) before b stamp items (versions_of before) (made_given rel items (subst (λ o. list_any (adds_index_row o) items ≡ true) is some)))

    -- of a row that is replaced
    put : (row : Row) → keeps_kind before b (forms.Put row) ≡ true → has_row before b (key_of row) ≡ true → IsIndexOf rel row → Has stamp
    put row kinds there own = from_some (λ v. (key_of v.row ≡ key_of row) × (ends before b (forms.Put row) v ≡ true)) (Has stamp) (versions_of before)
        (every-weaker (λ v. (OfStamps (Touch before) v × (IsIndexOf rel v.row → HasIndexRow before rel (versions_of before) v.by)) × (ends before b (forms.Put row) v ≡ true → same_kind v.row row ≡ true)) (λ v. (key_of v.row ≡ key_of row) × (ends before b (forms.Put row) v ≡ true) → Has stamp)
        (λ v h k'. replaced v h.0.0 h.0.1 (h.1 k'.1) k'.1) (versions_of before)
        (every-both (λ v. OfStamps (Touch before) v × (IsIndexOf rel v.row → HasIndexRow before rel (versions_of before) v.by)) (λ v. ends before b (forms.Put row) v ≡ true → same_kind v.row row ≡ true) (versions_of before)
        (every-both (OfStamps (Touch before)) (λ v. IsIndexOf rel v.row → HasIndexRow before rel (versions_of before) v.by) (versions_of before) (sound_ordered before sound).touched have)
        (ended_named before b (λ old. same_kind old row ≡ true) (forms.Put row) (sound_ordered before sound).one (if_kind (old_row before b (forms.Put row)) row kinds))))
        (ended_there before b (forms.Put row) (key_of row) refl there)
      where
        replaced : (v : Version) → OfStamps (Touch before) v → (IsIndexOf rel v.row → HasIndexRow before rel (versions_of before) v.by) → same_kind v.row row ≡ true → ends before b (forms.Put row) v ≡ true → Has stamp
        replaced v touch has alike ends' =
            let parts = and_parts (same_key (key_of v.row) (key_of row)) (sees before b v) ends' in
            let counted = (and_parts (counts before b v.by) (not (option_map_or (counts before b) v.ended false)) parts.1).0 in
            sooner v.by (first_on before e v.by stamp (counted_first before b c xid items (sound_ordered before sound) comes v.by v.row touch.0 counted)) (later v.by (has (was_index rel v.row row parts.0 alike own)))

    given : (item : Item) → goes_together before b items item ≡ true → keeps_kind before b item ≡ true → IfSome (ended_key item) (λ key. has_row before b key ≡ true) → IfSome (added_row item) (λ row. IsIndexOf rel row → Has stamp)
    given (forms.Add (rows.Class oid name Index fill)) is kinds there = λ own. made oid own is
    given (forms.Add (rows.Class oid name Table fill)) is kinds there = λ own. absurd own
    given (forms.Add (rows.Att of num name col_type stat live)) is kinds there = λ own. absurd own
    given (forms.Add (rows.Def oid of num word)) is kinds there = λ own. absurd own
    given (forms.Add (rows.Ind index table state nums)) is kinds there = λ own. absurd own
    given (forms.Add (rows.Con oid of name valid what)) is kinds there = λ own. absurd own
    given (forms.Add (rows.Trg oid of name on)) is kinds there = λ own. absurd own
    given (forms.Put row) is kinds there = λ own. put row kinds there own
    given (forms.Remove key) is kinds there = tt
    given (forms.Force of) is kinds there = tt

rows_gone : (before : List Entry) (b c from : ℕ) (rel : Oid) → IsSound before → MayComeNext before (entry_of b c (events.Gone from)) → HaveIndexRows before rel (versions_of before) (versions_of before)
    → HaveIndexRows (before ++ entry_of b c (events.Gone from) ∷ []) rel (versions_by before b c (events.Gone from) (versions_of before)) (versions_by before b c (events.Gone from) (versions_of before))
rows_gone before b c from rel sound comes have =
    every-map (λ v. IsIndexOf rel v.row → HasIndexRow after rel now v.by) (end_back back) (filter (λ v. not (back v.by)) (versions_of before))
    (every-filter (λ v. IsIndexOf rel v.row → HasIndexRow after rel now v.by) (λ v. not (back v.by)) (versions_of before)
    (every-weaker (λ v. IsIndexOf rel v.row → HasIndexRow before rel (versions_of before) v.by) (λ v. not (back v.by) ≡ true → IsIndexOf rel v.row → HasIndexRow after rel now v.by)
    (λ v has kept own. some_stays (λ row by. (key_of row ≡ keys.Ind rel) × GoesFirst after by v.by) before b c (events.Gone from) (versions_of before)
    (some-weaker (λ w. (key_of w.row ≡ keys.Ind rel) × GoesFirst before w.by v.by) (λ w. ((key_of w.row ≡ keys.Ind rel) × GoesFirst after w.by v.by) × (back w.by ≡ false))
    (λ w h. ((h.0, first_on before e w.by v.by h.1), first_spared before b c (events.Gone from) w.by v.by (sound_ordered before sound).runs (lawful_of before e (sound_ordered before sound) comes) h.1 (not-true (back v.by) kept))) (versions_of before) (has own))) (versions_of before) have))
  where
    e : Entry
    e = entry_of b c (events.Gone from)

    after : List Entry
    after = before ++ e ∷ []

    back : Stamp → Bool
    back = is_back before b from

    now : List Version
    now = versions_by before b c (events.Gone from) (versions_of before)

rows_by : (before : List Entry) (b c : ℕ) (event : Event) (rel : Oid) → IsSound before → MayComeNext before (entry_of b c event) → KeepsIndexesBy before b event → HaveIndexRows before rel (versions_of before) (versions_of before)
    → HaveIndexRows (before ++ entry_of b c event ∷ []) rel (versions_by before b c event (versions_of before)) (versions_by before b c event (versions_of before))
rows_by before b c (events.Write xid items) rel sound comes keeps have = rows_written before b c xid items rel sound comes (all_each (goes_together before b items) items keeps.together) have
rows_by before b c (events.Gone from) rel sound comes keeps have = rows_gone before b c from rel sound comes have
rows_by before b c event rel sound comes keeps have = every-weaker (λ v. IsIndexOf rel v.row → HasIndexRow before rel (versions_of before) v.by) (λ v. IsIndexOf rel v.row → HasIndexRow (before ++ entry_of b c event ∷ []) rel (versions_of before) v.by)
    (λ v has own. some-weaker (λ w. (key_of w.row ≡ keys.Ind rel) × GoesFirst before w.by v.by) (λ w. (key_of w.row ≡ keys.Ind rel) × GoesFirst (before ++ entry_of b c event ∷ []) w.by v.by) (λ w h. (h.0, first_on before (entry_of b c event) w.by v.by h.1)) (versions_of before) (has own)) (versions_of before) have

have_rows : (rel : Oid) (history : List Entry) → IsSound history → EachEntry WritesIndexes history → HaveIndexRows history rel (versions_of history) (versions_of history)
have_rows rel = along_sound WritesIndexes (λ h. HaveIndexRows h rel (versions_of h) (versions_of h)) tt
    (λ before e sound comes keeps was. subst (λ vs. HaveIndexRows (before ++ e ∷ []) rel vs vs) (sym (versions-more before e)) (rows_by before e.backend e.command e.event rel sound comes keeps was))

-- a change that ends a version of the index row takes it away, and its write drops the relation
row_given : (before : List Entry) (b c : ℕ) (xid : Xid) (items : List Item) (rel : Oid) → IsSound before → MayComeNext before (entry_of b c (events.Write xid items)) → (item : Item) → goes_together before b items item ≡ true
    → AllByRecursion (λ v. ends before b item v ≡ true → IsGuarded (held_by b c (events.Write xid items) (held_of before)) b c (main_rel v.row)) (versions_of before)
    → AllByRecursion (λ v. ends before b item v ≡ true → key_of v.row ≡ keys.Ind rel → Gives (λ row. key_of row ≡ keys.Ind rel) item ⊎ IsDropped (before ++ entry_of b c (events.Write xid items) ∷ []) rel (record { xid = xid; command = c })) (versions_of before)
row_given before b c xid items rel sound comes item together guarded =
    every-weaker (λ v. (ends before b item v ≡ true → IsGuarded held b c (main_rel v.row)) × ((main_rel v.row).0 < next_oid before)) (λ v. ends before b item v ≡ true → key_of v.row ≡ keys.Ind rel → Gives (λ row. key_of row ≡ keys.Ind rel) item ⊎ Drops)
    (λ v h is same. of item together v is same (subst (IsGuarded held b c) (index_main rel v.row same) (h.0 is)) (subst (λ o. o.0 < next_oid before) (index_main rel v.row same) h.1)) (versions_of before)
    (every-both (λ v. ends before b item v ≡ true → IsGuarded held b c (main_rel v.row)) (λ v. (main_rel v.row).0 < next_oid before) (versions_of before) guarded (rows_drawn before sound))
  where
    held : List Grant
    held = held_by b c (events.Write xid items) (held_of before)

    Drops : Type 0
    Drops = IsDropped (before ++ entry_of b c (events.Write xid items) ∷ []) rel (record { xid = xid; command = c })

    its_key : (key : RowKey) (v : Version) → (same_key (key_of v.row) key && sees before b v) ≡ true → key_of v.row ≡ keys.Ind rel → key ≡ keys.Ind rel
    its_key key v is same = sym (key_eq (key_of v.row) key (and_parts (same_key (key_of v.row) key) (sees before b v) is).0) ∙ same

    of : (i : Item) → goes_together before b items i ≡ true → (v : Version) → ends before b i v ≡ true → key_of v.row ≡ keys.Ind rel → IsGuarded held b c rel → rel.0 < next_oid before → Gives (λ row. key_of row ≡ keys.Ind rel) i ⊎ Drops
    of (forms.Put row) together' v is same guards low = inl (row, (refl, its_key (key_of row) v is same))
    of (forms.Remove (keys.Ind own)) together' v is same guards low =
        let one : own ≡ rel = (let key : keys.Ind own ≡ keys.Ind rel = its_key (keys.Ind own) v is same in cc) in
        inr (dropped_new before b c xid items rel (sound_ordered before sound) (lasting before sound) comes low (subst (λ o. list_any (takes_relation o) items ≡ true) one together') guards)
    of (forms.Remove (keys.Class own)) together' v is same guards low = absurd (cc (its_key (keys.Class own) v is same))
    of (forms.Remove (keys.Att own num)) together' v is same guards low = absurd (cc (its_key (keys.Att own num) v is same))
    of (forms.Remove (keys.Def own)) together' v is same guards low = absurd (cc (its_key (keys.Def own) v is same))
    of (forms.Remove (keys.Con own)) together' v is same guards low = absurd (cc (its_key (keys.Con own) v is same))
    of (forms.Remove (keys.Trg own)) together' v is same guards low = absurd (cc (its_key (keys.Trg own) v is same))
    of (forms.Add row) together' v is same guards low = absurd (cc)
    of (forms.Force to) together' v is same guards low = absurd (cc)

row_next_by : (rel : Oid) (before : List Entry) (b c : ℕ) (event : Event) → IsSound before → MayComeNext before (entry_of b c event) → KeepsIndexesBy before b event → HaveNext (λ row. key_of row ≡ keys.Ind rel) (IsDropped before rel) (versions_of before)
    → HaveNext (λ row. key_of row ≡ keys.Ind rel) (IsDropped (before ++ entry_of b c event ∷ []) rel) (versions_by before b c event (versions_of before))
row_next_by rel before b c (events.Write xid items) sound comes keeps next =
    next_written IsRow Drops before b stamp items (versions_of before) comes.follows.event.keys
    (every-swap (λ item v. ends before b item v ≡ true → IsRow v.row → Gives IsRow item ⊎ Drops stamp) items (versions_of before)
    (every-weaker (λ item. (goes_together before b items item ≡ true) × Guarded item) (λ item. AllByRecursion (λ v. ends before b item v ≡ true → IsRow v.row → Gives IsRow item ⊎ Drops stamp) (versions_of before))
    (λ item h. row_given before b c xid items rel sound comes item h.0 h.1) items
    (every-both (λ item. goes_together before b items item ≡ true) Guarded items (all_each (goes_together before b items) items keeps.together) guarded)))
    (next-weaker IsRow (IsDropped before rel) Drops (λ s drop. dropped_more before e rel s k (lasting before sound) comes tt drop) (versions_of before) next)
  where
    IsRow : Row → Type 0
    IsRow row = key_of row ≡ keys.Ind rel

    e : Entry
    e = entry_of b c (events.Write xid items)

    k : Ordered before
    k = sound_ordered before sound

    Drops : Stamp → Type 0
    Drops = IsDropped (before ++ e ∷ []) rel

    stamp : Stamp
    stamp = record { xid = xid; command = c }

    Guarded : Item → Type 0
    Guarded item = AllByRecursion (λ v. ends before b item v ≡ true → IsGuarded (held_by b c (events.Write xid items) (held_of before)) b c (main_rel v.row)) (versions_of before)

    guarded : AllByRecursion Guarded items
    guarded = every-weaker (λ item. IfSome (added_row item) (λ row. IsGuarded (held_by b c (events.Write xid items) (held_of before)) b c (main_rel row)) × Guarded item) Guarded (λ item h. h.1) items
        (guards_lawful before b c (events.Write xid items) comes.follows.event comes.orderly k (early_at before e k comes.follows.life))
row_next_by rel before b c (events.Gone from) sound comes keeps next =
    next_gone (λ row. key_of row ≡ keys.Ind rel) (IsDropped before rel) (IsDropped (before ++ entry_of b c (events.Gone from) ∷ []) rel) (is_back before b from)
    (λ s spared drop. dropped_more before (entry_of b c (events.Gone from)) rel s (sound_ordered before sound) (lasting before sound) comes spared drop) (versions_of before) next
row_next_by rel before b c event sound comes keeps next =
    next-weaker (λ row. key_of row ≡ keys.Ind rel) (IsDropped before rel) (IsDropped (before ++ entry_of b c event ∷ []) rel) (λ s drop. dropped_more before (entry_of b c event) rel s (sound_ordered before sound) (lasting before sound) comes tt drop) (versions_of before) next

rows_have_next : (rel : Oid) (history : List Entry) → IsSound history → EachEntry WritesIndexes history → HaveNext (λ row. key_of row ≡ keys.Ind rel) (IsDropped history rel) (versions_of history)
rows_have_next rel = along_sound WritesIndexes (λ h. HaveNext (λ row. key_of row ≡ keys.Ind rel) (IsDropped h rel) (versions_of h)) tt
    (λ before e sound comes keeps next. subst (HaveNext (λ row. key_of row ≡ keys.Ind rel) (IsDropped (before ++ e ∷ []) rel)) (sym (versions-more before e)) (row_next_by rel before e.backend e.command e.event sound comes keeps next))

-- of a sound history whose writes keep indexes whole: a backend that sees the own row of an index sees its index row
pub index_row_seen : (history : List Entry) (b : ℕ) (rel : Oid) (name : List ℕ) → IsSound history → EachEntry WritesIndexes history → IsSeenAs history b rel name Index → SeesRow history b (keys.Ind rel)
index_row_seen history b rel name sound writes seen = of (one_is_seen IsRow (IsDropped history rel) (counts history b) (versions_of history) (rows_have_next rel history sound writes) counted)
  where
    IsRow : Row → Type 0
    IsRow row = key_of row ≡ keys.Ind rel

    Counted : Version → Type 0
    Counted w = IsRow w.row × (counts history b w.by ≡ true)

    own : SomeOf (λ v. IsIndexOf rel v.row × (sees history b v ≡ true)) (versions_of history)
    own = version_seen (IsIndexOf rel) history b (some-weaker (λ row. rows.Class rel name Index seen.0 ≡ row) (IsIndexOf rel) (λ row is. subst (IsIndexOf rel) is refl) (rows_of history b)
        (subst (AllByRecursion (λ row. IsIn row (rows_of history b) × (selects (scans.Class rel) row ≡ true))) seen.1 (given_seen history b (scans.Class rel))).0.0)

    counted : SomeOf Counted (versions_of history)
    counted = from_some (λ v. IsIndexOf rel v.row × (sees history b v ≡ true)) (SomeOf Counted (versions_of history)) (versions_of history)
        (every-weaker (λ v. IsIndexOf rel v.row → HasIndexRow history rel (versions_of history) v.by) (λ v. IsIndexOf rel v.row × (sees history b v ≡ true) → SomeOf Counted (versions_of history))
        (λ v has h. some-weaker (λ w. IsRow w.row × GoesFirst history w.by v.by) Counted (λ w k. (k.0, first_counts history b w.by v.by k.1 (and_parts (counts history b v.by) (not (option_map_or (counts history b) v.ended false)) h.1).0)) (versions_of history) (has h.0)) (versions_of history) (have_rows rel history sound writes))
        own

    of : SomeOf (λ v. IsRow v.row × (sees history b v ≡ true)) (versions_of history) ⊎ IsCounted (IsDropped history rel) (counts history b) → SeesRow history b (keys.Ind rel)
    of (inl is) = is
    of (inr drop) = absurd (dropped_unseen history b rel drop.0 drop.1.1 drop.1.0 (some-weaker (λ v. IsIndexOf rel v.row × (sees history b v ≡ true)) (λ v. (key_of v.row ≡ keys.Class rel) × (sees history b v ≡ true)) (λ v h. (own_key rel v.row h.0, h.1)) (versions_of history) own))
