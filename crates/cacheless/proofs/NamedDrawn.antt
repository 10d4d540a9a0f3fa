-- The relations that rows name are drawn, and so are those of the rows that a backend's scans have given.
use Rattle.std.proofs.Common.{◌≡◌, ◌<◌, ◌≤◌, ◌∙◌, ◌==◌, ◌&&◌, ℕ, Bool, true, false, Option, Some, None, List, [], ◌∷◌, ◌++◌, refl, sym, ap, subst, filter, cond, take, drop, append_assoc, append-nil, arith}
use Rattle.std.specs.Prelude.{nat_le}
use Rattle.std.specs.List.{AllByRecursion, find, flat_map}
use Rattle.std.specs.Option.{IfSome, option_map_or}
use Rattle.std.proofs.lemmas.Bool.{and_parts}
use Rattle.std.proofs.lemmas.List.{take-append-drop}
use Rattle.base_types.specs.RowKeys.{key_of, same_key}
use Rattle.base_types.specs.Scans.{same_oid, selects}
use Rattle.base_types.specs.declared.ids.Xid.{Xid}
use Rattle.base_types.specs.declared.row.ConKind.{ConKind}
use Rattle.base_types.specs.declared.row.ConKind.TheVariants as demands
use Rattle.base_types.specs.declared.row.Row.TheVariants as rows
use Rattle.base_types.specs.declared.row_key.RowKey.{RowKey}
use Rattle.event_kinds.specs.declared.entry.Event.TheVariants as events
use Rattle.event_kinds.specs.declared.entry.Item.TheVariants as forms
use Rattle.lock_modes.specs.declared.grant.Grant.{Grant}
use Rattle.row_visibility.specs.declared.version.Stamp.{Stamp}
use Rattle.history_model.specs.After.{segment_of}
use Rattle.history_model.specs.Drawn.{next_oid}
use Rattle.history_model.specs.Held.{held_by, held_of}
use Rattle.history_model.specs.MayFollow.{AllowsEvent}
use Rattle.history_model.specs.Orderly.{IsOrderlyEvent}
use Rattle.history_model.specs.Sound.{MayComeNext, IsSound}
use Rattle.history_model.specs.Read.{place_read, rows_read}
use Rattle.history_model.specs.Versions.{versions_of, versions_by, sees, rows_of, answer_of, added_row, old_row, ended_key, row_with, ends, is_back}
use Rattle.history_model.specs.Changing.{relations_of, relations_changed, is_validation, validates}
use Rattle.history_model.proofs.Asking.{oid_eq}
use Rattle.history_model.proofs.EnoughModes.{is_enough, IsHeldFor}
use Rattle.history_model.proofs.Every.{every, every-weaker, every-append, every-map, every-filter, every-kept, every-both}
use Rattle.history_model.proofs.Guards.{guards_in, IsHeldIn, any_with}
use Rattle.history_model.proofs.InOrder.{every_given}
use Rattle.history_model.proofs.Ordered.{sound_ordered, locks_exclude, early_at, guarded_rows}
use Rattle.history_model.proofs.Prefixes.{EachEntry-more, EachEntry-prefix, each-keeps}
use Rattle.history_model.proofs.Reached.{next_rises}
use Rattle.history_model.proofs.Reading.{versions_of-more, held_of-more}
use Rattle.history_model.proofs.Touched.{entry_of, OfStamps, stamps-weaker, stamps-write, stamps-gone}
use Rattle.cacheless.specs.Types.{Oid, Row, Purpose, Entry, Event, Item}
use Rattle.cacheless.specs.ActsDone.{IsDrawn}
use Rattle.cacheless.proofs.Answers.ReadPlaces.{read_at_place}
use Rattle.cacheless.proofs.SameRows.{row_decides}

-- all relations that a row names have oids below this one
abbrev AreBelow : ℕ → Row → Type 0
AreBelow next row = AllByRecursion (λ (o : Oid). o.0 < next) (relations_of row)

-- whatever the stamp
abbrev AreBelowAt : ℕ → Stamp → Row → Type 0
AreBelowAt next s row = AreBelow next row

-- a relation on which a mode is held is drawn
held_below : (test : _) (next : ℕ) (held : List Grant) (a c : ℕ) (rel : Oid) → AllByRecursion (λ g. g.rel.0 < next) held → IsHeldIn test held a c rel → rel.0 < next
held_below test next held a c rel drawn is = any_with (guards_in test a c rel) (λ g. g.rel.0 < next) (rel.0 < next)
    (λ g here low. subst (λ (o : Oid). o.0 < next) (oid_eq g.rel rel (and_parts (same_oid g.rel rel) (test g.mode) (and_parts ((g.backend == a) && nat_le g.command c) (same_oid g.rel rel && test g.mode) here).1).0) low) held is drawn

-- a constraint names the same relations whether it is known to hold or not
known_alike : (oid rel : Oid) (own : List ℕ) (valid other : Bool) (what : ConKind) → relations_of (rows.Con oid rel own valid what) ≡ relations_of (rows.Con oid rel own other what)
known_alike oid rel own valid other (demands.Check text) = refl
known_alike oid rel own valid other (demands.Foreign num refrel refnum) = refl

validated_alike : (old new : Row) → validates (Some old) new ≡ true → relations_of old ≡ relations_of new
validated_alike (rows.Con oid rel own valid what) (rows.Con to of name other what') is = known_alike oid rel own valid other what ∙ ap relations_of ((row_decides (rows.Con oid rel own other what) (rows.Con to of name other what')).0 is)
validated_alike (rows.Con oid rel own valid what) new is = absurd (cc is)
validated_alike old new is = absurd (cc is)

-- unless it is one that is validated, each relation of a changed row is one on which a mode is held
all_changed : (row : Row) → relations_changed false row ≡ relations_of row
all_changed (rows.Con oid rel own valid (demands.Foreign num refrel refnum)) = refl
all_changed (rows.Con oid rel own valid (demands.Check text)) = refl
all_changed row = refl

-- what holds of all rows holds of one that is found
found_holds : (P : Row → Type 0) (p : Row → Bool) (given : List Row) (row : Row) → AllByRecursion P given → find p given ≡ Some row → P row
found_holds P p [] row all is = absurd (cc is)
found_holds P p (x ∷ given) row all is = by_test (p x) is (found_holds P p given row all.1)
  where
    by_test : (t : Bool) → cond t (Some x) (find p given) ≡ Some row → (find p given ≡ Some row → P row) → P row
    by_test true here more = let same : x ≡ row = cc here in subst P same all.0
    by_test false there more = more there

old_holds : (P : Row → Type 0) (history : List Entry) (b : ℕ) (item : Item) (row : Row) → AllByRecursion P (rows_of history b) → old_row history b item ≡ Some row → P row
old_holds P history b item row all is = by_key (ended_key item) is
  where
    by_key : (o : Option RowKey) → option_map_or (row_with history b) o None ≡ Some row → P row
    by_key None none = absurd (cc none)
    by_key (Some key) found = found_holds P (λ r. same_key (key_of r) key) (rows_of history b) row all found

module _ (history : List Entry) (b c : ℕ) (next : ℕ) (held : List Grant) (drawn : AllByRecursion (λ g. g.rel.0 < next) held) (seen : AllByRecursion (AreBelow next) (rows_of history b)) where
  -- the relations of a row that a change adds
  added_below : (item : Item) (row : Row) → added_row item ≡ Some row → IsHeldFor held b c (old_row history b item) item row → AreBelow next row
  added_below item row adds held_for = by_kind (is_validation (old_row history b item) item) refl held_for.1
    where
      Held : Oid → Type 0
      Held rel = IsHeldIn (is_enough (old_row history b item) item rel) held b c rel

      validated : (x : Item) (o : Option Row) → added_row x ≡ Some row → old_row history b item ≡ o → is_validation o x ≡ true → AreBelow next row
      validated (forms.Put new) (Some old) adds' was is = let same : new ≡ row = cc adds' in
          subst (AreBelow next) same (subst (AllByRecursion (λ (o : Oid). o.0 < next)) (validated_alike old new is) (old_holds (AreBelow next) history b item old seen was))
      validated (forms.Put new) None adds' was is = absurd (cc is)
      validated (forms.Add new) o adds' was is = absurd (cc is)
      validated (forms.Remove key) o adds' was is = absurd (cc is)
      validated (forms.Force rel) o adds' was is = absurd (cc is)

      by_kind : (t : Bool) → is_validation (old_row history b item) item ≡ t → AllByRecursion Held (relations_changed t row) → AreBelow next row
      by_kind true is all = validated item (old_row history b item) adds refl is
      by_kind false is all = subst (AllByRecursion (λ (o : Oid). o.0 < next)) (all_changed row)
          (every-weaker Held (λ (o : Oid). o.0 < next) (λ rel h. held_below (is_enough (old_row history b item) item rel) next held b c rel drawn h) (relations_changed false row) all)

-- of the rows that are seen
seen_below : (history : List Entry) (b : ℕ) (next : ℕ) → AllByRecursion (λ v. AreBelow next v.row) (versions_of history) → AllByRecursion (AreBelow next) (rows_of history b)
seen_below history b next all = every-map (AreBelow next) (λ v. v.row) (filter (sees history b) (versions_of history)) (every-kept (λ v. AreBelow next v.row) (sees history b) (versions_of history) all)

below_by_event : (history : List Entry) (b c : ℕ) (event : Event) → IsSound history → MayComeNext history (entry_of b c event) → AllByRecursion (OfStamps (AreBelowAt (next_oid history))) (versions_of history)
    → AllByRecursion (OfStamps (AreBelowAt (next_oid (history ++ entry_of b c event ∷ [])))) (versions_by history b c event (versions_of history))
below_by_event history b c event sound comes below = of event refl
  where
    after : List Entry
    after = history ++ entry_of b c event ∷ []

    next : ℕ
    next = next_oid after

    rises : (row : Row) → AreBelow (next_oid history) row → AreBelow next row
    rises row all = every-weaker (λ (o : Oid). o.0 < next_oid history) (λ (o : Oid). o.0 < next) (λ o low. omega (arith, low, next_rises history (entry_of b c event))) (relations_of row) all

    later : AllByRecursion (OfStamps (AreBelowAt next)) (versions_of history)
    later = every-weaker (OfStamps (AreBelowAt (next_oid history))) (OfStamps (AreBelowAt next)) (λ v. stamps-weaker (AreBelowAt (next_oid history)) (AreBelowAt next) (λ s row all. rises row all) v) (versions_of history) below

    held : AllByRecursion (λ g. g.rel.0 < next) (held_of after)
    held = (locks_exclude after (EachEntry-more MayComeNext history (entry_of b c event) sound comes)).drawn

    seen : AllByRecursion (AreBelow next) (rows_of history b)
    seen = seen_below history b next (every-weaker (OfStamps (AreBelowAt next)) (λ v. AreBelow next v.row) (λ v all. all.0) (versions_of history) later)

    added : (xid : Xid) (items : List Item) → event ≡ events.Write xid items → AllByRecursion (λ item. IfSome (added_row item) (AreBelow next)) items
    added xid items is = every-weaker Guarded (λ item. IfSome (added_row item) (AreBelow next)) (λ item both. by_row item (added_row item) refl both.0) items
        (guarded_rows history b c xid items (subst (AllowsEvent history b c) is comes.follows.event).guarded (subst (IsOrderlyEvent history b) is comes.orderly).keeps (early_at history (entry_of b c event) (sound_ordered history sound) comes.follows.life))
      where
        in_write : List Grant
        in_write = held_by b c (events.Write xid items) (held_of history)

        Guarded : Item → Type 0
        Guarded item = IfSome (added_row item) (IsHeldFor in_write b c (old_row history b item) item) × IfSome (old_row history b item) (IsHeldFor in_write b c (old_row history b item) item)

        by_row : (item : Item) (o : Option Row) → added_row item ≡ o → IfSome o (IsHeldFor in_write b c (old_row history b item) item) → IfSome o (AreBelow next)
        by_row item None adds held_for = tt
        by_row item (Some row) adds held_for = added_below history b c next in_write (subst (AllByRecursion (λ g. g.rel.0 < next)) (held_of-more history (entry_of b c event) ∙ ap (λ x. held_by b c x (held_of history)) is) held) seen item row adds held_for

    of : (x : Event) → event ≡ x → AllByRecursion (OfStamps (AreBelowAt next)) (versions_by history b c x (versions_of history))
    of (events.Write xid items) is = stamps-write (AreBelowAt next) (AreBelow next) (segment_of history) b (record { xid = xid; command = c }) (λ row all. all) items (versions_of history)
        (every-both (λ item. IfSome (added_row item) (AreBelow next)) (λ item. AllByRecursion (λ v. ends history b item v ≡ true → AreBelow next v.row) (versions_of history)) items (added xid items is)
        (every (λ item. AllByRecursion (λ v. ends history b item v ≡ true → AreBelow next v.row) (versions_of history)) (λ item. every-weaker (OfStamps (AreBelowAt next)) (λ v. ends history b item v ≡ true → AreBelow next v.row) (λ v all ended. all.0) (versions_of history) later) items)) later
    of (events.Gone from) is = stamps-gone (AreBelowAt next) (AreBelowAt next) (is_back history b from) (λ s row back all. all) (versions_of history) later
    of x is = later

-- in a sound history the relations that each version names are drawn
names_drawn : (history : List Entry) → IsSound history → AllByRecursion (λ v. AreBelow (next_oid history) v.row) (versions_of history)
names_drawn history sound = every-weaker (OfStamps (AreBelowAt (next_oid history))) (λ v. AreBelow (next_oid history) v.row) (λ v all. all.0) (versions_of history)
    (each-keeps MayComeNext (λ h. IsSound h × AllByRecursion (OfStamps (AreBelowAt (next_oid h))) (versions_of h)) (tt, tt)
    (λ before e k comes. (EachEntry-more MayComeNext before e k.0 comes, subst (AllByRecursion (OfStamps (AreBelowAt (next_oid (before ++ e ∷ []))))) (sym (versions_of-more before e)) (below_by_event before e.backend e.command e.event k.0 comes k.1))) history sound).1

-- and so are those of what a scan gives
given_names : (history : List Entry) (b : ℕ) (scan : Purpose) → IsSound history → AllByRecursion (AreBelow (next_oid history)) (answer_of history b scan)
given_names history b scan sound = every_given (AreBelow (next_oid history)) scan [] (filter (selects scan) (rows_of history b)) tt
    (every-filter (AreBelow (next_oid history)) (selects scan) (rows_of history b) (every-weaker (AreBelow (next_oid history)) (λ row. selects scan row ≡ true → AreBelow (next_oid history) row) (λ row is asked. is) (rows_of history b)
    (seen_below history b (next_oid history) (names_drawn history sound))))

-- all rows
flat_named : (history : List Entry) (given : List Row) → AllByRecursion (AreBelow (next_oid history)) given → AllByRecursion (IsDrawn history) (flat_map relations_of given)
flat_named history [] all = tt
flat_named history (row ∷ given) all = every-append (IsDrawn history) (relations_of row) (flat_map relations_of given) all.0 (flat_named history given all.1)

next_along : (history more : List Entry) → next_oid history ≤ next_oid (history ++ more)
next_along history [] = let same = ap next_oid (append-nil history) in omega (arith, same)
next_along history (e ∷ more) =
    let same = ap next_oid (append_assoc history (e ∷ []) more) in
    omega (arith, same, next_rises history e, next_along (history ++ e ∷ []) more)

-- and of what a backend has read last
pub read_names : (history : List Entry) (b : ℕ) (scan : Purpose) → IsSound history → (given : List Row) → rows_read history b scan ≡ given → AllByRecursion (IsDrawn history) (flat_map relations_of given)
read_names history b scan sound given read = every-weaker (IsDrawn before) (IsDrawn history) (λ rel low. omega (arith, low, rises)) (flat_map relations_of given)
    (flat_named before given (subst (AllByRecursion (AreBelow (next_oid before))) (read_at_place history b scan ∙ read) (given_names before b scan (EachEntry-prefix MayComeNext before later (subst IsSound whole sound)))))
  where
    before : List Entry
    before = take (place_read history b scan) history

    later : List Entry
    later = drop (place_read history b scan) history

    whole : history ≡ before ++ later
    whole = sym (take-append-drop (place_read history b scan) history)

    rises : next_oid before ≤ next_oid history
    rises = let same = ap next_oid whole in omega (arith, same, next_along before later)
