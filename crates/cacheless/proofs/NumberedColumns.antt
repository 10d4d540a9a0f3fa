-- A backend that keeps others from changing a table sees its columns numbered from 1, and none has the number after the last.
use Rattle.std.proofs.Common.{◌≡◌, ◌≤◌, ◌<◌, ◌∙◌, ◌⊎◌, inl, inr, ℕ, Bool, true, false, not, Option, Some, None, List, [], ◌∷◌, ◌++◌, ◌==◌, ◌||◌, ◌&&◌, ◌+◌, ◌-◌, cond, refl, sym, ap, subst, map, filter, fold, length, arith}
use Rattle.std.specs.Prelude.{⊤, nat_le, nat_lt}
use Rattle.std.specs.List.{AllByRecursion, list_any, list_all, find}
use Rattle.std.specs.Option.{option_map_or, IfSome}
use Rattle.std.proofs.lemmas.Bool.{eqb-true, eq-eqb, both_ways, or_cases, or_left, or_right, and_parts, and_from, not-true, ltb-true, leb-true, le-leb, false_from_ne_true}
use Rattle.base_types.specs.declared.ids.Xid.{Xid}
use Rattle.base_types.specs.declared.mode.Mode.{Mode}
use Rattle.base_types.specs.declared.mode.Mode.TheVariants.{ShareUpdateExclusive, ShareRowExclusive, AccessExclusive}
use Rattle.base_types.specs.declared.row.Row.TheVariants as rows
use Rattle.base_types.specs.declared.row_key.RowKey.{RowKey}
use Rattle.base_types.specs.declared.row_key.RowKey.TheVariants as keys
use Rattle.base_types.specs.declared.scan.Purpose.TheVariants as scans
use Rattle.base_types.specs.RowKeys.{key_of, same_key}
use Rattle.base_types.specs.Modes.{conflicts}
use Rattle.base_types.specs.Scans.{same_oid, selects, row_number}
use Rattle.base_types.proofs.ScanOrder.{scan_of-answers}
use Rattle.row_visibility.specs.declared.version.Version.{Version}
use Rattle.row_visibility.specs.declared.version.Stamp.{Stamp}
use Rattle.event_kinds.specs.declared.entry.Event.TheVariants as events
use Rattle.event_kinds.specs.declared.entry.Item.TheVariants as forms
use Rattle.lock_modes.specs.declared.grant.Grant.{Grant}
use Rattle.history_model.specs.After.{segment_of}
use Rattle.history_model.specs.Prefixes.{EachEntry}
use Rattle.history_model.specs.Transactions.{running_transaction_of, has_xid, runs_as, is_committed}
use Rattle.history_model.specs.Versions.{versions_of, versions_by, change_by, end_by, ends, ended_key, version_of, added_row, is_back, end_back, counts, sees, rows_of, row_with, answer_of}
use Rattle.history_model.specs.Held.{held_of}
use Rattle.history_model.specs.Sent.{lists_of}
use Rattle.history_model.specs.Writes.{has_row}
use Rattle.history_model.specs.Orderly.{has_key, main_rel}
use Rattle.history_model.specs.Sound.{MayComeNext, IsSound}
use Rattle.history_model.proofs.Prefixes.{each-keeps}
use Rattle.history_model.proofs.Reading.{is_committed-kept, running_transaction_of-own as running-own, versions_of-more as versions-more}
use Rattle.history_model.proofs.Every.{every-weaker, every, every-append, every-map, every-filter, every-both, SomeOf, some-weaker, some_with, from_some, some-right}
use Rattle.history_model.proofs.Asking.{oid_eq}
use Rattle.history_model.proofs.Lawful.{IsLawful}
use Rattle.history_model.proofs.Runs.{Runs, one_xid}
use Rattle.history_model.proofs.Exclude.{Agree, AllAgree}
use Rattle.history_model.proofs.Touched.{entry_of, OfStamps, stamps-both, stamps-write, stamps-gone, is_of, Touch}
use Rattle.history_model.proofs.GivenRows.{given_seen, row_given}
use Rattle.history_model.proofs.Guards.{key_eq, key_refl, is_changing, guards, IsGuarded, Guard, any_with}
use Rattle.history_model.proofs.Seen.{runs-after}
use Rattle.history_model.proofs.InOrder.{IsIn, Rises, given_rises}
use Rattle.history_model.proofs.Lives.{begun_at}
use Rattle.history_model.proofs.Ordered.{Ordered, Ordered-start, Ordered-more, all_each, all_kept, find_passes, one_seen, lawful_of, sound_ordered}
use Rattle.history_model.proofs.MaskedRows.{find_some}
use Rattle.history_model.proofs.MaskedScans.{asked_differ}
use Rattle.history_model.proofs.RowMasks.{fixed_mask}
use Rattle.history_model.proofs.WeakChanges.{column_apart}
use Rattle.history_model.proofs.Locked.{changing_modes, bars, IsBarred, AreBarred}
use Rattle.cacheless.specs.Types.{Oid, Row, Purpose, Entry, Event, Item}
use Rattle.cacheless.specs.TableWrites.{gives_key, is_next_column}
use Rattle.cacheless.proofs.AlongSound.{along_sound}
use Rattle.cacheless.proofs.Successors.{by_kept}
use Rattle.cacheless.proofs.VersionsStay.{IsSpared, some_written, some_stays, version_seen, row_seen}

-- the transaction of a stamp is committed, or a backend runs it
abbrev pub Lasts : List Entry → Stamp → Row → Type 0
Lasts history s row = (is_committed history s.xid.0 ≡ true) ⊎ ((a : ℕ) × (runs_as history a s.xid.0 ≡ true))

lasts_on : (history : List Entry) (e : Entry) → Runs history → IsLawful history e → (s : Stamp) (row : Row) → Touch history s row → Lasts history s row → Lasts (history ++ e ∷ []) s row
lasts_on history e r lawful s row touch (inl was) = inl (is_committed-kept history e s.xid.0 was)
lasts_on history e r lawful s row touch (inr runs) = of (runs-after history e.backend e.command e.event runs.0 s row lawful r touch)
  where
    of : (is_committed history s.xid.0 ≡ true) ⊎ (runs_as (history ++ e ∷ []) runs.0 s.xid.0 ≡ runs_as history runs.0 s.xid.0) → Lasts (history ++ e ∷ []) s row
    of (inl was) = inl (is_committed-kept history e s.xid.0 was)
    of (inr same) = inr (runs.0, same ∙ runs.1)

writes_on : (history : List Entry) (b c : ℕ) (xid : Xid) (items : List Item) → runs_as (history ++ entry_of b c (events.Write xid items) ∷ []) b xid.0 ≡ true
writes_on history b c xid items = ap (has_xid xid.0) (running-own history (entry_of b c (events.Write xid items)) b (eq-eqb b b refl)) ∙ eq-eqb xid.0 xid.0 refl

lasting_by : (history : List Entry) (b c : ℕ) (event : Event) → AllByRecursion (OfStamps (Lasts (history ++ entry_of b c event ∷ []))) (versions_of history) → AllByRecursion (OfStamps (Lasts (history ++ entry_of b c event ∷ []))) (versions_by history b c event (versions_of history))
lasting_by history b c (events.Write xid items) old =
    stamps-write (Lasts after) (λ row. ⊤) (segment_of history) b (record { xid = xid; command = c }) (λ row any. inr (b, writes_on history b c xid items)) items (versions_of history)
    (every (λ item. IfSome (added_row item) (λ row. ⊤) × AllByRecursion (λ v. ends history b item v ≡ true → ⊤) (versions_of history)) (λ item. (any (added_row item), every (λ v. ends history b item v ≡ true → ⊤) (λ v is. tt) (versions_of history))) items) old
  where
    after : List Entry
    after = history ++ entry_of b c (events.Write xid items) ∷ []

    any : (o : Option Row) → IfSome o (λ row. ⊤)
    any None = tt
    any (Some row) = tt
lasting_by history b c (events.Gone from) old =
    stamps-gone (Lasts (history ++ entry_of b c (events.Gone from) ∷ [])) (Lasts (history ++ entry_of b c (events.Gone from) ∷ [])) (is_back history b from) (λ s row is h. h) (versions_of history) old
lasting_by history b c event old = old

pub lasting_more : (history : List Entry) (e : Entry) → Ordered history × AllByRecursion (OfStamps (Lasts history)) (versions_of history) → MayComeNext history e → Ordered (history ++ e ∷ []) × AllByRecursion (OfStamps (Lasts (history ++ e ∷ []))) (versions_of (history ++ e ∷ []))
lasting_more history e k comes = (
  Ordered-more history e k.0 comes,
  subst (AllByRecursion (OfStamps (Lasts (history ++ e ∷ [])))) (sym (versions-more history e)) (lasting_by history e.backend e.command e.event
      (every-weaker (λ v. OfStamps (Touch history) v × OfStamps (Lasts history) v) (OfStamps (Lasts (history ++ e ∷ [])))
      (λ v h. stamps-both (Touch history) (Lasts history) (Lasts (history ++ e ∷ [])) (lasts_on history e k.0.runs (lawful_of history e k.0 comes)) v h.0 h.1) (versions_of history)
      (every-both (OfStamps (Touch history)) (OfStamps (Lasts history)) (versions_of history) k.0.touched k.1))),
)

-- the transaction of each stamp on a version is committed, or a backend runs it
pub lasting : (history : List Entry) → IsSound history → AllByRecursion (OfStamps (Lasts history)) (versions_of history)
lasting history sound = (each-keeps MayComeNext (λ h. Ordered h × AllByRecursion (OfStamps (Lasts h)) (versions_of h)) (Ordered-start, tt) lasting_more history sound).1

barred_mode : (held : List Grant) (b : ℕ) (rel : Oid) (mode : Mode) → AreBarred held b rel changing_modes → is_changing mode ≡ true → IsBarred held b rel mode
barred_mode held b rel ShareUpdateExclusive barred is = barred.0
barred_mode held b rel ShareRowExclusive barred is = barred.1.1.0
barred_mode held b rel AccessExclusive barred is = barred.1.1.1.0
barred_mode held b rel mode barred is = absurd (cc)

-- nobody else guards rows of a relation on which each mode under which rows are changed is barred
pub barred_alone : (held : List Grant) (a b c : ℕ) (rel : Oid) → AllAgree held held → AreBarred held b rel changing_modes → IsGuarded held a c rel → a ≡ b
barred_alone held a b c rel agree barred guard = any_with (guards a c rel) (λ g. AllByRecursion (Agree g) held) (a ≡ b) by_guard held guard agree
  where
    by_guard : (g : Grant) → guards a c rel g ≡ true → AllByRecursion (Agree g) held → a ≡ b
    by_guard g is agrees = any_with (bars b rel g.mode) (Agree g) (a ≡ b) by_bar held (barred_mode held b rel g.mode barred parts.1.1) agrees
      where
        parts : ((g.backend == a) ≡ true) × ((same_oid g.rel rel ≡ true) × (is_changing g.mode ≡ true))
        parts =
            let p = and_parts ((g.backend == a) && nat_le g.command c) (same_oid g.rel rel && is_changing g.mode) is in
            ((and_parts (g.backend == a) (nat_le g.command c) p.0).0, and_parts (same_oid g.rel rel) (is_changing g.mode) p.1)

        by_bar : (k : Grant) → bars b rel g.mode k ≡ true → Agree g k → a ≡ b
        by_bar k also agree' =
            let p = and_parts (k.backend == b) (same_oid k.rel rel && conflicts g.mode k.mode) also in
            let q = and_parts (same_oid k.rel rel) (conflicts g.mode k.mode) p.1 in
            by_owner q.1 (eq-eqb g.rel.0 k.rel.0 (eqb-true g.rel.0 rel.0 parts.1.0 ∙ sym (eqb-true k.rel.0 rel.0 q.0))) (eqb-true k.backend b p.0) (g.backend == k.backend) refl
          where
            by_owner : conflicts g.mode k.mode ≡ true → same_oid g.rel k.rel ≡ true → k.backend ≡ b → (t : Bool) → (g.backend == k.backend) ≡ t → a ≡ b
            by_owner clash one owner true same = sym (eqb-true g.backend a parts.0) ∙ eqb-true g.backend k.backend same ∙ owner
            by_owner clash one owner false differ = absurd (both_ways _ (agree' one differ) clash)

-- under such a lock all versions of the relation's rows count
pub barred_counts : (history : List Entry) (b : ℕ) (rel : Oid) → IsSound history → AreBarred (held_of history) b rel changing_modes → AllByRecursion (λ v. main_rel v.row ≡ rel → counts history b v.by ≡ true) (versions_of history)
barred_counts history b rel sound barred =
    every-weaker (λ v. OfStamps (Lasts history) v × OfStamps (Guard history) v) (λ v. main_rel v.row ≡ rel → counts history b v.by ≡ true) (λ v h. of v h.0.0 h.1.0) (versions_of history)
    (every-both (OfStamps (Lasts history)) (OfStamps (Guard history)) (versions_of history) (lasting history sound) k.guards)
  where
    k : Ordered history
    k = sound_ordered history sound

    of : (v : Version) → Lasts history v.by v.row → Guard history v.by v.row → main_rel v.row ≡ rel → counts history b v.by ≡ true
    of v (inl was) guard is = or_left (is_committed history v.by.xid.0) (runs_as history b v.by.xid.0) was
    of v (inr runs) guard is = or_right (is_committed history v.by.xid.0) (runs_as history b v.by.xid.0)
        (subst (λ o. runs_as history o v.by.xid.0 ≡ true) (barred_alone (held_of history) runs.0 b v.by.command rel k.locks.agree barred (subst (IsGuarded (held_of history) runs.0 v.by.command) is (guard runs.0 runs.1))) runs.1)

-- the row of the column with this number
abbrev pub IsColumn : Oid → ℕ → Row → Type 0
IsColumn rel num row = key_of row ≡ keys.Att rel num

-- a stamp goes first: its transaction is committed, or is that of the other stamp, at the same command or an earlier one
abbrev pub GoesFirst : List Entry → Stamp → Stamp → Type 0
GoesFirst history s t = (is_committed history s.xid.0 ≡ true) ⊎ ((s.xid.0 ≡ t.xid.0) × (s.command ≤ t.command))

pub first_then : (history : List Entry) (s t u : Stamp) → GoesFirst history s t → GoesFirst history t u → GoesFirst history s u
first_then history s t u (inl was) next = inl was
first_then history s t u (inr same) (inl was) = inl (subst (λ x. is_committed history x ≡ true) (sym same.0) was)
first_then history s t u (inr same) (inr also) = inr (same.0 ∙ also.0, omega (arith, same.1, also.1))

pub first_on : (history : List Entry) (e : Entry) (s t : Stamp) → GoesFirst history s t → GoesFirst (history ++ e ∷ []) s t
first_on history e s t (inl was) = inl (is_committed-kept history e s.xid.0 was)
first_on history e s t (inr same) = inr same

-- what is committed isn't taken back
pub committed_spared : (history : List Entry) (a c : ℕ) (event : Event) (s : Stamp) → Runs history → IsLawful history (entry_of a c event) → is_committed history s.xid.0 ≡ true → IsSpared history a event s
committed_spared history a c (events.Gone from) s r hidden was = ap (λ u. u && nat_le from s.command) (false_from_ne_true (runs_as history a s.xid.0) (λ runs. both_ways _ (r.hidden a s.xid.0 runs hidden) was))
committed_spared history a c event s r lawful was = tt

-- what goes first isn't taken back alone
pub first_spared : (history : List Entry) (b c : ℕ) (event : Event) (s t : Stamp) → Runs history → IsLawful history (entry_of b c event) → GoesFirst history s t → IsSpared history b event t → IsSpared history b event s
first_spared history b c (events.Gone from) s t r hidden (inl was) spared = committed_spared history b c (events.Gone from) s r hidden was
first_spared history b c (events.Gone from) s t r hidden (inr same) spared = false_from_ne_true (is_back history b from s) (λ back.
    let p = and_parts (runs_as history b s.xid.0) (nat_le from s.command) back in
    both_ways _ spared (and_from (runs_as history b t.xid.0) (nat_le from t.command) (subst (λ x. runs_as history b x ≡ true) same.0 p.0) (le-leb from t.command (omega (arith, leb-true from s.command p.1, same.1)))))
first_spared history b c event s t r lawful first spared = tt

-- of the column of a key that was added by a stamp there is one of the number before it, added by a stamp that goes first; or its number is 1
abbrev pub HasPrevious : List Entry → RowKey → Stamp → Type 0
HasPrevious history (keys.Att rel num) s = (num ≡ 1) ⊎ ((k : ℕ) × ((num ≡ k + 1) × SomeOf (λ v. IsColumn rel k v.row × GoesFirst history v.by s) (versions_of history)))
HasPrevious history key s = ⊤

abbrev pub Numbered : List Entry → Version → Type 0
Numbered history v = HasPrevious history (key_of v.row) v.by

previous_then : (history : List Entry) (key : RowKey) (s t : Stamp) → HasPrevious history key s → GoesFirst history s t → HasPrevious history key t
previous_then history (keys.Att rel num) s t (inl one) first = inl one
previous_then history (keys.Att rel num) s t (inr previous) first =
    inr (previous.0, (previous.1.0, some-weaker (λ v. IsColumn rel previous.0 v.row × GoesFirst history v.by s) (λ v. IsColumn rel previous.0 v.row × GoesFirst history v.by t) (λ v h. (h.0, first_then history v.by s t h.1 first)) (versions_of history) previous.1.1))
previous_then history key s t has first = tt

previous_on : (history : List Entry) (b c : ℕ) (event : Event) (key : RowKey) (s : Stamp) → Runs history → IsLawful history (entry_of b c event) → IsSpared history b event s → HasPrevious history key s → HasPrevious (history ++ entry_of b c event ∷ []) key s
previous_on history b c event (keys.Att rel num) s r lawful spared (inl one) = inl one
previous_on history b c event (keys.Att rel num) s r lawful spared (inr previous) =
    inr (
      previous.0,
      (
        previous.1.0,
        subst (SomeOf (λ v. Earlier v.row v.by)) (sym (versions-more history e)) (some_stays Earlier history b c event (versions_of history)
            (some-weaker (λ v. IsColumn rel previous.0 v.row × GoesFirst history v.by s) (λ v. Earlier v.row v.by × IsSpared history b event v.by) (λ v h. ((h.0, first_on history e v.by s h.1), first_spared history b c event v.by s r lawful h.1 spared)) (versions_of history) previous.1.1)),
      ),
    )
  where
    e : Entry
    e = entry_of b c event

    Earlier : Row → Stamp → Type 0
    Earlier row t = IsColumn rel previous.0 row × GoesFirst (history ++ e ∷ []) t s
previous_on history b c event key s r lawful spared has = tt

-- what holds of the rows that a write gives, and of those that were there
pub every_written : (R : Row → Stamp → Type 0) (before : List Entry) (b : ℕ) (stamp : Stamp) (items : List Item) (vs : List Version) → AllByRecursion (λ item. IfSome (added_row item) (λ row. R row stamp)) items → AllByRecursion (λ v. R v.row v.by) vs
    → AllByRecursion (λ v. R v.row v.by) (fold (change_by before b stamp) vs items)
every_written R before b stamp [] vs new old = old
every_written R before b stamp (item ∷ items) vs new old =
    every_written R before b stamp items (change_by before b stamp vs item) new.1
    (every-append (λ v. R v.row v.by) (map (end_by (ends before b item) stamp) vs) (version_of stamp (added_row item))
    (every-map (λ v. R v.row v.by) (end_by (ends before b item) stamp) vs (every-weaker (λ v. R v.row v.by) (λ v. R (end_by (ends before b item) stamp v).row (end_by (ends before b item) stamp v).by) (by_kept R (ends before b item) stamp) vs old))
    (of (added_row item) new.0))
  where
    of : (o : Option Row) → IfSome o (λ row. R row stamp) → AllByRecursion (λ v. R v.row v.by) (version_of stamp o)
    of None held = tt
    of (Some row) held = (held, tt)

-- a version by the write of a row that a change gives
given_there : (before : List Entry) (b : ℕ) (stamp : Stamp) (key : RowKey) (items : List Item) (vs : List Version) → list_any (gives_key key) items ≡ true → SomeOf (λ v. (key_of v.row ≡ key) × (v.by ≡ stamp)) (fold (change_by before b stamp) vs items)
given_there before b stamp key [] vs some = absurd (cc)
given_there before b stamp key (item ∷ items) vs some = by_place (or_cases (gives_key key item) (list_any (gives_key key) items) some) (given_there before b stamp key items (change_by before b stamp vs item))
  where
    Given : Row → Stamp → Type 0
    Given row by = (key_of row ≡ key) × (by ≡ stamp)

    here : (o : Option Row) → option_map_or (λ row. same_key (key_of row) key) o false ≡ true → SomeOf (λ v. Given v.row v.by) (version_of stamp o)
    here None is = absurd (cc)
    here (Some row) is = inl (key_eq (key_of row) key is, refl)

    by_place : (gives_key key item ≡ true) ⊎ (list_any (gives_key key) items ≡ true) → (list_any (gives_key key) items ≡ true → SomeOf (λ v. Given v.row v.by) (fold (change_by before b stamp) (change_by before b stamp vs item) items))
        → SomeOf (λ v. Given v.row v.by) (fold (change_by before b stamp) (change_by before b stamp vs item) items)
    by_place (inl one) rest = some_written Given before b stamp items (change_by before b stamp vs item) (some-right (λ v. Given v.row v.by) (map (end_by (ends before b item) stamp) vs) (version_of stamp (added_row item)) (here (added_row item) one))
    by_place (inr there) rest = rest there

-- a version of a row that a backend sees by its key
pub row_there : (history : List Entry) (b : ℕ) (key : RowKey) → has_row history b key ≡ true → SomeOf (λ v. (key_of v.row ≡ key) × (sees history b v ≡ true)) (versions_of history)
row_there history b key has = of (row_with history b key) refl has
  where
    of : (o : Option Row) → row_with history b key ≡ o → option_map_or (λ row. true) o false ≡ true → SomeOf (λ v. (key_of v.row ≡ key) × (sees history b v ≡ true)) (versions_of history)
    of None is some = absurd (cc)
    of (Some row) is some =
        let one_key : key_of row ≡ key = key_eq (key_of row) key (find_passes (λ r. same_key (key_of r) key) row (rows_of history b) is) in
        some-weaker (λ v. (sees history b v ≡ true) × (v.row ≡ row)) (λ v. (key_of v.row ≡ key) × (sees history b v ≡ true)) (λ v h. (ap key_of h.1 ∙ one_key, h.0)) (versions_of history)
        (find_some (λ r. same_key (key_of r) key) (sees history b) row (versions_of history) is)

-- what counts for a backend before its write goes first
pub counted_first : (history : List Entry) (b c : ℕ) (xid : Xid) (items : List Item) → Ordered history → MayComeNext history (entry_of b c (events.Write xid items)) → (s : Stamp) (row : Row) → Touch history s row → counts history b s ≡ true
    → GoesFirst history s (record { xid = xid; command = c })
counted_first history b c xid items k comes s row touch counted = by_side (or_cases (is_committed history s.xid.0) (runs_as history b s.xid.0) counted)
  where
    e : Entry
    e = entry_of b c (events.Write xid items)

    by_side : (is_committed history s.xid.0 ≡ true) ⊎ (runs_as history b s.xid.0 ≡ true) → GoesFirst history s (record { xid = xid; command = c })
    by_side (inl was) = inl was
    by_side (inr runs) = of (runs-after history b c (events.Write xid items) b s row (lawful_of history e k comes) k.runs touch)
      where
        of : (is_committed history s.xid.0 ≡ true) ⊎ (runs_as (history ++ e ∷ []) b s.xid.0 ≡ runs_as history b s.xid.0) → GoesFirst history s (record { xid = xid; command = c })
        of (inl was) = inl was
        of (inr same) = inr (
          one_xid s.xid.0 xid.0 (running_transaction_of (history ++ e ∷ []) b) (same ∙ runs) (writes_on history b c xid items),
          any_with (is_of s.command) (λ w. w.command ≤ c) (s.command ≤ c) (λ w here low. omega (arith, eqb-true w.command s.command here, low)) (lists_of history b) (touch.written b runs) (begun_at history e comes.follows.life k.lives).low,
        )

-- and so what a backend sees then
seen_first : (history : List Entry) (b c : ℕ) (xid : Xid) (items : List Item) → Ordered history → MayComeNext history (entry_of b c (events.Write xid items)) → (key : RowKey) → has_row history b key ≡ true
    → SomeOf (λ v. (key_of v.row ≡ key) × GoesFirst history v.by (record { xid = xid; command = c })) (versions_of history)
seen_first history b c xid items k comes key has =
    some_with (λ v. (key_of v.row ≡ key) × (sees history b v ≡ true)) (OfStamps (Touch history)) (λ v. (key_of v.row ≡ key) × GoesFirst history v.by (record { xid = xid; command = c }))
    (λ v h touch. (h.0, counted_first history b c xid items k comes v.by v.row touch.0 (and_parts (counts history b v.by) (not (option_map_or (counts history b) v.ended false)) h.1).0)) (versions_of history) k.touched (row_there history b key has)

numbered_new : (history : List Entry) (b c : ℕ) (xid : Xid) (items : List Item) → Ordered history → MayComeNext history (entry_of b c (events.Write xid items)) → AllByRecursion (Numbered history) (versions_of history)
    → (item : Item) → IfSome (ended_key item) (λ key. has_row history b key ≡ true) → is_next_column history b items item ≡ true
    → IfSome (added_row item) (λ row. HasPrevious (history ++ entry_of b c (events.Write xid items) ∷ []) (key_of row) (record { xid = xid; command = c }))
numbered_new history b c xid items k comes numbered = new
  where
    e : Entry
    e = entry_of b c (events.Write xid items)

    after : List Entry
    after = history ++ e ∷ []

    stamp : Stamp
    stamp = record { xid = xid; command = c }

    on : (key : RowKey) → HasPrevious history key stamp → HasPrevious after key stamp
    on key has = previous_on history b c (events.Write xid items) key stamp k.runs (lawful_of history e k comes) tt has

    given : (rel : Oid) (num : ℕ) → list_any (gives_key (keys.Att rel num)) items ≡ true → SomeOf (λ v. IsColumn rel num v.row × GoesFirst after v.by stamp) (versions_of after)
    given rel num some = some-weaker (λ v. IsColumn rel num v.row × (v.by ≡ stamp)) (λ v. IsColumn rel num v.row × GoesFirst after v.by stamp)
        (λ v h. (h.0, inr (ap (λ s. s.xid.0) h.1, omega (arith, ap (λ s. s.command) h.1)))) (versions_of after)
        (subst (SomeOf (λ v. IsColumn rel num v.row × (v.by ≡ stamp))) (sym (versions-more history e)) (given_there history b stamp (keys.Att rel num) items (versions_of history) some))

    column : (rel : Oid) (num : ℕ) → ((num == 1) || (nat_lt 1 num && (has_row history b (keys.Att rel (num - 1)) || list_any (gives_key (keys.Att rel (num - 1))) items))) ≡ true → HasPrevious after (keys.Att rel num) stamp
    column rel num next = by_number (or_cases (num == 1) _ next)
      where
        by_place : num ≡ (num - 1) + 1 → (has_row history b (keys.Att rel (num - 1)) ≡ true) ⊎ (list_any (gives_key (keys.Att rel (num - 1))) items ≡ true) → HasPrevious after (keys.Att rel num) stamp
        by_place is (inl seen) = on (keys.Att rel num) (inr (num - 1, (is, seen_first history b c xid items k comes (keys.Att rel (num - 1)) seen)))
        by_place is (inr some) = inr (num - 1, (is, given rel (num - 1) some))

        by_number : ((num == 1) ≡ true) ⊎ ((nat_lt 1 num && (has_row history b (keys.Att rel (num - 1)) || list_any (gives_key (keys.Att rel (num - 1))) items)) ≡ true) → HasPrevious after (keys.Att rel num) stamp
        by_number (inl one) = inl (eqb-true num 1 one)
        by_number (inr later) =
            let p = and_parts (nat_lt 1 num) _ later in
            by_place (omega (arith, ltb-true 1 num p.0)) (or_cases (has_row history b (keys.Att rel (num - 1))) (list_any (gives_key (keys.Att rel (num - 1))) items) p.1)

    new : (item : Item) → IfSome (ended_key item) (λ key. has_row history b key ≡ true) → is_next_column history b items item ≡ true → IfSome (added_row item) (λ row. HasPrevious after (key_of row) stamp)
    new (forms.Put row) there next = on (key_of row) (from_some (λ v. (key_of v.row ≡ key_of row) × GoesFirst history v.by stamp) (HasPrevious history (key_of row) stamp) (versions_of history)
        (every-weaker (Numbered history) (λ v. (key_of v.row ≡ key_of row) × GoesFirst history v.by stamp → HasPrevious history (key_of row) stamp)
        (λ v has h. previous_then history (key_of row) v.by stamp (subst (λ key. HasPrevious history key v.by) h.0 has) h.1) (versions_of history) numbered)
        (seen_first history b c xid items k comes (key_of row) there))
    new (forms.Add (rows.Att rel num name col_type stat live)) there next = column rel num next
    new item there next = tt

-- if the event is a write, the columns that it adds have the next numbers
abbrev pub NumbersBy : List Entry → ℕ → Event → Type 0
NumbersBy before b (events.Write xid items) = list_all (is_next_column before b items) items ≡ true
NumbersBy before b event = ⊤

-- so it is with the event of the entry
abbrev pub WritesNumbered : List Entry → Entry → Type 0
WritesNumbered before e = NumbersBy before e.backend e.event

numbered_by : (history : List Entry) (b c : ℕ) (event : Event) → Ordered history → MayComeNext history (entry_of b c event) → NumbersBy history b event → AllByRecursion (Numbered history) (versions_of history)
    → AllByRecursion (Numbered (history ++ entry_of b c event ∷ [])) (versions_by history b c event (versions_of history))
numbered_by history b c (events.Write xid items) k comes numbers numbered =
    every_written (λ row s. HasPrevious after (key_of row) s) history b (record { xid = xid; command = c }) items (versions_of history)
    (every-weaker (λ item. IfSome (ended_key item) (λ key. has_row history b key ≡ true) × (is_next_column history b items item ≡ true)) (λ item. IfSome (added_row item) (λ row. HasPrevious after (key_of row) (record { xid = xid; command = c })))
    (λ item h. numbered_new history b c xid items k comes numbered item h.0 h.1) items
    (every-both (λ item. IfSome (ended_key item) (λ key. has_row history b key ≡ true)) (λ item. is_next_column history b items item ≡ true) items (all_kept (has_row history b) ended_key items comes.follows.event.there) (all_each (is_next_column history b items) items numbers)))
    (every-weaker (Numbered history) (Numbered after) (λ v has. previous_on history b c (events.Write xid items) (key_of v.row) v.by k.runs (lawful_of history (entry_of b c (events.Write xid items)) k comes) tt has) (versions_of history) numbered)
  where
    after : List Entry
    after = history ++ entry_of b c (events.Write xid items) ∷ []
numbered_by history b c (events.Gone from) k comes numbers numbered =
    every-map (Numbered after) (end_back back) (filter (λ v. not (back v.by)) (versions_of history))
    (every-filter (λ v. Numbered after (end_back back v)) (λ v. not (back v.by)) (versions_of history)
    (every-weaker (Numbered history) (λ v. not (back v.by) ≡ true → Numbered after (end_back back v))
    (λ v has kept. previous_on history b c (events.Gone from) (key_of v.row) v.by k.runs (lawful_of history (entry_of b c (events.Gone from)) k comes) (not-true (back v.by) kept) has) (versions_of history) numbered))
  where
    after : List Entry
    after = history ++ entry_of b c (events.Gone from) ∷ []

    back : Stamp → Bool
    back = is_back history b from
numbered_by history b c event k comes numbers numbered =
    every-weaker (Numbered history) (Numbered (history ++ entry_of b c event ∷ [])) (λ v has. previous_on history b c event (key_of v.row) v.by k.runs (lawful_of history (entry_of b c event) k comes) tt has) (versions_of history) numbered

-- where writes number columns so, each column has number 1 or there is one of the number before it
numbered_all : (history : List Entry) → IsSound history → EachEntry WritesNumbered history → AllByRecursion (Numbered history) (versions_of history)
numbered_all = along_sound WritesNumbered (λ h. AllByRecursion (Numbered h) (versions_of h)) tt
    (λ before e sound comes numbers numbered. subst (AllByRecursion (Numbered (before ++ e ∷ []))) (sym (versions-more before e)) (numbered_by before e.backend e.command e.event (sound_ordered before sound) comes numbers numbered))

-- of rows that rise, each of which has the number after a smaller one or after that of another, the last has the number that counts them
record AreInStep (low : ℕ) (given : List Row) : Type 0 where
  most : AllByRecursion (λ row. row_number row ≤ low + length given) given
  last : (length given ≡ 0) ⊎ SomeOf (λ row. row_number row ≡ low + length given) given

in_step : (low : ℕ) (given : List Row) → Rises given → AllByRecursion (λ row. low < row_number row) given → AllByRecursion (λ row. (row_number row ≡ low + 1) ⊎ SomeOf (λ other. row_number row ≡ row_number other + 1) given) given → AreInStep low given
in_step low [] rises above steps = record { most = tt; last = inl refl }
in_step low (row ∷ given) rises above steps = of (in_step (low + 1) given rises.1 (every-weaker (λ other. row_number row < row_number other) (λ other. low + 1 < row_number other) (λ other less. omega (arith, less, first)) given rises.0)
    (every-weaker (λ other. (row_number row < row_number other) × ((row_number other ≡ low + 1) ⊎ SomeOf (λ x. row_number other ≡ row_number x + 1) (row ∷ given))) (λ other. (row_number other ≡ low + 1 + 1) ⊎ SomeOf (λ x. row_number other ≡ row_number x + 1) given) (λ other h. rest other h.0 h.1) given
    (every-both (λ other. row_number row < row_number other) (λ other. (row_number other ≡ low + 1) ⊎ SomeOf (λ x. row_number other ≡ row_number x + 1) (row ∷ given)) given rises.0 steps.1)))
  where
    first : row_number row ≡ low + 1
    first = by_step steps.0
      where
        by_step : (row_number row ≡ low + 1) ⊎ SomeOf (λ x. row_number row ≡ row_number x + 1) (row ∷ given) → row_number row ≡ low + 1
        by_step (inl is) = is
        by_step (inr (inl self)) = absurd (omega (arith, self))
        by_step (inr (inr later)) = absurd (from_some (λ x. row_number row ≡ row_number x + 1) ⊥ given (every-weaker (λ x. row_number row < row_number x) (λ x. row_number row ≡ row_number x + 1 → ⊥) (λ x less is. omega (arith, less, is)) given rises.0) later)

    rest : (other : Row) → row_number row < row_number other → (row_number other ≡ low + 1) ⊎ SomeOf (λ x. row_number other ≡ row_number x + 1) (row ∷ given) → (row_number other ≡ low + 1 + 1) ⊎ SomeOf (λ x. row_number other ≡ row_number x + 1) given
    rest other less (inl is) = absurd (omega (arith, less, is, first))
    rest other less (inr (inl next)) = inl (omega (arith, next, first))
    rest other less (inr (inr later)) = inr later

    of : AreInStep (low + 1) given → AreInStep low (row ∷ given)
    of step = record {
      most = (omega (arith, first), every-weaker (λ other. row_number other ≤ low + 1 + length given) (λ other. row_number other ≤ low + length (row ∷ given)) (λ other most. omega (arith, most)) given step.most);
      last = inr (by_last step.last);
    }
      where
        by_last : (length given ≡ 0) ⊎ SomeOf (λ other. row_number other ≡ low + 1 + length given) given → SomeOf (λ other. row_number other ≡ low + length (row ∷ given)) (row ∷ given)
        by_last (inl none) = inl (omega (arith, first, none))
        by_last (inr there) = inr (some-weaker (λ other. row_number other ≡ low + 1 + length given) (λ other. row_number other ≡ low + length (row ∷ given)) (λ other is. omega (arith, is)) given there)

-- an element that passes the test
pub any_some : {X : Type 0} (p : X → Bool) (xs : List X) → list_any p xs ≡ true → SomeOf (λ x. p x ≡ true) xs
any_some p [] some = absurd (cc)
any_some p (x ∷ xs) some = of (or_cases (p x) (list_any p xs) some) (any_some p xs)
  where
    of : (p x ≡ true) ⊎ (list_any p xs ≡ true) → (list_any p xs ≡ true → SomeOf (λ y. p y ≡ true) xs) → SomeOf (λ y. p y ≡ true) (x ∷ xs)
    of (inl here) rest = inl here
    of (inr there) rest = inr (rest there)

some_found : (p : Row → Bool) (seen : List Row) → SomeOf (λ row. p row ≡ true) seen → option_map_or (λ row. true) (find p seen) false ≡ true
some_found p [] some = absurd some
some_found p (row ∷ seen) some = of (p row) refl some (some_found p seen)
  where
    of : (t : Bool) → p row ≡ t → (p row ≡ true) ⊎ SomeOf (λ x. p x ≡ true) seen → (SomeOf (λ x. p x ≡ true) seen → option_map_or (λ x. true) (find p seen) false ≡ true) → option_map_or (λ x. true) (cond t (Some row) (find p seen)) false ≡ true
    of true passes here rest = refl
    of false fails (inl here) rest = absurd (both_ways _ fails here)
    of false fails (inr there) rest = rest there

-- the columns of a table that a backend sees are numbered from 1: no version has the next number, and the last column is seen
pub record AreNumbered (history : List Entry) (b : ℕ) (rel : Oid) : Type 0 where
  pub free : has_key history (keys.Att rel (length (answer_of history b (scans.Attribute rel)) + 1)) ≡ false
  pub last : (length (answer_of history b (scans.Attribute rel)) ≡ 0) ⊎ (has_row history b (keys.Att rel (length (answer_of history b (scans.Attribute rel)))) ≡ true)

-- so it is where the backend sees each column of which it counts a version, and keeps others from holding each mode under which rows of the table are changed
pub numbered_where : (history : List Entry) (b : ℕ) (rel : Oid) → IsSound history → EachEntry WritesNumbered history
    → ((num : ℕ) → SomeOf (λ v. IsColumn rel num v.row × (counts history b v.by ≡ true)) (versions_of history) → SomeOf (λ v. IsColumn rel num v.row × (sees history b v ≡ true)) (versions_of history)) → AreBarred (held_of history) b rel changing_modes
    → AreNumbered history b rel
numbered_where history b rel sound numbers seen barred = record {
  free = false_from_ne_true (has_key history (keys.Att rel (n + 1))) (λ has.
      from_some (λ row. row_number row ≡ n + 1) ⊥ given (every-weaker (λ row. row_number row ≤ 0 + n) (λ row. row_number row ≡ n + 1 → ⊥) (λ row most is. omega (arith, most, is)) given step.most)
      (there (n + 1) (some-weaker (λ v. same_key (key_of v.row) (keys.Att rel (n + 1)) ≡ true) (λ v. IsColumn rel (n + 1) v.row) (λ v is. key_eq (key_of v.row) (keys.Att rel (n + 1)) is) (versions_of history)
      (any_some (λ v. same_key (key_of v.row) (keys.Att rel (n + 1))) (versions_of history) has))));
  last = by_last step.last;
}
  where
    d : Purpose
    d = scans.Attribute rel

    given : List Row
    given = answer_of history b d

    n : ℕ
    n = length given

    -- a column of which there is a version is given
    there : (num : ℕ) → SomeOf (λ v. IsColumn rel num v.row) (versions_of history) → SomeOf (λ row. row_number row ≡ num) given
    there num some = some-weaker (IsColumn rel num) (λ row. row_number row ≡ num) number given
        (row_given (IsColumn rel num) history b d asks (row_seen (IsColumn rel num) history b (seen num
        (some_with (λ v. IsColumn rel num v.row) (λ v. main_rel v.row ≡ rel → counts history b v.by ≡ true) (λ v. IsColumn rel num v.row × (counts history b v.by ≡ true)) (λ v is counted. (is, counted (main v.row is))) (versions_of history)
        (barred_counts history b rel sound barred) some))))
      where
        number : (row : Row) → IsColumn rel num row → row_number row ≡ num
        number (rows.Att of own name col_type stat live) is = cc
        number row is = absurd (cc)

        asks : (row : Row) → IsColumn rel num row → selects d row ≡ true
        asks (rows.Att of own name col_type stat live) is = let same : of ≡ rel = cc in eq-eqb of.0 rel.0 (ap (λ o. o.0) same)
        asks row is = absurd (cc)

        main : (row : Row) → IsColumn rel num row → main_rel row ≡ rel
        main (rows.Att of own name col_type stat live) is = cc
        main row is = absurd (cc)

    column : (row : Row) → selects d row ≡ true → IsColumn rel (row_number row) row
    column (rows.Att of own name col_type stat live) is = ap (λ o. keys.Att o own) (oid_eq of rel is)
    column row is = absurd (cc)

    -- a column that is given has number 1, or that of the number before it is given too
    previous : (row : Row) → IsIn row (rows_of history b) → selects d row ≡ true → (row_number row ≡ 0 + 1) ⊎ SomeOf (λ other. row_number row ≡ row_number other + 1) given
    previous row there' asks =
        from_some (λ v. IsColumn rel (row_number row) v.row) ((row_number row ≡ 0 + 1) ⊎ SomeOf (λ other. row_number row ≡ row_number other + 1) given) (versions_of history)
        (every-weaker (Numbered history) (λ v. IsColumn rel (row_number row) v.row → (row_number row ≡ 0 + 1) ⊎ SomeOf (λ other. row_number row ≡ row_number other + 1) given) (λ v has is. of v.by (subst (λ key. HasPrevious history key v.by) is has)) (versions_of history)
        (numbered_all history sound numbers))
        (some-weaker (λ v. (row ≡ v.row) × (sees history b v ≡ true)) (λ v. IsColumn rel (row_number row) v.row) (λ v h. subst (IsColumn rel (row_number row)) h.0 (column row asks)) (versions_of history) (version_seen (λ r. row ≡ r) history b there'))
      where
        of : (s : Stamp) → HasPrevious history (keys.Att rel (row_number row)) s → (row_number row ≡ 0 + 1) ⊎ SomeOf (λ other. row_number row ≡ row_number other + 1) given
        of s (inl one) = inl one
        of s (inr before) = inr (some-weaker (λ other. row_number other ≡ before.0) (λ other. row_number row ≡ row_number other + 1) (λ other is. omega (arith, is, before.1.0)) given
            (there before.0 (some-weaker (λ v. IsColumn rel before.0 v.row × GoesFirst history v.by s) (λ v. IsColumn rel before.0 v.row) (λ v h. h.0) (versions_of history) before.1.1)))

    steps : AllByRecursion (λ row. (row_number row ≡ 0 + 1) ⊎ SomeOf (λ other. row_number row ≡ row_number other + 1) given) given
    steps = every-weaker (λ row. IsIn row (rows_of history b) × (selects d row ≡ true)) (λ row. (row_number row ≡ 0 + 1) ⊎ SomeOf (λ other. row_number row ≡ row_number other + 1) given) (λ row h. previous row h.0 h.1) given (given_seen history b d)

    rises : Rises given
    rises = given_rises d (filter (selects d) (rows_of history b)) (scan_of-answers d (rows_of history b)).order ((column_apart rel).by_number (rows_of history b))
        (asked_differ (fixed_mask rel) d (column_apart rel) (sees history b) (versions_of history) (one_seen history b (versions_of history) (sound_ordered history sound).one))

    step : AreInStep 0 given
    step = in_step 0 given rises (every-weaker (λ row. (row_number row ≡ 0 + 1) ⊎ SomeOf (λ other. row_number row ≡ row_number other + 1) given) (λ row. 0 < row_number row) positive given steps) steps
      where
        positive : (row : Row) → (row_number row ≡ 0 + 1) ⊎ SomeOf (λ other. row_number row ≡ row_number other + 1) given → 0 < row_number row
        positive row (inl one) = omega (arith, one)
        positive row (inr next) = from_some (λ other. row_number row ≡ row_number other + 1) (0 < row_number row) given (every (λ other. row_number row ≡ row_number other + 1 → 0 < row_number row) (λ other is. omega (arith, is)) given) next

    by_last : (length given ≡ 0) ⊎ SomeOf (λ row. row_number row ≡ 0 + length given) given → (n ≡ 0) ⊎ (has_row history b (keys.Att rel n) ≡ true)
    by_last (inl none) = inl none
    by_last (inr some) = inr (from_some (λ row. row_number row ≡ 0 + n) (has_row history b (keys.Att rel n) ≡ true) given
        (every-weaker (λ row. IsIn row (rows_of history b) × (selects d row ≡ true)) (λ row. row_number row ≡ 0 + n → has_row history b (keys.Att rel n) ≡ true)
        (λ row h is. let last : row_number row ≡ n = omega (arith, is) in some_found (λ r. same_key (key_of r) (keys.Att rel n)) (rows_of history b)
        (some-weaker (λ r. row ≡ r) (λ r. same_key (key_of r) (keys.Att rel n) ≡ true)
        (λ r same. subst (λ key. same_key key (keys.Att rel n) ≡ true) (sym (ap key_of (sym same) ∙ column row h.1 ∙ ap (keys.Att rel) last)) (key_refl (keys.Att rel n))) (rows_of history b) h.0)) given (given_seen history b d)) some)
