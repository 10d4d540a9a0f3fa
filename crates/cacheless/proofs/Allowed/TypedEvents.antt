-- What a typed session may do next has a text: names, oids and changes by its plan, and numbers by what the history allows.
use Rattle.std.proofs.Common.{◌≡◌, ◌≤◌, ◌+◌, ◌-◌, ℕ, Bool, true, false, Option, Some, None, List, [], ◌∷◌, ◌++◌, ◌==◌, ◌&&◌, refl, sym, ap, subst, cond, filter, map, take, nat_le, arith}
use Rattle.std.specs.Prelude.{⊤, IfSome}
use Rattle.std.specs.Option.{option_map, option_map_or}
use Rattle.std.specs.List.{AllByRecursion, list_any, flat_map, cons_option}
use Rattle.std.specs.Str.{bytes_eq}
use Rattle.std.proofs.lemmas.Bool.{and_parts, eqb-true, leb-true}
use Rattle.std.proofs.lemmas.Slice.Eq.{bytes_eq-Decides}
use Rattle.base_types.specs.Names.{IsAnyName}
use Rattle.base_types.specs.Scans.{same_scan, build_scans}
use Rattle.base_types.specs.declared.change.Change.{Change}
use Rattle.base_types.specs.declared.change.Change.TheVariants.{Insert, Replace, Delete}
use Rattle.base_types.specs.declared.kind.Kind.TheVariants.{Table, Index}
use Rattle.base_types.specs.declared.row.Row.TheVariants as rows
use Rattle.base_types.specs.declared.scan.Purpose.TheVariants as scans
use Rattle.base_types.proofs.SameScan.{same_scan-true}
use Rattle.event_kinds.specs.Entries.{IsNumber, IsRow, IsItem, IsPurpose, IsEvent, HasChange}
use Rattle.event_kinds.specs.Texts.{entries_text}
use Rattle.event_kinds.specs.declared.entry.Event.TheVariants as events
use Rattle.event_kinds.specs.declared.entry.Item.TheVariants as items
use Rattle.lock_modes.specs.Grants.{is_lock, first_conflict}
use Rattle.lock_modes.specs.declared.grant.Grant.{Grant}
use Rattle.row_visibility.specs.declared.version.Stamp.{Stamp}
use Rattle.row_visibility.specs.declared.version.Version.{Version}
use Rattle.ddl_effect.specs.Drawing.{drawn_oid, drawn_row, drawn_change, changes_of}
use Rattle.ddl_effect.specs.Plans.{Lookup, Open, Search, Read, Lock, Write, Plan, Done, Fails, Absent, Do, told_rests_on}
use Rattle.history_model.specs.After.{segment_of}
use Rattle.history_model.specs.Allows.{is_lock_of}
use Rattle.history_model.specs.Changes.{item_of}
use Rattle.history_model.specs.Held.{held_of}
use Rattle.history_model.specs.InUse.{has_name, is_row_of, others_at, over_at}
use Rattle.history_model.specs.MayFollow.{AllowsEvent}
use Rattle.history_model.specs.Names.{users_of}
use Rattle.history_model.specs.Sent.{lists_of}
use Rattle.history_model.specs.Versions.{versions_of, answer_of}
use Rattle.history_model.proofs.Every.{every-weaker, every-append, every-map, every-kept}
use Rattle.history_model.proofs.Granted.{lock_parts}
use Rattle.history_model.proofs.Guards.{any_with}
use Rattle.history_model.proofs.Runs.{Runs}
use Rattle.local_caches.specs.Kept.{Kept, rows_kept}
use Rattle.cacheless.specs.Facts.{Facts, facts_of, kept_if}
use Rattle.cacheless.specs.Work.{work_of}
use Rattle.cacheless.specs.Owed.{missing, act_next, is_next_in}
use Rattle.cacheless.specs.Plays.{IsLock, drafted, IsWrite, names_by, IsClash, MayPlay, MayPlayLast, MayPlayIn}
use Rattle.cacheless.specs.Session.{Session, Outcome, Unsettled, Well, Badly, outcome_of}
use Rattle.cacheless.specs.Settled.{class_oid}
use Rattle.history_model.specs.Read.{rows_read, is_usable, place_read}
use Rattle.cacheless.specs.Types.{Oid, Mode, Kind, Row, Purpose, Draft, Command, Opening, Item, Entry, Event}
use Rattle.cacheless.specs.Typed.{IsOid, AreTypedRows, IsTypedChange, IsTypedDraft, IsTypedPlan, AreKeptTyped, IsTypedStamp, IsTypedVersion, IsTypedGrant, LeavesTyped, CountsBytes, AreHeldTyped, IsTypedSession, IsCountable}
use Rattle.cacheless.proofs.Allowed.TypedParts.{found_each}
use Rattle.cacheless.proofs.Allowed.TypedSegments.{answer_typed}
use Rattle.cacheless.proofs.Allowed.CountedBytes.{answer_few, xid_few}

-- ---- what is kept

pub kept_typed : (history : List Entry) (b : ℕ) → LeavesTyped history → AreKeptTyped (facts_of history b)
kept_typed history b leaves scan = by_test (is_usable history b scan)
  where
    by_test : (t : Bool) → AreTypedRows (option_map_or (λ read. read.rows) (kept_if t (rows_read history b scan) (place_read history b scan)) [])
    by_test true = leaves.read b scan
    by_test false = tt

-- ---- locks

class_typed : (given : List Row) → AreTypedRows given → IfSome (class_oid given) IsOid
class_typed [] all = tt
class_typed (rows.Class oid name kind fill ∷ more) all = all.0.0
class_typed (rows.Att rel num name col_type stat live ∷ more) all = tt
class_typed (rows.Def oid rel num word ∷ more) all = tt
class_typed (rows.Ind index table state nums ∷ more) all = tt
class_typed (rows.Con oid rel name valid what ∷ more) all = tt
class_typed (rows.Trg oid rel name on ∷ more) all = tt

lock_typed : (facts : Facts) (plan : Plan) (rel : Oid) (mode : Mode) → AreKeptTyped facts → IsTypedPlan plan → IsLock facts plan rel mode → IsOid rel
lock_typed facts (Do (Lookup name wanted) rest) rel mode keeps typed is = subst (λ o. IfSome o IsOid) is.0 (class_typed (rows_kept facts.kept (scans.RelName name)) (keeps (scans.RelName name)))
lock_typed facts (Do (Lock other wanted) rest) rel mode keeps typed is = subst IsOid (sym is.0) typed.0
lock_typed facts (Do (Open other kind) rest) rel mode keeps typed is = absurd is
lock_typed facts (Do (Search scan) rest) rel mode keeps typed is = absurd is
lock_typed facts (Do (Read scan) rest) rel mode keeps typed is = absurd is
lock_typed facts (Do (Write draft) rest) rel mode keeps typed is = absurd is
lock_typed facts (Done told) rel mode keeps typed is = absurd is
lock_typed facts (Fails error) rel mode keeps typed is = absurd is
lock_typed facts (Absent name) rel mode keeps typed is = absurd is

-- ---- scans

build_scans_typed : (kind : Kind) (rel : Oid) → IsOid rel → AllByRecursion IsPurpose (build_scans kind rel)
build_scans_typed Table rel is = (is, (is, (is, (is, (is, (is, tt))))))
build_scans_typed Index rel is = (is, (is, tt))

first_scan_typed : (xs : List Purpose) → AllByRecursion IsPurpose xs → AllByRecursion IsPurpose (take 1 xs)
first_scan_typed [] all = tt
first_scan_typed (scan ∷ xs) all = (all.0, tt)

lacking_scans_typed : (kept : Kept) (wanted : List Purpose) → AllByRecursion IsPurpose wanted → AllByRecursion IsPurpose (take 1 (missing kept wanted))
lacking_scans_typed kept wanted all = first_scan_typed (missing kept wanted) (every-kept IsPurpose _ wanted all)

opened_scans_typed : (kept : Kept) (opened : List Opening) → AreHeldTyped opened → AllByRecursion IsPurpose (flat_map (λ o. take 1 (missing kept (build_scans o.kind o.rel))) opened)
opened_scans_typed kept [] all = tt
opened_scans_typed kept (o ∷ opened) all = every-append IsPurpose (take 1 (missing kept (build_scans o.kind o.rel))) (flat_map (λ o. take 1 (missing kept (build_scans o.kind o.rel))) opened) (lacking_scans_typed kept (build_scans o.kind o.rel) (build_scans_typed o.kind o.rel all.0)) (opened_scans_typed kept opened all.1)

told_scans_typed : (o : Option Purpose) → IfSome o IsPurpose → AllByRecursion IsPurpose (cons_option o [])
told_scans_typed None is = tt
told_scans_typed (Some scan) is = (is, tt)

act_scans_typed : (facts : Facts) (plan : Plan) → IsTypedPlan plan → AllByRecursion IsPurpose (act_next facts plan)
act_scans_typed facts (Do (Read scan) rest) typed = tt
act_scans_typed facts (Do (Lookup name mode) rest) typed = lacking_scans_typed facts.kept (scans.RelName name ∷ []) (typed.0, tt)
act_scans_typed facts (Do (Open rel kind) rest) typed = lacking_scans_typed facts.kept (build_scans kind rel) (build_scans_typed kind rel typed.0)
act_scans_typed facts (Do (Search scan) rest) typed = lacking_scans_typed facts.kept (scan ∷ []) (typed.0, tt)
act_scans_typed facts (Do (Lock rel mode) rest) typed = tt
act_scans_typed facts (Do (Write draft) rest) typed = tt
act_scans_typed facts (Done told) typed = lacking_scans_typed facts.kept (cons_option (told_rests_on told) []) (told_scans_typed (told_rests_on told) typed)
act_scans_typed facts (Fails error) typed = tt
act_scans_typed facts (Absent name) typed = tt

scan_typed : (facts : Facts) (s : Session) (scan : Purpose) → IsTypedSession s → is_next_in scan facts (work_of s) ≡ true → IsPurpose scan
scan_typed facts s scan typed next = any_with (same_scan scan) IsPurpose (IsPurpose scan) (λ wanted same is. subst IsPurpose (sym (same_scan-true scan wanted same)) is) _ next (of (outcome_of s.left))
  where
    both : AllByRecursion IsPurpose (flat_map (λ o. take 1 (missing facts.kept (build_scans o.kind o.rel))) s.opened ++ act_next facts s.left)
    both = every-append IsPurpose (flat_map (λ o. take 1 (missing facts.kept (build_scans o.kind o.rel))) s.opened) (act_next facts s.left) (opened_scans_typed facts.kept s.opened typed.opened) (act_scans_typed facts s.left typed.left)

    of : (o : Outcome) → AllByRecursion IsPurpose (elim o as (λ x. List Purpose) [ Badly ↦ [] | other ↦ flat_map (λ o. take 1 (missing facts.kept (build_scans o.kind o.rel))) s.opened ++ act_next facts s.left ])
    of Badly = tt
    of Unsettled = both
    of Well = both

-- ---- writes

drawn_typed : (first new_oids : ℕ) (oid : Oid) → IsNumber first → new_oids ≤ 1 → IsOid oid → IsOid (drawn_oid first new_oids oid)
drawn_typed first new_oids oid low few is = by_test (nat_le 1 oid.0 && nat_le oid.0 new_oids) refl
  where
    by_test : (t : Bool) → (nat_le 1 oid.0 && nat_le oid.0 new_oids) ≡ t → IsOid (elim t as (λ x. Oid) [ true ↦ record { 0 = first + oid.0 - 1 } | false ↦ oid ])
    by_test true new = omega (arith, low, few, leb-true oid.0 new_oids (and_parts (nat_le 1 oid.0) (nat_le oid.0 new_oids) new).1)
    by_test false old = is

drawn_row_typed : (first new_oids : ℕ) (row : Row) → IsNumber first → new_oids ≤ 1 → IsRow row → IsRow (drawn_row first new_oids row)
drawn_row_typed first new_oids (rows.Class oid own kind fill) low few is = (drawn_typed first new_oids oid low few is.0, is.1, is.2)
drawn_row_typed first new_oids (rows.Att rel num own col_type stat live) low few is = (drawn_typed first new_oids rel low few is.0, is.1, is.2, is.3)
drawn_row_typed first new_oids (rows.Def oid rel num word) low few is = (drawn_typed first new_oids oid low few is.0, drawn_typed first new_oids rel low few is.1, is.2, is.3)
drawn_row_typed first new_oids (rows.Ind index table state nums) low few is = (drawn_typed first new_oids index low few is.0, drawn_typed first new_oids table low few is.1, is.2)
drawn_row_typed first new_oids (rows.Con oid rel own valid what) low few is = (drawn_typed first new_oids oid low few is.0, drawn_typed first new_oids rel low few is.1, is.2, is.3)
drawn_row_typed first new_oids (rows.Trg oid rel own on) low few is = (drawn_typed first new_oids oid low few is.0, drawn_typed first new_oids rel low few is.1, is.2)

change_item : (first new_oids : ℕ) (change : Change) → IsNumber first → new_oids ≤ 1 → IsTypedChange change → IsItem (item_of (drawn_change first new_oids change))
change_item first new_oids (Insert row) low few is = drawn_row_typed first new_oids row low few is
change_item first new_oids (Replace row) low few is = drawn_row_typed first new_oids row low few is
change_item first new_oids (Delete key) low few is = is

draft_typed : (first : ℕ) (draft : Draft) → IsNumber first → IsTypedDraft draft → AllByRecursion IsItem (drafted first draft)
draft_typed first draft low typed = every-append IsItem (map item_of (changes_of first draft)) (map items.Force draft.forced)
    (every-map IsItem item_of (changes_of first draft) (every-map (λ change. IsItem (item_of change)) (drawn_change first draft.new_oids) draft.changes
    (every-weaker IsTypedChange (λ change. IsItem (item_of (drawn_change first draft.new_oids change))) (λ change is. change_item first draft.new_oids change low typed.new is) draft.changes typed.changes)))
    (every-map IsItem items.Force draft.forced typed.forced)

write_typed : (next : ℕ) (plan : Plan) (changes : List Item) → IsNumber next → IsTypedPlan plan → IsWrite next plan changes → AllByRecursion IsItem changes
write_typed next (Do (Write draft) rest) changes low typed is = subst (AllByRecursion IsItem) (sym is) (draft_typed next draft low typed.0)
write_typed next (Do (Lookup name mode) rest) changes low typed is = absurd is
write_typed next (Do (Open rel kind) rest) changes low typed is = absurd is
write_typed next (Do (Search scan) rest) changes low typed is = absurd is
write_typed next (Do (Read scan) rest) changes low typed is = absurd is
write_typed next (Do (Lock rel mode) rest) changes low typed is = absurd is
write_typed next (Done told) changes low typed is = absurd is
write_typed next (Fails error) changes low typed is = absurd is
write_typed next (Absent name) changes low typed is = absurd is

-- ---- clashes

change_names : (kept : Kept) (change : Change) → IsTypedChange change → AllByRecursion IsAnyName (names_by kept change)
change_names kept (Insert (rows.Class oid name kind fill)) is = (is.1, tt)
change_names kept (Insert (rows.Att rel num name col_type stat live)) is = tt
change_names kept (Insert (rows.Def oid rel num word)) is = tt
change_names kept (Insert (rows.Ind index table state nums)) is = tt
change_names kept (Insert (rows.Con oid rel name valid what)) is = tt
change_names kept (Insert (rows.Trg oid rel name on)) is = tt
change_names kept (Replace (rows.Class oid name kind fill)) is = by_test (list_any (has_name name) (rows_kept kept (scans.Class oid)))
  where
    by_test : (t : Bool) → AllByRecursion IsAnyName (cond t [] (name ∷ []))
    by_test true = tt
    by_test false = (is.1, tt)
change_names kept (Replace (rows.Att rel num name col_type stat live)) is = tt
change_names kept (Replace (rows.Def oid rel num word)) is = tt
change_names kept (Replace (rows.Ind index table state nums)) is = tt
change_names kept (Replace (rows.Con oid rel name valid what)) is = tt
change_names kept (Replace (rows.Trg oid rel name on)) is = tt
change_names kept (Delete key) is = tt

all_names : (kept : Kept) (changes : List Change) → AllByRecursion IsTypedChange changes → AllByRecursion IsAnyName (flat_map (names_by kept) changes)
all_names kept [] all = tt
all_names kept (change ∷ changes) all = every-append IsAnyName (names_by kept change) (flat_map (names_by kept) changes) (change_names kept change all.0) (all_names kept changes all.1)

clash_typed : (facts : Facts) (next : ℕ) (plan : Plan) (name : List ℕ) → IsTypedPlan plan → IsClash facts plan name → IsAnyName name
clash_typed facts next (Do (Write draft) rest) name typed is =
    any_with (bytes_eq name) IsAnyName (IsAnyName name) (λ own same named. subst IsAnyName (sym ((bytes_eq-Decides name own).0 same)) named) (flat_map (names_by facts.kept) draft.changes) is (all_names facts.kept draft.changes typed.0.changes)
clash_typed facts next (Do (Lookup own mode) rest) name typed is = absurd is
clash_typed facts next (Do (Open rel kind) rest) name typed is = absurd is
clash_typed facts next (Do (Search scan) rest) name typed is = absurd is
clash_typed facts next (Do (Read scan) rest) name typed is = absurd is
clash_typed facts next (Do (Lock rel mode) rest) name typed is = absurd is
clash_typed facts next (Done told) name typed is = absurd is
clash_typed facts next (Fails error) name typed is = absurd is
clash_typed facts next (Absent own) name typed is = absurd is

-- ---- what the plan says of an event

-- what an event names by its plan has a text
abbrev pub IsNamedTyped : Event → Type 0
IsNamedTyped (events.LockOk rel mode) = IsOid rel
IsNamedTyped (events.LockHeld rel mode holder held) = IsOid rel
IsNamedTyped (events.Scan scan count) = IsPurpose scan
IsNamedTyped (events.Write xid changes) = AllByRecursion IsItem changes
IsNamedTyped (events.ClashRow name rel) = IsAnyName name
IsNamedTyped (events.ClashRunning name xid) = IsAnyName name
IsNamedTyped event = ⊤

command_named : (next : ℕ) (facts : Facts) (command : Command) (s : Session) (event : Event) → IsNumber next → AreKeptTyped facts → IsTypedSession s → MayPlay next facts command s event → IsNamedTyped event
command_named next facts command s (events.LockOk rel mode) low keeps typed plays = lock_typed facts s.left rel mode keeps typed.left plays.2
command_named next facts command s (events.LockHeld rel mode holder held) low keeps typed plays = lock_typed facts s.left rel mode keeps typed.left plays.2
command_named next facts command s (events.Scan scan count) low keeps typed plays = scan_typed facts s scan typed plays.1
command_named next facts command s (events.Write xid changes) low keeps typed plays = write_typed next s.left changes low typed.left plays.1
command_named next facts command s (events.ClashRow name rel) low keeps typed plays = clash_typed facts next s.left name typed.left plays.1
command_named next facts command s (events.ClashRunning name xid) low keeps typed plays = clash_typed facts next s.left name typed.left plays.1
command_named next facts command s event low keeps typed plays = tt

last_named : (facts : Facts) (s : Session) (event : Event) → IsTypedSession s → MayPlayLast facts s event → IsNamedTyped event
last_named facts s (events.Scan scan count) typed plays = scan_typed facts s scan typed plays.1
last_named facts s (events.LockOk rel mode) typed plays = absurd plays
last_named facts s (events.LockHeld rel mode holder held) typed plays = absurd plays
last_named facts s (events.Write xid changes) typed plays = absurd plays
last_named facts s (events.ClashRow name rel) typed plays = absurd plays
last_named facts s (events.ClashRunning name xid) typed plays = absurd plays
last_named facts s event typed plays = tt

pub session_named : (next : ℕ) (facts : Facts) (o : Option Command) (s : Session) (event : Event) → IsNumber next → AreKeptTyped facts → IsTypedSession s → MayPlayIn next facts o s event → IsNamedTyped event
session_named next facts (Some command) s event low keeps typed plays = command_named next facts command s event low keeps typed plays
session_named next facts None s event low keeps typed plays = last_named facts s event typed plays

-- ---- what the history says of an event

holder_typed : (o : Option Grant) (holder : ℕ) (held : Mode) → IfSome o IsTypedGrant → option_map {U = ℕ × Mode} (λ g. (g.backend, g.mode)) o ≡ Some (holder, held) → IsNumber holder
holder_typed None holder held is same = absurd (cc same)
holder_typed (Some g) holder held is same = let own : g.backend ≡ holder = ap (λ o. option_map_or {U = ℕ} (λ p. p.0) o 0) same in subst IsNumber own is.0

unlock_typed : (b c : ℕ) (rel : Oid) (mode : Mode) (g : Grant) → is_lock_of b c rel mode g ≡ true → IsTypedGrant g → IsOid rel
unlock_typed b c rel mode g is typed = subst IsNumber (eqb-true g.rel.0 rel.0 (lock_parts b rel mode g (and_parts (is_lock b rel mode g) (g.command == c) is).0).1) typed.1

row_of_typed : (rel : Oid) (row : Row) → is_row_of rel row ≡ true → IsRow row → IsOid rel
row_of_typed rel (rows.Class oid own kind fill) is typed = subst IsNumber (eqb-true oid.0 rel.0 is) typed.0
row_of_typed rel (rows.Att of num own col_type stat live) is typed = absurd (cc is)
row_of_typed rel (rows.Def oid of num word) is typed = absurd (cc is)
row_of_typed rel (rows.Ind index table state nums) is typed = absurd (cc is)
row_of_typed rel (rows.Con oid of own valid what) is typed = absurd (cc is)
row_of_typed rel (rows.Trg oid of own on) is typed = absurd (cc is)

over_typed : (history : List Entry) (b : ℕ) (v : Version) → IsTypedVersion v → AllByRecursion IsNumber (over_at (segment_of history) b v)
over_typed history b v typed = every-append IsNumber (of_stamp v.by) (flat_map of_stamp (option_map_or (λ stamp. stamp ∷ []) v.ended [])) (stamp_typed v.by typed.0.0) (ended_typed v.ended typed.1)
  where
    of_stamp : Stamp → List ℕ
    of_stamp stamp = cond (others_at (segment_of history) b stamp) (stamp.xid.0 ∷ []) []

    stamp_typed : (stamp : Stamp) → IsNumber stamp.xid.0 → AllByRecursion IsNumber (of_stamp stamp)
    stamp_typed stamp is = by_test (others_at (segment_of history) b stamp)
      where
        by_test : (t : Bool) → AllByRecursion IsNumber (cond t (stamp.xid.0 ∷ []) [])
        by_test true = (is, tt)
        by_test false = tt

    ended_typed : (o : Option Stamp) → IfSome o (λ stamp. IsTypedStamp stamp v.row) → AllByRecursion IsNumber (flat_map of_stamp (option_map_or (λ stamp. stamp ∷ []) o []))
    ended_typed None is = tt
    ended_typed (Some stamp) is = every-append IsNumber (of_stamp stamp) [] (stamp_typed stamp is.0) tt

all_over : (history : List Entry) (b : ℕ) (vs : List Version) → AllByRecursion IsTypedVersion vs → AllByRecursion IsNumber (flat_map (over_at (segment_of history) b) vs)
all_over history b [] all = tt
all_over history b (v ∷ vs) all = every-append IsNumber (over_at (segment_of history) b v) (flat_map (over_at (segment_of history) b) vs) (over_typed history b v all.0) (all_over history b vs all.1)

user_typed : (history : List Entry) (b x : ℕ) (name : List ℕ) → LeavesTyped history → list_any (λ user. user == x) (users_of history b name) ≡ true → IsNumber x
user_typed history b x name leaves is = any_with (λ user. user == x) IsNumber (IsNumber x) (λ user same low. subst IsNumber (eqb-true user x same) low) (users_of history b name) is
    (all_over history b (filter (λ v. has_name name v.row) (versions_of history)) (every-kept IsTypedVersion (λ v. has_name name v.row) (versions_of history) leaves.versions))

-- an event that the history allows has a text, where what it names by its plan has one
pub event_typed : (history : List Entry) (b c : ℕ) (event : Event) → Runs history → LeavesTyped history → CountsBytes history → IsCountable (entries_text history) → IsNumber c → IsNamedTyped event → HasChange event → AllowsEvent history b c event → IsEvent event
event_typed history b c events.Start runs leaves counts short own named some allowed = tt
event_typed history b c (events.Look some_wait) runs leaves counts short own named some allowed = tt
event_typed history b c (events.Fetch count) runs leaves counts short own named some allowed = omega (arith, allowed.1)
event_typed history b c events.FetchReset runs leaves counts short own named some allowed = tt
event_typed history b c (events.LockOk rel mode) runs leaves counts short own named some allowed = named
event_typed history b c (events.LockHeld rel mode holder held) runs leaves counts short own named some allowed = (named, holder_typed (first_conflict (held_of history) b rel mode) holder held (found_each IsTypedGrant _ (held_of history) leaves.grants) allowed.1)
event_typed history b c (events.Unlock rel mode) runs leaves counts short own named some allowed = any_with (is_lock_of b c rel mode) IsTypedGrant (IsOid rel) (λ g is typed. unlock_typed b c rel mode g is typed) (held_of history) allowed.0 leaves.grants
event_typed history b c (events.Scan scan count) runs leaves counts short own named some allowed = (named, omega (arith, allowed, answer_few history b scan, counts.rows, short))
event_typed history b c (events.Write xid changes) runs leaves counts short own named some allowed = (omega (arith, xid_few history b c (events.Write xid changes) runs allowed, counts.xids, short), (some, named))
event_typed history b c (events.ClashRow name rel) runs leaves counts short own named some allowed = (named, any_with (is_row_of rel) IsRow (IsOid rel) (λ row is typed. row_of_typed rel row is typed) (answer_of history b (scans.RelName name)) allowed.1 (answer_typed history b (scans.RelName name) leaves.versions))
event_typed history b c (events.ClashRunning name xid) runs leaves counts short own named some allowed = (named, user_typed history b xid.0 name leaves allowed)
event_typed history b c (events.Visible xid) runs leaves counts short own named some allowed = omega (arith, runs.bound b xid.0 allowed.0, counts.xids, short)
event_typed history b c (events.Publish count) runs leaves counts short own named some allowed = omega (arith, allowed.2)
event_typed history b c (events.Release from) runs leaves counts short own named some allowed = omega (arith, allowed.0, own)
event_typed history b c (events.Gone from) runs leaves counts short own named some allowed = any_with (λ w. nat_le from w.command) (λ w. IsNumber w.command) (IsNumber from) (λ w is low. omega (arith, leb-true from w.command is, low)) (lists_of history b) allowed (leaves.lists b)
event_typed history b c events.Fail runs leaves counts short own named some allowed = tt
event_typed history b c events.Stop runs leaves counts short own named some allowed = tt
