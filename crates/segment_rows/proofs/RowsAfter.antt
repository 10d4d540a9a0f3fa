-- The rows after an entry are those that the segment leaves.
use Rattle.std.proofs.Common.{◌≡◌, ◌≢◌, ◌≤◌, ◌<◌, ◌+◌, ◌-◌, ◌∙◌, ◌||◌, ◌&&◌, ◌==◌, ◌⊎◌, inl, inr, ℕ, Bool, true, false, not, Option, Some, None, List, [], ◌∷◌, ◌++◌, length, get_or, slice_set, slice_get, map, filter, fold, replicate, unwrap_or, append-nil, zero, suc, refl, sym, ap, subst, arith}
use Rattle.std.specs.Prelude.{nat_le, nat_lt}
use Rattle.std.specs.List.{AllByRecursion, list_any, flat_map}
use Rattle.std.specs.Option.{option_map_or, IfSome}
use Rattle.std.proofs.Math.Bool.{or-false, or-true}
use Rattle.std.proofs.Math.ListN.{get_or-eq_default}
use Rattle.std.proofs.lemmas.Bool.{eq-eqb, eqb-true, ne_eqb, and_parts, or_parts, not-true, ltb-true, ltb-false}
use Rattle.std.proofs.lemmas.Bool.Decides.{eqb_tells}
use Rattle.std.proofs.lemmas.List.{length-set, length-append, length-replicate, get_or-set_other, get_or-replicate}
use Rattle.std.proofs.lemmas.Grind.{get_or-set_at}
use Rattle.std.proofs.lemmas.Option.{unwrap_or-slice_get}
use Rattle.base_types.specs.RowKeys.{key_of, same_key, are_distinct_keys}
use Rattle.row_visibility.specs.Seen.{is_own}
use Rattle.catalog_rows.specs.Store as stores
use Rattle.catalog_rows.specs.Store.{Store, has_committed, after_change, after_write, end_if, is_ended, new_version, option_items, with_place, taken_back, restored}
use Rattle.history_model.specs.Changes.{item_of}
use Rattle.history_model.specs.Allows.{allows_event}
use Rattle.history_model.specs.Changing.{may_write}
use Rattle.history_model.specs.Segment.{Segment, runs_at, xid_at, has_xid, makes_visible, last_xid_by}
use Rattle.history_model.specs.Rows.{counts_at, ends_at, change_at, back_at, end_by, version_of, added_row, versions_after}
use Rattle.history_model.specs.Changing.{changed_key}
use Rattle.history_model.proofs.Every.{every-weaker, every-append, every-map, every}
use Rattle.history_model.proofs.Guards.{key_eq}
use Rattle.history_model.proofs.Runs.{writes_as}
use Rattle.history_model.proofs.Touched.{OfStamps, stamps-weaker, stamps-write, stamps-gone}
use Rattle.segment_rows.specs.Types.{Xid, Row, RowKey, Change, Insert, Replace, Delete, Event, Item, Add, Put, Remove, Force, Write, Visible, Gone, Stamp, Version, RunningTransaction}
use Rattle.segment_rows.specs.Kept.{AreDrawn, IsDrawn, xid_in}
use Rattle.segment_rows.specs.Words.{IsPlaced, changes_in, store_after, undone}
use Rattle.segment_rows.proofs.Mirrors.{Mirrors, version_same, runs_own}

-- a mark set
pub marked : (marks : List Bool) (xid x : ℕ) → xid < length marks → has_committed (slice_set marks xid true) x ≡ (has_committed marks x || (xid == x))
marked marks xid x within = unwrap_or-slice_get (slice_set marks xid true) x false ∙ by_cases (eqb_tells xid x) ∙ ap (λ b. b || (xid == x)) (sym (unwrap_or-slice_get marks x false))
  where
    by_cases : ((xid == x) ≡ true) × (xid ≡ x) ⊎ ((xid == x) ≡ false) × (xid ≢ x) → get_or (slice_set marks xid true) x false ≡ (get_or marks x false || (xid == x))
    by_cases (inl same) = get_or-set_at marks xid x true false (sym same.1) within ∙ sym (or-true (get_or marks x false)) ∙ ap (λ b. get_or marks x false || b) (sym same.0)
    by_cases (inr other) = get_or-set_other marks xid x true false (λ e. other.1 (sym e)) ∙ sym (or-false (get_or marks x false)) ∙ ap (λ b. get_or marks x false || b) (sym other.0)

pub map-same : {X : Type 0} (xs : List X) → map (λ x. x) xs ≡ xs
map-same [] = refl
map-same (x ∷ xs) = ap (λ l. x ∷ l) (map-same xs)

filter-all : {X : Type 0} (xs : List X) → filter (λ x. true) xs ≡ xs
filter-all [] = refl
filter-all (x ∷ xs) = ap (λ l. x ∷ l) (filter-all xs)

restored-none : (v : Version) → restored (λ s. false) v ≡ v
restored-none v = by_end v.ended
  where
    by_end : (o : Option Stamp) → (record v { ended = elim (option_map_or (λ s. false) o false) [ true ↦ None | false ↦ o ] }) ≡ (record v { ended = o })
    by_end None = refl
    by_end (Some s) = refl

taken_back-none : (versions : List Version) → taken_back (λ s. false) versions ≡ versions
taken_back-none versions = (λ i. map (λ v. restored-none v i) (filter (λ v. true) versions)) ∙ map-same (filter (λ v. true) versions) ∙ filter-all versions

eqb-turned : (m n : ℕ) → (m == n) ≡ (n == m)
eqb-turned m n = by_cases (eqb_tells m n)
  where
    by_cases : ((m == n) ≡ true) × (m ≡ n) ⊎ ((m == n) ≡ false) × (m ≢ n) → (m == n) ≡ (n == m)
    by_cases (inl same) = same.0 ∙ sym (eq-eqb n m (sym same.1))
    by_cases (inr other) = other.0 ∙ sym (ne_eqb n m (λ e. other.1 (sym e)))

-- what is taken back
pub undone_versions : (own : Option Xid) (from : ℕ) (store : Store) → (undone own from store).versions ≡ taken_back (λ s. is_own own s && nat_le from s.command) store.versions
undone_versions None from store = sym (taken_back-none store.versions)
undone_versions (Some xid) from store = λ i. taken_back (λ s. eqb-turned s.xid.0 xid.0 i && nat_le from s.command) store.versions

pub undone_committed : (own : Option Xid) (from : ℕ) (store : Store) → (undone own from store).committed ≡ store.committed
undone_committed None from store = refl
undone_committed (Some xid) from store = refl

-- the key of the row that a change is of
abbrev pub change_key : Change → RowKey
change_key (Insert row) = key_of row
change_key (Replace row) = key_of row
change_key (Delete key) = key

-- a change ends a version in the store where its item ends it in the segment
abbrev Alike : Segment → ℕ → List Bool → Stamp → Version → Change → Type 0
Alike seg b committed stamp v change = is_ended committed stamp change v ≡ ends_at seg b (item_of change) v

abbrev pub AllAlike : Segment → ℕ → List Bool → Stamp → List Change → Version → Type 0
AllAlike seg b committed stamp changes v = AllByRecursion (Alike seg b committed stamp v) changes

no_end : (t x : Bool) → t ≡ false → (t && x) ≡ false
no_end t x is = ap (λ s. s && x) is

-- a change of another key ends it in neither
unlike : (seg : Segment) (b : ℕ) (committed : List Bool) (stamp : Stamp) (v : Version) (change : Change) → same_key (key_of v.row) (change_key change) ≡ false → Alike seg b committed stamp v change
unlike seg b committed stamp v (Insert row) other = refl
unlike seg b committed stamp v (Replace row) other = no_end _ _ other ∙ sym (no_end _ _ other)
unlike seg b committed stamp v (Delete key) other = no_end _ _ other ∙ sym (no_end _ _ other)

all_unlike : (seg : Segment) (b : ℕ) (committed : List Bool) (stamp : Stamp) (v : Version) (key : RowKey) (changes : List Change) → key_of v.row ≡ key → list_any (same_key key) (map change_key changes) ≡ false → AllAlike seg b committed stamp changes v
all_unlike seg b committed stamp v key [] is none = tt
all_unlike seg b committed stamp v key (change ∷ changes) is none =
    let parts = or_parts (same_key key (change_key change)) (list_any (same_key key) (map change_key changes)) none in
    (unlike seg b committed stamp v change (ap (λ k. same_key k (change_key change)) is ∙ parts.0), all_unlike seg b committed stamp v key changes is parts.1)

-- what a change ends has its key
ended_has_key : (committed : List Bool) (stamp : Stamp) (v : Version) (change : Change) → is_ended committed stamp change v ≡ true → key_of v.row ≡ change_key change
ended_has_key committed stamp v (Insert row) is = absurd (cc)
ended_has_key committed stamp v (Replace row) is = key_eq (key_of v.row) (key_of row) (and_parts _ _ is).0
ended_has_key committed stamp v (Delete key) is = key_eq (key_of v.row) key (and_parts _ _ is).0

-- the old versions after a change
same_ends : (seg : Segment) (b : ℕ) (committed : List Bool) (stamp : Stamp) (change : Change) (versions : List Version) → AllByRecursion (λ v. Alike seg b committed stamp v change) versions
    → map (end_if (is_ended committed stamp change) stamp) versions ≡ map (end_by (ends_at seg b (item_of change)) stamp) versions
same_ends seg b committed stamp change [] alike = refl
same_ends seg b committed stamp change (v ∷ versions) alike = λ i. (elim (alike.0 i) [ true ↦ record v { ended = Some stamp } | false ↦ v ]) ∷ same_ends seg b committed stamp change versions alike.1 i

-- and the new one
same_new : (stamp : Stamp) (change : Change) → option_items (new_version stamp change) ≡ version_of stamp (added_row (item_of change))
same_new stamp (Insert row) = refl
same_new stamp (Replace row) = refl
same_new stamp (Delete key) = refl

same_change : (seg : Segment) (b : ℕ) (committed : List Bool) (stamp : Stamp) (change : Change) (versions : List Version) → AllByRecursion (λ v. Alike seg b committed stamp v change) versions
    → after_change committed stamp versions change ≡ change_at seg b stamp versions (item_of change)
same_change seg b committed stamp change versions alike = λ i. same_ends seg b committed stamp change versions alike i ++ same_new stamp change i

-- the other changes still agree on what a change leaves
ended_alike : (seg : Segment) (b : ℕ) (committed : List Bool) (stamp : Stamp) (change : Change) (rest : List Change) (v : Version) → list_any (same_key (change_key change)) (map change_key rest) ≡ false
    → AllAlike seg b committed stamp rest v → AllAlike seg b committed stamp rest (end_if (is_ended committed stamp change) stamp v)
ended_alike seg b committed stamp change rest v none alike = by_end (is_ended committed stamp change v) refl
  where
    by_end : (t : Bool) → is_ended committed stamp change v ≡ t → AllAlike seg b committed stamp rest (elim t [ true ↦ record v { ended = Some stamp } | false ↦ v ])
    by_end true is = all_unlike seg b committed stamp (record v { ended = Some stamp }) (change_key change) rest (ended_has_key committed stamp v change is) none
    by_end false is = alike

new_alike : (seg : Segment) (b : ℕ) (committed : List Bool) (stamp : Stamp) (change : Change) (rest : List Change) → list_any (same_key (change_key change)) (map change_key rest) ≡ false
    → AllByRecursion (AllAlike seg b committed stamp rest) (option_items (new_version stamp change))
new_alike seg b committed stamp (Insert row) rest none = (all_unlike seg b committed stamp (record { row = row; by = stamp; ended = None }) (key_of row) rest refl none, tt)
new_alike seg b committed stamp (Replace row) rest none = (all_unlike seg b committed stamp (record { row = row; by = stamp; ended = None }) (key_of row) rest refl none, tt)
new_alike seg b committed stamp (Delete key) rest none = tt

pub same_changes : (seg : Segment) (b : ℕ) (committed : List Bool) (stamp : Stamp) (changes : List Change) (versions : List Version) → AllByRecursion (AllAlike seg b committed stamp changes) versions → are_distinct_keys (map change_key changes) ≡ true
    → fold (after_change committed stamp) versions changes ≡ fold (change_at seg b stamp) versions (map item_of changes)
same_changes seg b committed stamp [] versions alike distinct = refl
same_changes seg b committed stamp (change ∷ rest) versions alike distinct =
    let parts = and_parts (not (list_any (same_key (change_key change)) (map change_key rest))) (are_distinct_keys (map change_key rest)) distinct in
    let none : list_any (same_key (change_key change)) (map change_key rest) ≡ false = not-true _ parts.0 in
    same_changes seg b committed stamp rest (after_change committed stamp versions change)
    (every-append (AllAlike seg b committed stamp rest) (map (end_if (is_ended committed stamp change) stamp) versions) (option_items (new_version stamp change))
    (every-map (AllAlike seg b committed stamp rest) (end_if (is_ended committed stamp change) stamp) versions
    (every-weaker (AllAlike seg b committed stamp (change ∷ rest)) (λ v. AllAlike seg b committed stamp rest (end_if (is_ended committed stamp change) stamp v)) (λ v all. ended_alike seg b committed stamp change rest v none all.1) versions alike))
    (new_alike seg b committed stamp change rest none)) parts.1
    ∙ ap (λ vs. fold (change_at seg b stamp) vs (map item_of rest)) (same_change seg b committed stamp change versions (every-weaker (AllAlike seg b committed stamp (change ∷ rest)) (λ v. Alike seg b committed stamp v change) (λ v all. all.0) versions alike))

-- what is forced changes no version
forced_out : (seg : Segment) (b : ℕ) (stamp : Stamp) (list : List Item) (vs : List Version) → fold (change_at seg b stamp) vs list ≡ fold (change_at seg b stamp) vs (map item_of (changes_in list))
forced_out seg b stamp [] vs = refl
forced_out seg b stamp (Add row ∷ list) vs = forced_out seg b stamp list (change_at seg b stamp vs (Add row))
forced_out seg b stamp (Put row ∷ list) vs = forced_out seg b stamp list (change_at seg b stamp vs (Put row))
forced_out seg b stamp (Remove key ∷ list) vs = forced_out seg b stamp list (change_at seg b stamp vs (Remove key))
forced_out seg b stamp (Force rel ∷ list) vs = ap (λ ws. fold (change_at seg b stamp) ws list) (append-nil (map (λ v. v) vs) ∙ map-same vs) ∙ forced_out seg b stamp list vs

-- the keys of the items are those of the changes
keys_are : (list : List Item) → flat_map changed_key list ≡ map change_key (changes_in list)
keys_are [] = refl
keys_are (Add row ∷ list) = ap (λ ks. key_of row ∷ ks) (keys_are list)
keys_are (Put row ∷ list) = ap (λ ks. key_of row ∷ ks) (keys_are list)
keys_are (Remove key ∷ list) = ap (λ ks. key ∷ ks) (keys_are list)
keys_are (Force rel ∷ list) = keys_are list

-- a stamp that is drawn is the writer's own where it runs as it
pub own_counts : (seg : Segment) (b : ℕ) (xid : Xid) (s : Stamp) → xid.0 ≡ xid_at seg b → s.xid.0 ≤ seg.last_xid → is_own (Some xid) s ≡ runs_at seg b s.xid.0
own_counts seg b xid s is bound = by_running ((seg.standing b).running) is
  where
    by_xid : (o : Option Xid) → xid.0 ≡ option_map_or (λ own. own.0) o (seg.last_xid + 1) → (xid.0 == s.xid.0) ≡ option_map_or (λ own. own.0 == s.xid.0) o false
    by_xid None same = ne_eqb xid.0 s.xid.0 (λ one. absurd (omega (arith, same, one, bound)))
    by_xid (Some x) same = ap (λ n. n == s.xid.0) same

    by_running : (r : Option RunningTransaction) → xid.0 ≡ option_map_or (λ t. option_map_or (λ own. own.0) t.xid (seg.last_xid + 1)) r (seg.last_xid + 1) → (xid.0 == s.xid.0) ≡ has_xid s.xid.0 r
    by_running None same = ne_eqb xid.0 s.xid.0 (λ one. absurd (omega (arith, same, one, bound)))
    by_running (Some t) same = by_xid t.xid same

-- so a stamp counts for the writer where it counts for the backend
pub counts_same : (seg : Segment) (b : ℕ) (committed : List Bool) (xid : Xid) (s : Stamp) → ((x : ℕ) → has_committed committed x ≡ seg.committed x) → xid.0 ≡ xid_at seg b → s.xid.0 ≤ seg.last_xid
    → stores.counts committed (Some xid) s ≡ counts_at seg b s
counts_same seg b committed xid s are is bound = λ i. are s.xid.0 i || own_counts seg b xid s is bound i

-- a version whose stamps are drawn
pub alike_drawn : (seg : Segment) (b : ℕ) (committed : List Bool) (stamp : Stamp) (v : Version) → OfStamps (λ s row. stores.counts committed (Some stamp.xid) s ≡ counts_at seg b s) v → (changes : List Change) → AllAlike seg b committed stamp changes v
alike_drawn seg b committed stamp v same changes = every (Alike seg b committed stamp v) of changes
  where
    of : (change : Change) → Alike seg b committed stamp v change
    of (Insert row) = refl
    of (Replace row) = ap (λ t. same_key (key_of v.row) (key_of row) && t) (version_same (stores.counts committed (Some stamp.xid)) (counts_at seg b) v same)
    of (Delete key) = ap (λ t. same_key (key_of v.row) key && t) (version_same (stores.counts committed (Some stamp.xid)) (counts_at seg b) v same)

-- the versions after a write
pub versions_written : (seg : Segment) (b c : ℕ) (xid : Xid) (list : List Item) (store : Store) → AllByRecursion (AreDrawn (seg.last_xid)) (seg.versions) → store.versions ≡ seg.versions → ((x : ℕ) → has_committed store.committed x ≡ seg.committed x)
    → xid.0 ≡ xid_at seg b → are_distinct_keys (flat_map changed_key list) ≡ true
    → (after_write store xid c (changes_in list)).versions ≡ fold (change_at seg b (record { xid = xid; command = c })) store.versions list
versions_written seg b c xid list store drawn are committed is distinct =
    same_changes seg b store.committed stamp (changes_in list) store.versions
    (subst (AllByRecursion (AllAlike seg b store.committed stamp (changes_in list))) (sym are)
    (every-weaker (AreDrawn (seg.last_xid)) (AllAlike seg b store.committed stamp (changes_in list))
    (λ v of. alike_drawn seg b store.committed stamp v (stamps-weaker (λ s row. IsDrawn (seg.last_xid) s) (λ s row. stores.counts store.committed (Some xid) s ≡ counts_at seg b s) (λ s row one. counts_same seg b store.committed xid s committed is one.xid) v of) (changes_in list))
    (seg.versions) drawn))
    (ap are_distinct_keys (sym (keys_are list)) ∙ distinct)
    ∙ sym (forced_out seg b stamp list store.versions)
  where
    stamp : Stamp
    stamp = record { xid = xid; command = c }

get_or-none : (n i : ℕ) → get_or (replicate n false) i false ≡ false
get_or-none n i = by_test (nat_lt i n) refl
  where
    by_test : (t : Bool) → nat_lt i n ≡ t → get_or (replicate n false) i false ≡ false
    by_test true is = get_or-replicate n i false false (ltb-true i n is)
    by_test false is = get_or-eq_default (replicate n false) false (omega (arith, ltb-false i n is, length-replicate n false))

-- a place that is added isn't committed
place_added : (n : ℕ) (x : ℕ) → unwrap_or (slice_get (replicate n false) x) false ≡ false
place_added n x = unwrap_or-slice_get (replicate n false) x false ∙ get_or-none n x

unmarked : (marks : List Bool) (n x : ℕ) → unwrap_or (slice_get (marks ++ replicate n false) x) false ≡ unwrap_or (slice_get marks x) false
unmarked [] n x = place_added n x
unmarked (mark ∷ marks) n zero = refl
unmarked (mark ∷ marks) n (suc x) = unmarked marks n x

-- a write commits nothing
pub committed_written : (committed : List Bool) (xid x : ℕ) → has_committed (with_place xid committed) x ≡ (has_committed committed x || false)
committed_written committed xid x = unmarked committed (xid + 1 - length committed) x ∙ sym (or-false (has_committed committed x))

-- and leaves a place for its Xid
pub place_written : (committed : List Bool) (xid : ℕ) → (length committed ≤ length (with_place xid committed)) × (xid < length (with_place xid committed))
place_written committed xid =
    let long : length (with_place xid committed) ≡ length committed + (xid + 1 - length committed) = length-append committed (replicate (xid + 1 - length committed) false) ∙ ap (λ n. length committed + n) (length-replicate (xid + 1 - length committed) false) in
    (omega (arith, long), omega (arith, long))

-- what of a write that is allowed its rows rest on
pub write_parts : (seg : Segment) (b c : ℕ) (xid : Xid) (list : List Item) → may_write seg b c xid list ≡ true → ((xid.0 == xid_at seg b) ≡ true) × (are_distinct_keys (flat_map changed_key list) ≡ true)
write_parts seg b c xid list is =
    let covered = and_parts _ _ is in
    let changes = and_parts _ _ covered.0 in
    let keys = and_parts _ _ changes.0 in
    let only = and_parts _ _ keys.0 in
    let oids = and_parts _ _ only.0 in
    (oids.0, keys.1)

module _ (seg : Segment) (b c : ℕ) (running : Option RunningTransaction) (store : Store) (m : Mirrors seg b store (xid_in running)) where
  -- the versions after an event that is allowed
  pub versions_next : (event : Event) → AllByRecursion (AreDrawn seg.last_xid) seg.versions → running ≡ (seg.standing b).running → allows_event seg b c event ≡ true
      → (store_after (xid_in running) c event store).versions ≡ versions_after seg b c event seg.versions
  versions_next (Write xid list) drawn own allows =
      let parts = write_parts seg b c xid list allows in
      versions_written seg b c xid list store drawn m.versions m.committed (eqb-true xid.0 (xid_at seg b) parts.0) parts.1 ∙ ap (λ vs. fold (change_at seg b (record { xid = xid; command = c })) vs list) m.versions
  versions_next (Gone from) drawn own allows =
      undone_versions (xid_in running) from store ∙ ap (taken_back (λ s. is_own (xid_in running) s && nat_le from s.command)) m.versions
      ∙ sym (ap (λ (test : Stamp → Bool). taken_back (λ s. test s && nat_le from s.command) seg.versions) (λ i s. runs_own seg b running s own i))
  versions_next (Visible xid) drawn own allows = m.versions
  versions_next event drawn own allows = m.versions

  -- what is committed then
  pub committed_after : (event : Event) → IsPlaced store event → (x : ℕ) → has_committed (store_after (xid_in running) c event store).committed x ≡ (has_committed store.committed x || makes_visible x event)
  committed_after (Write xid list) placed x = committed_written store.committed xid.0 x
  committed_after (Visible xid) placed x = marked store.committed xid.0 x placed
  committed_after (Gone from) placed x = ap (λ committed. has_committed committed x) (undone_committed (xid_in running) from store) ∙ sym (or-false (has_committed store.committed x))
  committed_after event placed x = sym (or-false (has_committed store.committed x))

  -- and the places, of which one is the writer's
  pub places_grow : (event : Event) → length store.committed ≤ length (store_after (xid_in running) c event store).committed
  places_grow (Write xid list) = (place_written store.committed xid.0).0
  places_grow (Visible xid) = omega (arith, length-set store.committed xid.0 true)
  places_grow (Gone from) = omega (arith, ap length (undone_committed (xid_in running) from store))
  places_grow event = omega arith

  pub place_drawn : (event : Event) (x : ℕ) → writes_as x event ≡ true → x < length (store_after (xid_in running) c event store).committed
  place_drawn (Write xid list) x writes = omega (arith, (place_written store.committed xid.0).1, eqb-true xid.0 x writes)
  place_drawn event x writes = absurd (cc)

-- the stamps of all versions are drawn, and their commands have successors
pub drawn_after : (seg : Segment) (b c : ℕ) (event : Event) → c < 4294967295 → AllByRecursion (AreDrawn (seg.last_xid)) (seg.versions)
    → AllByRecursion (AreDrawn (last_xid_by event seg.last_xid)) (versions_after seg b c event seg.versions)
drawn_after seg b c (Write xid list) low drawn =
    stamps-write (λ s row. IsDrawn last s) (λ row. Unit {0}) seg b (record { xid = xid; command = c }) (λ row any. record { xid = omega arith; command = low }) list (seg.versions)
    (every (λ item. IfSome (added_row item) (λ row. Unit {0}) × AllByRecursion (λ v. ends_at seg b item v ≡ true → Unit {0}) (seg.versions)) (λ item. (any_row (added_row item), every (λ v. ends_at seg b item v ≡ true → Unit {0}) (λ v is. tt) (seg.versions))) list)
    (every-weaker (AreDrawn (seg.last_xid)) (AreDrawn last) (λ v of. stamps-weaker (λ s row. IsDrawn (seg.last_xid) s) (λ s row. IsDrawn last s) (λ s row one. record { xid = omega (arith, one.xid); command = one.command }) v of) (seg.versions) drawn)
  where
    last : ℕ
    last = last_xid_by (Write xid list) (seg.last_xid)

    any_row : (o : Option Row) → IfSome o (λ row. Unit {0})
    any_row None = tt
    any_row (Some row) = tt
drawn_after seg b c (Gone from) low drawn =
    stamps-gone (λ s row. IsDrawn (seg.last_xid) s) (λ s row. IsDrawn (seg.last_xid) s) (back_at seg b from) (λ s row is one. one) (seg.versions) drawn
drawn_after seg b c event low drawn = drawn
