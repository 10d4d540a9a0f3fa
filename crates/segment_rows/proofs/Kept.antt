-- The rows that are kept of a segment, as its backends see them, and after an event that it allows.
use Rattle.std.proofs.Common.{◌≡◌, ◌<◌, ◌∙◌, ◌||◌, ◌==◌, ◌⊎◌, inl, inr, if◌then◌else◌, ℕ, Bool, true, false, Option, Result, Ok, Err, IfOk, Vec, List, ◌++◌, length, refl, ap, arith}
use Rattle.std.specs.Global.{Global}
use Rattle.std.specs.List.{flat_map}
use Rattle.std.proofs.lemmas.Bool.{and_parts}
use Rattle.base_types.specs.RowKeys.{key_of}
use Rattle.base_types.specs.declared.memory.NoMemory.{NoMemory}
use Rattle.catalog_rows.specs.Store.{Store, has_committed, row_of_key, rows_of_scan, no_rows}
use Rattle.history_model.specs.Segment.{Standing, Segment, no_entries, has_xid, runs_at, makes_visible, last_xid_by}
use Rattle.history_model.specs.Rows.{row_at, answer_at, old_at as seg_old}
use Rattle.history_model.specs.Messages.{cats_at, rels_at}
use Rattle.history_model.specs.Oids.{next_oid_by}
use Rattle.history_model.specs.After.{standing_after, after_event}
use Rattle.history_model.specs.Allows.{allows_event}
use Rattle.history_model.proofs.Runs.{writes_as, xid-from}
use Rattle.segment_rows.specs.Types.{Xid, RowKey, Purpose, Item, Add, Put, Remove, Force, Event, Write, Visible}
use Rattle.segment_rows.specs.Kept.{RowsHeld, KeepsRows, xid_in, reader_of, reader_at}
use Rattle.segment_rows.specs.Words.{messages_at, old_at, rows_after, IsPlaced, DrawsNext}
use Rattle.segment_rows.proofs.Mirrors.{Mirrors, runs_own, reads_same, row_same, scan_is_answer}
use Rattle.segment_rows.proofs.Messages.{messages_same}
use Rattle.segment_rows.proofs.RowsAfter.{versions_next, committed_after, places_grow, place_drawn, drawn_after}

-- the rows that are kept mirror the segment for a backend
pub mirrors : (seg : Segment) (rows : RowsHeld) (b : ℕ) → KeepsRows seg rows → Mirrors seg b rows.store (xid_in (seg.standing b).running)
mirrors seg rows b k = record { versions = k.versions; committed = k.committed; own_is = λ s. runs_own seg b (seg.standing b).running s refl }

pub rows_same : (seg : Segment) (rows : RowsHeld) (b : ℕ) → KeepsRows seg rows → (key : RowKey) → row_of_key rows.store key (reader_at (seg.standing b)) ≡ row_at seg b key
rows_same seg rows b k key = row_same seg b rows.store (reader_at (seg.standing b)) k.versions (reads_same seg b seg.last_xid rows.store (seg.standing b) (mirrors seg rows b k) k.drawn) key

-- the row that a change replaces or takes away
pub old_same : (seg : Segment) (rows : RowsHeld) (b : ℕ) → KeepsRows seg rows → (item : Item) → old_at rows.store (reader_at (seg.standing b)) item ≡ seg_old seg b item
old_same seg rows b k (Add row) = refl
old_same seg rows b k (Put row) = rows_same seg rows b k (key_of row)
old_same seg rows b k (Remove key) = rows_same seg rows b k key
old_same seg rows b k (Force rel) = refl

-- what a scan gives
pub scan_same : (seg : Segment) (rows : RowsHeld) (b : ℕ) (own : Option Xid) (purpose : Purpose) → KeepsRows seg rows → own ≡ xid_in (seg.standing b).running → rows_of_scan rows.store purpose (reader_of own) ≡ answer_at seg b purpose
scan_same seg rows b own purpose k is = ap (λ o. rows_of_scan rows.store purpose (reader_of o)) is ∙ scan_is_answer seg b seg.last_xid rows.store (seg.standing b) purpose (mirrors seg rows b k) k.drawn

-- and what a write announces
pub written_same : (seg : Segment) (rows : RowsHeld) (b : ℕ) (own : Option Xid) (list : List Item) → KeepsRows seg rows → own ≡ xid_in (seg.standing b).running → flat_map (messages_at rows.store (reader_of own)) list ≡ flat_map (λ item. cats_at seg b item ++ rels_at seg b item) list
written_same seg rows b own list k is = ap (λ o. flat_map (messages_at rows.store (reader_of o)) list) is ∙ messages_same seg b rows.store (reader_at (seg.standing b)) (rows_same seg rows b k) list

-- what is said of an answer, by other words
pub if_ok_same : {X : Type 0} (result : Result (Vec X Global) NoMemory) (given wanted : List X) → IfOk result (λ xs. xs.items ≡ given) → given ≡ wanted → IfOk result (λ xs. xs.items ≡ wanted)
if_ok_same (Ok xs) given wanted is same = is ∙ same
if_ok_same (Err error) given wanted is same = tt

-- what is allowed can be entered: a transaction that becomes visible has a place, and a write draws the next oids
pub placed : (seg : Segment) (rows : RowsHeld) (b c : ℕ) (event : Event) → KeepsRows seg rows → allows_event seg b c event ≡ true → IsPlaced rows.store event
placed seg rows b c (Visible xid) k allows = k.places b xid.0 (and_parts _ _ allows).0
placed seg rows b c event k allows = tt

pub draws_next : (seg : Segment) (b c : ℕ) (event : Event) → allows_event seg b c event ≡ true → DrawsNext seg.next_oid event
draws_next seg b c (Write xid items) allows = let before = and_parts _ _ (and_parts _ _ (and_parts _ _ allows).0).0 in (and_parts _ _ (and_parts _ _ before.0).0).1
draws_next seg b c event allows = tt

-- and then the rows of the next segment are kept
pub rows_more : (seg : Segment) (b c : ℕ) (event : Event) (old new : RowsHeld) → c < 4294967295 → IsPlaced old.store event → new ≡ rows_after (xid_in (seg.standing b).running) c event old → KeepsRows seg old → allows_event seg b c event ≡ true → KeepsRows (after_event seg b c event) new
rows_more seg b c event old new low at is k allows = record {
  versions = ap (λ (r : RowsHeld). r.store.versions) is ∙ versions_next seg b c own.running old.store m event k.drawn refl allows;
  committed = λ x. ap (λ (r : RowsHeld). has_committed r.store.committed x) is ∙ committed_after seg b c own.running old.store m event at x ∙ ap (λ t. t || makes_visible x event) (k.committed x);
  places = λ a x runs. by_owner a x (b == a) runs;
  drawn = drawn_after seg b c event low k.drawn;
  next_oid_is = ap (λ (r : RowsHeld). r.next_oid) is ∙ ap (next_oid_by event) k.next_oid_is;
  last_xid_is = ap (λ (r : RowsHeld). r.last_xid) is ∙ ap (last_xid_by event) k.last_xid_is;
}
  where
    own : Standing
    own = seg.standing b

    m : Mirrors seg b old.store (xid_in own.running)
    m = mirrors seg old b k

    from : (a x : ℕ) → (runs_at seg a x ≡ true) ⊎ (writes_as x event ≡ true) → x < length new.store.committed
    from a x (inl had) = omega (arith, k.places a x had, places_grow seg b c own.running old.store m event, ap (λ (r : RowsHeld). length r.store.committed) is)
    from a x (inr writes) = omega (arith, place_drawn seg b c own.running old.store m event x writes, ap (λ (r : RowsHeld). length r.store.committed) is)

    by_owner : (a x : ℕ) (t : Bool) → has_xid x (if t then standing_after seg b c event else seg.standing a).running ≡ true → x < length new.store.committed
    by_owner a x true runs = from b x (xid-from x c event own.running runs)
    by_owner a x false runs = from a x (inl runs)

-- before the first entry
pub rows_start : (rows : RowsHeld) → rows.store ≡ no_rows → rows.next_oid ≡ 16384 → rows.last_xid ≡ 0 → KeepsRows no_entries rows
rows_start rows store oid xid = record {
  versions = ap (λ (st : Store). st.versions) store;
  committed = λ x. ap (λ (st : Store). has_committed st.committed x) store;
  places = λ b x runs. absurd (cc runs);
  drawn = tt;
  next_oid_is = oid;
  last_xid_is = xid;
}
