-- Each change of a write has a byte of text: so a history draws no more oids and Xids, and leaves no more versions, than the texts of its entries have bytes.
use Rattle.std.proofs.Common.{◌≡◌, ◌≤◌, ◌+◌, ◌⊎◌, inl, inr, ℕ, zero, suc, Bool, true, false, not, Option, Some, None, List, [], ◌∷◌, ◌++◌, ap, codes, decimal, cond, fold, map, filter, length, arith}
use Rattle.std.specs.List.{flat_map, insert, position_or_len}
use Rattle.std.proofs.lemmas.Grind.{flat_map-append}
use Rattle.std.proofs.lemmas.List.{length-append, length-map}
use Rattle.base_types.specs.Scans.{selects, goes_before, put_in_order}
use Rattle.base_types.specs.declared.row.Row.TheVariants as rows
use Rattle.event_kinds.specs.Texts.{item_text, event_text, changes_of, changes_text, entry_text, place_text, ended, entries_text}
use Rattle.event_kinds.specs.declared.entry.Event.TheVariants as events
use Rattle.event_kinds.specs.declared.entry.Item.TheVariants as items
use Rattle.row_visibility.specs.declared.version.Stamp.{Stamp}
use Rattle.row_visibility.specs.declared.version.Version.{Version}
use Rattle.history_model.specs.After.{segment_of}
use Rattle.history_model.specs.Drawn.{drawn_by, next_oid, next_oid_by}
use Rattle.history_model.specs.MayFollow.{MayFollow, AllowsEvent}
use Rattle.history_model.specs.Segment.{Segment}
use Rattle.history_model.specs.Rows.{change_at, end_by, ends_at, version_of}
use Rattle.history_model.specs.Transactions.{last_xid, last_xid_by, runs_as}
use Rattle.history_model.specs.Versions.{versions_of, versions_by, added_row, sees, rows_of, answer_of, is_back, end_back}
use Rattle.history_model.proofs.Reading.{versions_of-more, next_oid-more, last_xid-more}
use Rattle.history_model.proofs.Runs.{xid-of_write, Runs}
use Rattle.cacheless.specs.Types.{Row, Purpose, Item, Entry, Event}
use Rattle.cacheless.specs.Typed.{CountsBytes}

-- ---- texts

changes_bytes : (changes : List Item) → length changes ≤ length (changes_text changes)
changes_bytes [] = omega arith
changes_bytes (item ∷ changes) = omega (arith, changes_bytes changes, length-append (codes " " ++ item_text item) (changes_text changes), some (item_text item))
  where
    some : (text : List ℕ) → 1 ≤ length (codes " " ++ text)
    some text = omega arith

event_bytes : (event : Event) → length (changes_of event) ≤ length (event_text event)
event_bytes (events.Write xid changes) = omega (arith, changes_bytes changes, length-append (codes "write " ++ decimal xid.0) (changes_text changes))
event_bytes event = omega arith

entry_bytes : (e : Entry) → length (changes_of e.event) ≤ length (entry_text e)
entry_bytes e = omega (arith, event_bytes e.event, length-append (codes "h " ++ place_text e.backend e.command) (event_text e.event))

-- the bytes of one more entry
pub bytes_more : (history : List Entry) (e : Entry) → length (entries_text (history ++ e ∷ [])) ≡ length (entries_text history) + (length (entry_text e) + 1)
bytes_more history e = omega (arith, ap length (flat_map-append (λ entry. ended (entry_text entry)) history (e ∷ [])), length-append (entries_text history) (entries_text (e ∷ [])), length-append (ended (entry_text e)) [], length-append (entry_text e) (codes "\n"))

-- ---- oids and Xids

drawn_few : (changes : List Item) → length (flat_map drawn_by changes) ≤ length changes
drawn_few [] = omega arith
drawn_few (item ∷ changes) = omega (arith, drawn_few changes, length-append (drawn_by item) (flat_map drawn_by changes), one item)
  where
    one : (x : Item) → length (drawn_by x) ≤ 1
    one (items.Add (rows.Class oid name kind fill)) = omega arith
    one (items.Add (rows.Def oid rel num word)) = omega arith
    one (items.Add (rows.Con oid rel name valid what)) = omega arith
    one (items.Add (rows.Trg oid rel name on)) = omega arith
    one item = omega arith

oids_few : (event : Event) (next : ℕ) → next_oid_by event next ≤ next + length (changes_of event)
oids_few (events.Write xid changes) next = omega (arith, drawn_few changes)
oids_few event next = omega arith

-- the Xid of a write is no more than the one that is drawn next
pub xid_few : (history : List Entry) (b c : ℕ) (event : Event) → Runs history → AllowsEvent history b c event → last_xid_by event (last_xid history) ≤ last_xid history + 1
xid_few history b c (events.Write xid changes) runs allowed = of (xid-of_write history b xid.0 allowed.xid_is)
  where
    of : (runs_as history b xid.0 ≡ true) ⊎ (xid.0 ≡ last_xid history + 1) → last_xid_by (events.Write xid changes) (last_xid history) ≤ last_xid history + 1
    of (inl own) = omega (arith, runs.bound b xid.0 own)
    of (inr new) = omega (arith, new)
xid_few history b c event runs allowed = omega arith

-- ---- versions

added_few : (stamp : Stamp) (o : Option Row) → length (version_of stamp o) ≤ 1
added_few stamp None = omega arith
added_few stamp (Some row) = omega arith

changed_few : (s : Segment) (b : ℕ) (stamp : Stamp) (old : List Version) (changes : List Item) → length (fold (change_at s b stamp) old changes) ≤ length old + length changes
changed_few s b stamp old [] = omega arith
changed_few s b stamp old (item ∷ changes) = omega (arith, changed_few s b stamp (change_at s b stamp old item) changes, length-append (map (end_by (ends_at s b item) stamp) old) (version_of stamp (added_row item)), length-map old (end_by (ends_at s b item) stamp), added_few stamp (added_row item))

-- a filter keeps no more elements than there are
pub kept_few : {X : Type 0} (p : X → Bool) (xs : List X) → length (filter p xs) ≤ length xs
kept_few p [] = omega arith
kept_few p (x ∷ xs) = by_test (p x) (kept_few p xs)
  where
    by_test : (t : Bool) → length (filter p xs) ≤ length xs → length (cond t (x ∷ filter p xs) (filter p xs)) ≤ length (x ∷ xs)
    by_test true few = omega (arith, few)
    by_test false few = omega (arith, few)

versions_few : (history : List Entry) (b command : ℕ) (event : Event) → length (versions_by history b command event (versions_of history)) ≤ length (versions_of history) + length (changes_of event)
versions_few history b command (events.Write xid changes) = changed_few (segment_of history) b (record { xid = xid; command = command }) (versions_of history) changes
versions_few history b command (events.Gone from) = omega (arith, length-map (filter (λ v. not (is_back history b from v.by)) (versions_of history)) (end_back (is_back history b from)), kept_few (λ v. not (is_back history b from v.by)) (versions_of history))
versions_few history b command event = omega arith

-- ---- rows

put_few : (given : List Row) (n : ℕ) (row : Row) → length (insert given n row) ≤ length given + 1
put_few given zero row = omega arith
put_few [] (suc n) row = omega arith
put_few (x ∷ given) (suc n) row = omega (arith, put_few given n row)

given_few : (d : Purpose) (given more : List Row) → length (fold (put_in_order d) given more) ≤ length given + length more
given_few d given [] = omega arith
given_few d given (row ∷ more) = omega (arith, given_few d (put_in_order d given row) more, put_few given (position_or_len (goes_before d row) given) row)

-- a scan gives no more rows than there are versions
pub answer_few : (history : List Entry) (b : ℕ) (scan : Purpose) → length (answer_of history b scan) ≤ length (versions_of history)
answer_few history b scan = omega (arith, given_few scan [] (filter (selects scan) (rows_of history b)), kept_few (selects scan) (rows_of history b), length-map (filter (sees history b) (versions_of history)) (λ v. v.row), kept_few (sees history b) (versions_of history))

-- ---- one more entry

pub counts_bytes_more : (history : List Entry) (e : Entry) → Runs history → MayFollow history e → CountsBytes history → CountsBytes (history ++ e ∷ [])
counts_bytes_more history e runs follows counts = record {
  oids = omega (arith, counts.oids, next_oid-more history e, oids_few e.event (next_oid history), entry_bytes e, bytes_more history e);
  xids = omega (arith, counts.xids, last_xid-more history e, xid_few history e.backend e.command e.event runs follows.event, bytes_more history e);
  rows = omega (arith, counts.rows, ap length (versions_of-more history e), versions_few history e.backend e.command e.event, entry_bytes e, bytes_more history e);
}

-- before the first entry
pub counts_bytes_start : CountsBytes []
counts_bytes_start = record { oids = omega arith; xids = omega arith; rows = omega arith }
