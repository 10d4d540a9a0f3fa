-- Versions that are there after one more entry, and those of rows that are seen.
use Rattle.std.proofs.Common.{◌≡◌, ℕ, true, false, not, List, [], ◌∷◌, ap, map, filter, fold}
use Rattle.std.specs.Prelude.{⊤}
use Rattle.row_visibility.specs.declared.version.Version.{Version}
use Rattle.row_visibility.specs.declared.version.Stamp.{Stamp}
use Rattle.event_kinds.specs.declared.entry.Event.TheVariants as events
use Rattle.history_model.specs.Versions.{versions_of, versions_by, change_by, end_by, ends, version_of, added_row, is_back, end_back, sees, rows_of}
use Rattle.history_model.proofs.Every.{SomeOf, some-weaker, some-left, some-map, some-unmap, some-filter, some-unfilter}
use Rattle.cacheless.specs.Types.{Row, Entry, Event, Item}
use Rattle.cacheless.proofs.Successors.{by_kept}

-- the event takes back nothing that the stamp has done
abbrev pub IsSpared : List Entry → ℕ → Event → Stamp → Type 0
IsSpared before b (events.Gone from) s = is_back before b from s ≡ false
IsSpared before b event s = ⊤

-- a version that is there stays in a write, with the stamp by which it was added
pub some_written : (Q : Row → Stamp → Type 0) (before : List Entry) (b : ℕ) (stamp : Stamp) (items : List Item) (vs : List Version) → SomeOf (λ v. Q v.row v.by) vs → SomeOf (λ v. Q v.row v.by) (fold (change_by before b stamp) vs items)
some_written Q before b stamp [] vs there = there
some_written Q before b stamp (item ∷ items) vs there =
    some_written Q before b stamp items (change_by before b stamp vs item) (some-left (λ v. Q v.row v.by) (map (end_by (ends before b item) stamp) vs) (version_of stamp (added_row item))
    (some-map (λ v. Q v.row v.by) (end_by (ends before b item) stamp) vs (some-weaker (λ v. Q v.row v.by) (λ v. Q (end_by (ends before b item) stamp v).row (end_by (ends before b item) stamp v).by) (by_kept Q (ends before b item) stamp) vs there)))

-- and after any event, unless it is taken back
pub some_stays : (Q : Row → Stamp → Type 0) (before : List Entry) (b c : ℕ) (event : Event) (vs : List Version) → SomeOf (λ v. Q v.row v.by × IsSpared before b event v.by) vs → SomeOf (λ v. Q v.row v.by) (versions_by before b c event vs)
some_stays Q before b c (events.Write xid items) vs some = some_written Q before b (record { xid = xid; command = c }) items vs (some-weaker (λ v. Q v.row v.by × ⊤) (λ v. Q v.row v.by) (λ v h. h.0) vs some)
some_stays Q before b c (events.Gone from) vs some =
    some-map (λ v. Q v.row v.by) (end_back (is_back before b from)) (filter (λ v. not (is_back before b from v.by)) vs)
    (some-filter (λ v. Q v.row v.by) (λ v. not (is_back before b from v.by)) vs
    (some-weaker (λ v. Q v.row v.by × (is_back before b from v.by ≡ false)) (λ v. (not (is_back before b from v.by) ≡ true) × Q v.row v.by) (λ v h. (ap not h.1, h.0)) vs some))
some_stays Q before b c event vs some = some-weaker (λ v. Q v.row v.by × ⊤) (λ v. Q v.row v.by) (λ v h. h.0) vs some

-- a row that is seen is that of a version which is seen
pub version_seen : (P : Row → Type 0) (history : List Entry) (b : ℕ) → SomeOf P (rows_of history b) → SomeOf (λ v. P v.row × (sees history b v ≡ true)) (versions_of history)
version_seen P history b some = some-weaker (λ v. (sees history b v ≡ true) × P v.row) (λ v. P v.row × (sees history b v ≡ true)) (λ v h. (h.1, h.0)) (versions_of history)
    (some-unfilter (λ v. P v.row) (sees history b) (versions_of history) (some-unmap P (λ v. v.row) (filter (sees history b) (versions_of history)) some))

-- and the other way round
pub row_seen : (P : Row → Type 0) (history : List Entry) (b : ℕ) → SomeOf (λ v. P v.row × (sees history b v ≡ true)) (versions_of history) → SomeOf P (rows_of history b)
row_seen P history b some = some-map P (λ v. v.row) (filter (sees history b) (versions_of history))
    (some-filter (λ v. P v.row) (sees history b) (versions_of history) (some-weaker (λ v. P v.row × (sees history b v ≡ true)) (λ v. (sees history b v ≡ true) × P v.row) (λ v h. (h.1, h.0)) (versions_of history) some))
