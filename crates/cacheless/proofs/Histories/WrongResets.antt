-- Resets that no history allows and no command does, and at the end those beside them that may be: a worked example up to a place, and one entry there.
use Rattle.std.proofs.Common.{List, ◌≡◌, ◌++◌, true, false, [], ◌∷◌, codes, refl, arith}
use Rattle.base_types.specs.declared.mode.Mode.TheVariants.{AccessShare}
use Rattle.base_types.specs.declared.kind.Kind.TheVariants.{Table}
use Rattle.base_types.specs.declared.scan.Purpose.TheVariants as scans
use Rattle.base_types.specs.declared.field.Field.TheVariants as fields
use Rattle.event_kinds.specs.declared.entry.Event.TheVariants.{Start, Look, Fetch, FetchReset, LockOk, Scan, Write, Visible, Publish, Release}
use Rattle.event_kinds.specs.declared.entry.Entry.{Entry}
use Rattle.history_model.specs.Lapped.{is_lapped, FetchesFrom}
use Rattle.history_model.specs.After.{segment_of}
use Rattle.history_model.specs.Allows.{allows}
use Rattle.history_model.specs.Read.{ScansOnlyIfNeeded}
use Rattle.cacheless.specs.Nexts.{is_next}
use Rattle.cacheless.specs.Protected.{is_protected}
use Rattle.cacheless.proofs.Plans.Given.{oid, xid, entry, new_table}
use Rattle.cacheless.proofs.Histories.TwoCreators as creators
use Rattle.cacheless.proofs.Histories.CreateThenShow as show
use Rattle.cacheless.proofs.Histories.AnothersTable as another
use Rattle.cacheless.proofs.Histories.FullFetch as full
use Rattle.cacheless.proofs.Histories.LappedReader as lapped

-- four messages wait, and a queue keeps the last of them: the backend reads on
pub reads_on : FetchesFrom 1 show.looked_at_start 1 (Fetch 4) → ⊥
reads_on h = search arith

-- it reads on from the oldest message that the queue has
pub reads_what_is_left : allows (segment_of show.looked_at_start) (entry 1 2 (Fetch 1)) ≡ false
reads_what_is_left = refl

-- four messages wait, and the queue keeps three: a reset one message too late
pub reset_too_late : FetchesFrom 3 show.looked_at_start 1 (Fetch 4) → ⊥
reset_too_late h = search arith

-- four messages wait, and the queue keeps four: a reset one message too early
pub reset_too_early : FetchesFrom 4 show.looked_at_start 1 FetchReset → ⊥
reset_too_early h = search arith

-- a reset because something waits
pub reset_where_something_waits : FetchesFrom 64 show.looked_at_start 1 FetchReset → ⊥
reset_where_something_waits h = search arith

-- a full fetch of what waits, though the smallest queue has lost the first of it
pub lapped_reader_reads_on : FetchesFrom 64 lapped.looked 2 (Fetch 32) → ⊥
lapped_reader_reads_on h = search arith

-- a reset where half of the smallest queue waits
pub reset_of_full_fetch : FetchesFrom 64 full.looked 2 FetchReset → ⊥
reset_of_full_fetch h = search arith

-- a reset without a look before it
pub reset_without_look : allows (segment_of lapped.released) (entry 2 2 FetchReset) ≡ false
reset_without_look = refl

-- a reset after a look that said no
pub reset_after_look_no : allows (segment_of (creators.first_stopped ++ entry 2 2 (Look false) ∷ [])) (entry 2 2 FetchReset) ≡ false
reset_after_look_no = refl

-- a reset of a backend that hasn't started
pub reset_before_start : allows (segment_of creators.first_written) (entry 2 0 FetchReset) ≡ false
reset_before_start = refl

-- a reset of a backend that has stopped
pub reset_after_stop : allows (segment_of lapped.stopped) (entry 2 3 FetchReset) ≡ false
reset_after_stop = refl

-- a second reset right after the first
pub second_reset : allows (segment_of lapped.reset) (entry 2 2 FetchReset) ≡ false
second_reset = refl

-- a fetch of the messages that the reset passed over
pub fetch_after_reset : allows (segment_of lapped.reset) (entry 2 2 (Fetch 6)) ≡ false
fetch_after_reset = refl

-- something waits though a reset has just passed over all
pub look_yes_after_reset : allows (segment_of lapped.reset) (entry 2 2 (Look true)) ≡ false
look_yes_after_reset = refl

-- another table is made while the descriptor is built, and a reset follows the scan of the relation
abbrev pub reset_in_build : List Entry
reset_in_build = another.class_scanned
    ++ entry 1 2 (Write (xid 2) (new_table 16385 (codes "u") (codes "a"))) ∷ entry 1 2 (Visible (xid 2)) ∷ entry 1 2 (Publish 3) ∷ entry 1 2 (Publish 1) ∷ entry 1 2 (Release 2) ∷ entry 2 1 (Look true) ∷ entry 2 1 FetchReset ∷ []

-- the build goes on, and the scan of the relation isn't repeated
pub build_goes_on : is_next another.show_of_anothers_table (reset_in_build ++ entry 2 1 (Look false) ∷ []) (entry 2 1 (Scan (scans.Attribute (oid 16384)) 1)) ≡ false
build_goes_on = refl

-- the table made whose name wasn't there, and a reset before the lookup has ended
abbrev pub name_appeared : List Entry
name_appeared = another.started
    ++ entry 2 1 (Look false) ∷ entry 2 1 (Scan (scans.RelName (codes "t")) 0) ∷ entry 1 0 Start ∷ entry 1 1 (Look false) ∷ entry 1 1 (Write (xid 1) (new_table 16384 (codes "t") (codes "a")))
    ∷ entry 1 1 (Visible (xid 1)) ∷ entry 1 1 (Publish 3) ∷ entry 1 1 (Publish 1) ∷ entry 1 1 (Release 1) ∷ entry 2 1 (Look true) ∷ entry 2 1 FetchReset ∷ []

-- the lookup ends by the scan made before
pub absent_after_reset : is_next another.show_of_anothers_table (name_appeared ++ entry 2 1 (Look false) ∷ []) (entry 2 1 (Release 1)) ≡ false
absent_after_reset = refl

-- a command ends though a reset took its descriptor away
pub shown_after_reset : is_next another.show_of_anothers_table (another.trigger_scanned
    ++ entry 1 2 (Write (xid 2) (new_table 16385 (codes "u") (codes "a"))) ∷ entry 1 2 (Visible (xid 2)) ∷ entry 1 2 (Publish 3) ∷ entry 1 2 (Publish 1) ∷ entry 1 2 (Release 2) ∷ entry 2 1 (Look true) ∷ entry 2 1 FetchReset ∷ []) (entry 2 1 (Release 1)) ≡ false
shown_after_reset = refl

-- an act between a look that said yes and the reset
pub lock_before_reset : is_next another.show_of_anothers_table (another.name_scanned ++ entry 2 1 (Look true) ∷ []) (entry 2 1 (LockOk (oid 16384) AccessShare)) ≡ false
lock_before_reset = refl

-- the queue keeps all that waits
pub served_of_full_queue : FetchesFrom 4 show.looked_at_start 1 (Fetch 4)
served_of_full_queue = search arith

-- one message more than the queue keeps
pub reset_by_one_message : FetchesFrom 3 show.looked_at_start 1 FetchReset
reset_by_one_message = search arith

-- a reset after a look that said yes, by the entries alone
pub reset_after_look_yes : allows (segment_of show.looked_at_start) (entry 1 2 FetchReset) ≡ true
reset_after_look_yes = refl

-- after a reset no message is lost that the smallest queue could keep
pub not_lapped_after_reset : is_lapped 64 lapped.reset 2 ≡ false
not_lapped_after_reset = search arith

-- the build starts over
pub build_starts_over : is_next another.show_of_anothers_table (reset_in_build ++ entry 2 1 (Look false) ∷ []) (entry 2 1 (Scan (scans.Class (oid 16384)) 1)) ≡ true
build_starts_over = refl

-- what a reset took away is needed again, whatever the messages were of
pub class_needed_again : ScansOnlyIfNeeded reset_in_build 2 (Scan (scans.Class (oid 16384)) 1)
class_needed_again = search arith

-- a name is scanned again after a reset
pub name_scanned_again : is_next another.show_of_anothers_table name_appeared (entry 2 1 (Scan (scans.RelName (codes "t")) 1)) ≡ true
name_scanned_again = refl

-- after a reset no further look is owed, and a lock protects
pub protected_after_reset : is_protected another.show_of_anothers_table (another.locked ++ entry 2 1 (Look true) ∷ entry 2 1 FetchReset ∷ []) 2 (oid 16384) Table fields.Columns ≡ true
protected_after_reset = search arith
