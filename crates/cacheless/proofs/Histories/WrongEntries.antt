-- What no history allows, and at the end what it allows beside it: a worked example up to a place, and one entry there, by the test that decides it (`allows_decides`).
use Rattle.std.proofs.Common.{ℕ, ℤ, Bool, List, pos, negsuc, ◌≡◌, ◌++◌, true, false, Some, None, [], ◌∷◌, codes, refl, arith}
use Rattle.base_types.specs.declared.mode.Mode.TheVariants.{AccessShare, ShareUpdateExclusive, AccessExclusive}
use Rattle.base_types.specs.declared.kind.Kind.TheVariants.{Table, Index}
use Rattle.base_types.specs.declared.row.Row.{Row}
use Rattle.base_types.specs.declared.row.Row.TheVariants.{Class, Att, Con, Trg}
use Rattle.base_types.specs.declared.row.ConKind.TheVariants.{Foreign}
use Rattle.base_types.specs.declared.col_type.ColType.TheVariants.{Int4}
use Rattle.base_types.specs.declared.row_key.RowKey.TheVariants as keys
use Rattle.base_types.specs.declared.scan.Purpose.TheVariants as scans
use Rattle.event_kinds.specs.declared.entry.Event.TheVariants.{Start, Look, Fetch, LockOk, LockHeld, Unlock, Scan, Write, ClashRow, ClashRunning, Visible, Publish, Release, Gone, Fail, Stop}
use Rattle.event_kinds.specs.declared.entry.Entry.{Entry}
use Rattle.event_kinds.specs.declared.entry.Item.{Item}
use Rattle.event_kinds.specs.declared.entry.Item.TheVariants.{Add, Put, Remove, Force}
use Rattle.history_model.specs.Transactions.{Committed, InProgress, Aborted, status_of}
use Rattle.history_model.specs.After.{segment_of}
use Rattle.history_model.specs.Allows.{allows}
use Rattle.history_model.specs.Read.{ScansOnlyIfNeeded}
use Rattle.history_model.specs.Orderly.{IsOrderly}
use Rattle.cacheless.proofs.Plans.Given.{oid, xid, entry, new_class, new_column, new_table, wide_table}
use Rattle.cacheless.proofs.Histories.TwoCreators as creators
use Rattle.cacheless.proofs.Histories.NewOids as oids
use Rattle.cacheless.proofs.Histories.CreateThenShow as show
use Rattle.cacheless.proofs.Histories.RefusedLock as refused
use Rattle.cacheless.proofs.Histories.ThreeHolders as three
use Rattle.cacheless.proofs.Histories.CatalogCaches as caches

-- a foreign key of the second table: whether it is known to hold, and the column of the first to which it refers
abbrev pub foreign_key : Bool → ℕ → Row
foreign_key valid refnum = Con (oid 16386) (oid 16385) (codes "k") valid (Foreign 1 (oid 16384) refnum)

-- a write of a name that another running transaction has in use
pub clash_passed_over : allows (segment_of creators.second_looked) (entry 2 1 (Write (xid 2) (new_table 16385 (codes "x") (codes "b")))) ≡ false
clash_passed_over = refl

-- a clash with a transaction that hasn't the name in use
pub clash_with_wrong_transaction : allows (segment_of creators.second_looked) (entry 2 1 (ClashRunning (codes "x") (xid 2))) ≡ false
clash_with_wrong_transaction = refl

-- a clash of a name that nobody has in use
pub clash_of_free_name : allows (segment_of creators.second_looked) (entry 2 1 (ClashRunning (codes "y") (xid 1))) ≡ false
clash_of_free_name = refl

-- a clash with the own transaction
pub clash_with_own_row : allows (segment_of creators.first_written) (entry 1 2 (ClashRunning (codes "x") (xid 1))) ≡ false
clash_with_own_row = refl

-- a clash with a row that the backend doesn't see
pub clash_row_of_running : allows (segment_of creators.second_looked) (entry 2 1 (ClashRow (codes "x") (oid 16384))) ≡ false
clash_row_of_running = refl

-- a clash with a running transaction that is committed
pub clash_with_committed_as_running : allows (segment_of creators.second_fetched) (entry 2 2 (ClashRunning (codes "x") (xid 1))) ≡ false
clash_with_committed_as_running = refl

-- a clash with a relation that hasn't the name
pub clash_with_wrong_row : allows (segment_of creators.second_fetched) (entry 2 2 (ClashRow (codes "x") (oid 16385))) ≡ false
clash_with_wrong_row = refl

-- a write of a name that a relation has
pub name_written_again : allows (segment_of creators.second_fetched) (entry 2 2 (Write (xid 2) (new_table 16385 (codes "x") (codes "b")))) ≡ false
name_written_again = refl

-- a clash with a name that was taken back
pub clash_with_rolled_back_name : allows (segment_of oids.looked) (entry 1 4 (ClashRunning (codes "u") (xid 1))) ≡ false
clash_with_rolled_back_name = refl

-- a row of another's running transaction is found
pub running_row_found : allows (segment_of creators.second_looked) (entry 2 1 (Scan (scans.RelName (codes "x")) 1)) ≡ false
running_row_found = refl

-- a row of a committed transaction isn't found
pub committed_row_missed : allows (segment_of creators.second_fetched) (entry 2 2 (Scan (scans.RelName (codes "x")) 0)) ≡ false
committed_row_missed = refl

-- a backend doesn't find what its own transaction wrote
pub own_row_missed : allows (segment_of creators.first_written) (entry 1 3 (Scan (scans.RelName (codes "x")) 0)) ≡ false
own_row_missed = refl

-- a row that was taken back is found by its name
pub rolled_back_row_found : allows (segment_of oids.looked) (entry 1 4 (Scan (scans.RelName (codes "u")) 1)) ≡ false
rolled_back_row_found = refl

-- a row that was taken back is found by its oid
pub rolled_back_row_found_by_oid : allows (segment_of oids.looked) (entry 1 4 (Scan (scans.Class (oid 16384)) 1)) ≡ false
rolled_back_row_found_by_oid = refl

-- a table has more columns than were written
pub more_columns_than_written : allows (segment_of show.locked) (entry 1 2 (Scan (scans.Attribute (oid 16384)) 2)) ≡ false
more_columns_than_written = refl

-- an oid that was rolled back is drawn again
pub oid_drawn_twice : allows (segment_of oids.looked) (entry 1 4 (Write (xid 2) (new_table 16384 (codes "w") (codes "a")))) ≡ false
oid_drawn_twice = refl

-- an oid is passed over
pub oid_passed_over : allows (segment_of oids.looked) (entry 1 4 (Write (xid 2) (new_table 16386 (codes "w") (codes "a")))) ≡ false
oid_passed_over = refl

-- the Xid of a transaction that was rolled back
pub xid_drawn_twice : allows (segment_of oids.looked) (entry 1 4 (Write (xid 1) (new_table 16385 (codes "w") (codes "a")))) ≡ false
xid_drawn_twice = refl

-- an Xid is passed over
pub xid_passed_over : allows (segment_of oids.looked) (entry 1 4 (Write (xid 3) (new_table 16385 (codes "w") (codes "a")))) ≡ false
xid_passed_over = refl

-- a second Xid for one transaction
pub second_xid_in_transaction : allows (segment_of creators.first_written) (entry 1 3 (Write (xid 2) (new_table 16385 (codes "y") (codes "a")))) ≡ false
second_xid_in_transaction = refl

-- a second write in a command
pub two_writes_in_a_command : allows (segment_of creators.first_written) (entry 1 2 (Write (xid 1) (new_table 16385 (codes "y") (codes "a")))) ≡ false
two_writes_in_a_command = refl

-- a row's key twice in a write
pub key_written_twice : allows (segment_of creators.first_looked) (entry 1 2 (Write (xid 1) (new_class 16384 (codes "x") ∷ new_column 16384 (codes "a") ∷ new_column 16384 (codes "b") ∷ []))) ≡ false
key_written_twice = refl

-- a column for a relation on which the backend holds no lock
pub unguarded_write : allows (segment_of creators.second_fetched) (entry 2 2 (Write (xid 2) (new_column 16384 (codes "c") ∷ []))) ≡ false
unguarded_write = refl

-- ShareUpdateExclusive is held on a table
abbrev pub weakly_locked : List Entry
weakly_locked = creators.second_fetched ++ entry 2 2 (LockOk (oid 16384) ShareUpdateExclusive) ∷ []

-- the table's column, with a name and a statistics target
abbrev pub column_put : List ℕ → ℤ → List Item
column_put name target = Put (Att (oid 16384) 1 name Int4 target true) ∷ []

-- a column gets another name under a weak mode
pub renamed_weakly : allows (segment_of weakly_locked) (entry 2 2 (Write (xid 2) (column_put (codes "b") (negsuc 0)))) ≡ false
renamed_weakly = refl

-- a column gets another name beside its statistics target under a weak mode
pub renamed_with_target : allows (segment_of weakly_locked) (entry 2 2 (Write (xid 2) (column_put (codes "b") (pos 100)))) ≡ false
renamed_with_target = refl

-- a statistics target is set where no lock is held
pub target_without_lock : allows (segment_of creators.second_fetched) (entry 2 2 (Write (xid 2) (column_put (codes "a") (pos 100)))) ≡ false
target_without_lock = refl

-- a table gets another name under a weak mode
pub table_renamed_weakly : allows (segment_of weakly_locked) (entry 2 2 (Write (xid 2) (Put (Class (oid 16384) (codes "y") Table None) ∷ []))) ≡ false
table_renamed_weakly = refl

-- a row is replaced that the backend doesn't see
pub unseen_row_replaced : allows (segment_of creators.first_written) (entry 1 3 (Write (xid 1) (Put (Att (oid 16384) 2 (codes "b") Int4 (negsuc 0) true) ∷ []))) ≡ false
unseen_row_replaced = refl

-- a row is taken away that isn't there
pub unseen_row_removed : allows (segment_of oids.looked) (entry 1 4 (Write (xid 2) (Remove (keys.Class (oid 16384)) ∷ []))) ≡ false
unseen_row_removed = refl

-- a table made an index
pub kind_changed : allows (segment_of creators.first_written) (entry 1 3 (Write (xid 1) (Put (Class (oid 16384) (codes "x") Index None) ∷ []))) ≡ false
kind_changed = refl

-- locks are released while the writes under them aren't taken back
pub release_before_gone : allows (segment_of oids.written) (entry 1 3 (Release 1)) ≡ false
release_before_gone = refl

-- writes are taken back where there are none
pub nothing_taken_back : allows (segment_of oids.begun) (entry 1 1 (Gone 1)) ≡ false
nothing_taken_back = refl

-- writes of later commands are taken back, where there is none
pub later_commands_taken_back : allows (segment_of oids.written) (entry 1 3 (Gone 3)) ≡ false
later_commands_taken_back = refl

-- the same is taken back twice
pub taken_back_twice : allows (segment_of oids.taken_back) (entry 1 3 (Gone 1)) ≡ false
taken_back_twice = refl

-- what was taken back and what is released differ
pub other_release_after_gone : allows (segment_of oids.taken_back) (entry 1 3 (Release 2)) ≡ false
other_release_after_gone = refl

-- a look between `gone` and its release
pub look_after_gone : allows (segment_of oids.taken_back) (entry 1 3 (Look false)) ≡ false
look_after_gone = refl

-- a transaction becomes visible after all its writes were taken back
pub visible_after_gone : allows (segment_of oids.released) (entry 1 3 (Visible (xid 1))) ≡ false
visible_after_gone = refl

-- a visible transaction is taken back
pub gone_after_visible : allows (segment_of creators.first_visible) (entry 1 3 (Gone 1)) ≡ false
gone_after_visible = refl

-- a transaction without a write becomes visible
pub visible_without_write : allows (segment_of creators.first_looked) (entry 1 1 (Visible (xid 1))) ≡ false
visible_without_write = refl

-- another's transaction is made visible
pub another_made_visible : allows (segment_of creators.second_looked) (entry 2 1 (Visible (xid 1))) ≡ false
another_made_visible = refl

-- a second visibility step
pub visible_twice : allows (segment_of creators.first_visible) (entry 1 3 (Visible (xid 1))) ≡ false
visible_twice = refl

-- a visible transaction keeps a part of its locks
pub released_in_part : allows (segment_of creators.first_published) (entry 1 3 (Release 2)) ≡ false
released_in_part = refl

-- a scan between the visibility step and the release
pub scan_after_visible : allows (segment_of creators.first_visible) (entry 1 3 (Scan (scans.RelName (codes "x")) 1)) ≡ false
scan_after_visible = refl

-- locks of later commands are released
pub later_locks_released : allows (segment_of show.looked_after_lock) (entry 1 2 (Release 3)) ≡ false
later_locks_released = refl

-- a stop while a transaction runs
pub stop_in_a_transaction : allows (segment_of creators.first_written) (entry 1 3 Stop) ≡ false
stop_in_a_transaction = refl

-- a lock granted against a conflicting holder
pub lock_against_holder : allows (segment_of refused.scanned) (entry 2 1 (LockOk (oid 16384) AccessShare)) ≡ false
lock_against_holder = refl

-- a lock refused by another than the holder
pub wrong_holder : allows (segment_of refused.scanned) (entry 2 1 (LockHeld (oid 16384) AccessShare 2 AccessExclusive)) ≡ false
wrong_holder = refl

-- a lock refused by a mode that isn't held
pub wrong_held_mode : allows (segment_of refused.scanned) (entry 2 1 (LockHeld (oid 16384) AccessShare 1 AccessShare)) ≡ false
wrong_held_mode = refl

-- a lock refused by a holder to whom another that conflicts was granted before
pub later_holder : allows (segment_of three.third_scanned) (entry 3 2 (LockHeld (oid 16384) AccessExclusive 2 AccessShare)) ≡ false
later_holder = refl

-- a lock refused though nobody holds one
pub refused_without_holder : allows (segment_of refused.released) (entry 2 1 (LockHeld (oid 16384) AccessShare 1 AccessExclusive)) ≡ false
refused_without_holder = refl

-- a lock that the backend holds already
pub locked_twice : allows (segment_of show.locked) (entry 1 2 (LockOk (oid 16384) AccessShare)) ≡ false
locked_twice = refl

-- a look says yes where nothing waits
pub nothing_waits : allows (segment_of show.fetched) (entry 1 2 (Look true)) ≡ false
nothing_waits = refl

-- a look says no though messages waited at the backend's last entry
pub waiting_passed_over : allows (segment_of show.released) (entry 1 2 (Look false)) ≡ false
waiting_passed_over = refl

-- a fetch without a look before it
pub fetch_without_look : allows (segment_of creators.first_stopped) (entry 2 2 (Fetch 4)) ≡ false
fetch_without_look = refl

-- a fetch after a look that said no
pub fetch_after_look_no : allows (segment_of (creators.first_stopped ++ entry 2 2 (Look false) ∷ [])) (entry 2 2 (Fetch 4)) ≡ false
fetch_after_look_no = refl

-- a fetch stops though messages are left
pub fetch_in_part : allows (segment_of show.looked_at_start) (entry 1 2 (Fetch 3)) ≡ false
fetch_in_part = refl

-- a fetch of more messages than there are
pub fetch_past_the_end : allows (segment_of show.looked_at_start) (entry 1 2 (Fetch 5)) ≡ false
fetch_past_the_end = refl

-- a table of 30 columns sends 33 messages
abbrev pub waiting_33 : List Entry
waiting_33 = entry 2 0 Start ∷ entry 1 0 Start ∷ entry 1 1 (Look false) ∷ entry 1 1 (Write (xid 1) (wide_table 16384 (codes "w") 30)) ∷ entry 1 1 (Visible (xid 1)) ∷ entry 1 1 (Publish 32) ∷ entry 1 1 (Publish 1) ∷ entry 2 1 (Look true) ∷ []

-- a fetch of more than 32 messages
pub fetch_of_33 : allows (segment_of waiting_33) (entry 2 1 (Fetch 33)) ≡ false
fetch_of_33 = refl

-- a fetch that stops before 32 though more wait
pub fetch_of_31 : allows (segment_of waiting_33) (entry 2 1 (Fetch 31)) ≡ false
fetch_of_31 = refl

-- messages are sent before their transaction is visible
pub publish_before_visible : allows (segment_of show.written) (entry 1 1 (Publish 3)) ≡ false
publish_before_visible = refl

-- the part for descriptors is sent before that for the catalog caches
pub parts_in_other_order : allows (segment_of show.visible) (entry 1 1 (Publish 1)) ≡ false
parts_in_other_order = refl

-- one publish goes over from one part to the other
pub both_parts_in_one : allows (segment_of show.visible) (entry 1 1 (Publish 4)) ≡ false
both_parts_in_one = refl

-- a publish leaves a part of what it may send
pub publish_in_part : allows (segment_of show.visible) (entry 1 1 (Publish 2)) ≡ false
publish_in_part = refl

-- a message is sent twice
pub publish_again : allows (segment_of show.published) (entry 1 1 (Publish 1)) ≡ false
publish_again = refl

-- a publish of nothing
pub publish_of_nothing : allows (segment_of show.published) (entry 1 1 (Publish 0)) ≡ false
publish_of_nothing = refl

-- a table of 63 columns sends 65 messages for the catalog caches
abbrev pub unsent_65 : List Entry
unsent_65 = entry 1 0 Start ∷ entry 1 1 (Look false) ∷ entry 1 1 (Write (xid 1) (wide_table 16384 (codes "w") 63)) ∷ entry 1 1 (Visible (xid 1)) ∷ []

-- a publish of more than 64 messages
pub publish_of_65 : allows (segment_of unsent_65) (entry 1 1 (Publish 65)) ≡ false
publish_of_65 = refl

-- a publish that stops before 64 though more are left
pub publish_of_63 : allows (segment_of unsent_65) (entry 1 1 (Publish 63)) ≡ false
publish_of_63 = refl

-- locks are released before anything is sent
pub release_before_publish : allows (segment_of show.visible) (entry 1 1 (Release 1)) ≡ false
release_before_publish = refl

-- locks are released before the last publish
pub release_before_last_publish : allows (segment_of show.first_part_published) (entry 1 1 (Release 1)) ≡ false
release_before_last_publish = refl

-- a second table of the transaction is taken back
abbrev pub second_taken_back : List Entry
second_taken_back = creators.first_written ++ entry 1 3 (Write (xid 1) (new_table 16385 (codes "y") (codes "a"))) ∷ entry 1 3 (Gone 3) ∷ entry 1 3 (Release 3) ∷ entry 1 3 (Visible (xid 1)) ∷ []

-- its messages are sent too
pub rolled_back_messages_sent : allows (segment_of second_taken_back) (entry 1 3 (Publish 6)) ≡ false
rolled_back_messages_sent = refl

-- a trigger is added without a message for its table
pub message_left_out : allows (segment_of creators.first_written) (entry 1 3 (Write (xid 1) (Add (Trg (oid 16385) (oid 16384) (codes "g") true) ∷ []))) ≡ false
message_left_out = refl

-- a second table, and a foreign key from it to the first
abbrev pub foreign_key_added : List Entry
foreign_key_added = creators.first_written
    ++ entry 1 3 (Write (xid 1) (new_table 16385 (codes "y") (codes "b")))
    ∷ entry 1 4 (Write (xid 1) (Add (foreign_key true 1) ∷ Force (oid 16384) ∷ [])) ∷ []

-- a foreign key refers to another column, without a message for the table that it refers to
pub referred_table_passed_over : allows (segment_of foreign_key_added) (entry 1 5 (Write (xid 1) (Put (foreign_key true 2) ∷ []))) ≡ false
referred_table_passed_over = refl

-- a lock is given back that isn't held
pub unlocked_without_lock : allows (segment_of show.name_scanned) (entry 1 2 (Unlock (oid 16384) AccessShare)) ≡ false
unlocked_without_lock = refl

-- a lock is given back in another mode
pub unlocked_in_other_mode : allows (segment_of show.locked) (entry 1 2 (Unlock (oid 16384) AccessExclusive)) ≡ false
unlocked_in_other_mode = refl

-- a lock is given back twice
pub unlocked_twice : allows (segment_of (show.locked ++ entry 1 2 (Unlock (oid 16384) AccessShare) ∷ [])) (entry 1 2 (Unlock (oid 16384) AccessShare)) ≡ false
unlocked_twice = refl

-- a lock that an earlier command was granted is given back
pub earlier_lock_unlocked : allows (segment_of caches.column_scanned) (entry 2 5 (Unlock (oid 16384) AccessShare)) ≡ false
earlier_lock_unlocked = refl

-- a lock is given back under which the command has written
pub unlocked_after_write : allows (segment_of (weakly_locked ++ entry 2 2 (Write (xid 2) (column_put (codes "a") (pos 100))) ∷ [])) (entry 2 2 (Unlock (oid 16384) ShareUpdateExclusive)) ≡ false
unlocked_after_write = refl

-- no entry is a refusal of memory
pub memory_refused : allows (segment_of show.locked) (entry 1 2 Fail) ≡ false
memory_refused = refl

-- a command's number that falls
pub number_falls : allows (segment_of creators.first_written) (entry 1 1 (Look false)) ≡ false
number_falls = refl

-- a second start
pub started_twice : allows (segment_of creators.first_written) (entry 1 2 Start) ≡ false
started_twice = refl

-- a start with a command's number
pub started_late : allows (segment_of creators.first_written) (entry 2 1 Start) ≡ false
started_late = refl

-- an entry before the start
pub not_started : allows (segment_of creators.first_written) (entry 2 1 (Look false)) ≡ false
not_started = refl

-- an entry after the stop
pub after_stop : allows (segment_of creators.first_stopped) (entry 1 4 (Look false)) ≡ false
after_stop = refl

-- a lock on a relation whose oid hasn't been drawn
pub undrawn_oid_locked : IsOrderly show.name_scanned (entry 1 2 (LockOk (oid 16385) AccessShare)) → ⊥
undrawn_oid_locked h = search arith

-- a row is added whose key a version has
pub key_added_again : IsOrderly show.name_scanned (entry 1 2 (Write (xid 2) (new_column 16384 (codes "b") ∷ []))) → ⊥
key_added_again h = search arith

-- a row that a write names is given by a scan that no message covers
pub named_row_passed_over : IsOrderly creators.first_written (entry 1 3 (Write (xid 1) (Add (Trg (oid 16385) (oid 16384) (codes "g") true) ∷ []))) → ⊥
named_row_passed_over h = search arith

-- a scan for a descriptor that is usable
pub needless_scan : ScansOnlyIfNeeded show.trigger_scanned 1 (Scan (scans.Attribute (oid 16384)) 1) → ⊥
needless_scan h = search arith

-- a backend's own locks don't conflict
pub own_lock_no_conflict : allows (segment_of creators.first_written) (entry 1 3 (LockOk (oid 16384) AccessShare)) ≡ true
own_lock_no_conflict = refl

-- a lock that the running command was granted is given back
pub lock_given_back : allows (segment_of show.locked) (entry 1 2 (Unlock (oid 16384) AccessShare)) ≡ true
lock_given_back = refl

-- and granted again
pub lock_granted_again : allows (segment_of (show.locked ++ entry 1 2 (Unlock (oid 16384) AccessShare) ∷ [])) (entry 1 2 (LockOk (oid 16384) AccessShare)) ≡ true
lock_granted_again = refl

-- a statistics target is set under a weak mode
pub target_set_weakly : allows (segment_of weakly_locked) (entry 2 2 (Write (xid 2) (column_put (codes "a") (pos 100)))) ≡ true
target_set_weakly = refl

-- a fillfactor is set under a weak mode
pub fillfactor_set_weakly : allows (segment_of weakly_locked) (entry 2 2 (Write (xid 2) (Put (Class (oid 16384) (codes "x") Table (Some 70)) ∷ []))) ≡ true
fillfactor_set_weakly = refl

-- a column gets another name under AccessExclusive
pub renamed_exclusively : allows (segment_of (creators.second_fetched ++ entry 2 2 (LockOk (oid 16384) AccessExclusive) ∷ [])) (entry 2 2 (Write (xid 2) (column_put (codes "b") (negsuc 0)))) ≡ true
renamed_exclusively = refl

-- a name that was taken back is free
pub name_free_after_rollback : allows (segment_of oids.looked) (entry 1 4 (Write (xid 2) (new_table 16385 (codes "u") (codes "a")))) ≡ true
name_free_after_rollback = refl

-- a committed row is found
pub committed_row_found : allows (segment_of creators.second_fetched) (entry 2 2 (Scan (scans.RelName (codes "x")) 1)) ≡ true
committed_row_found = refl

-- a look may miss what was sent since the backend's last entry
pub look_misses_later_messages : allows (segment_of creators.first_stopped) (entry 2 2 (Look false)) ≡ true
look_misses_later_messages = refl

-- 32 messages are fetched though more wait
pub fetch_of_32 : allows (segment_of waiting_33) (entry 2 1 (Fetch 32)) ≡ true
fetch_of_32 = refl

-- 64 messages are sent though more are left
pub publish_of_64 : allows (segment_of unsent_65) (entry 1 1 (Publish 64)) ≡ true
publish_of_64 = refl

-- what is left of a transaction of which a part was taken back
pub rest_is_sent : allows (segment_of second_taken_back) (entry 1 3 (Publish 3)) ≡ true
rest_is_sent = refl

-- a trigger is added with a message for its table
pub message_forced : allows (segment_of creators.first_written) (entry 1 3 (Write (xid 1) (Add (Trg (oid 16385) (oid 16384) (codes "g") true) ∷ Force (oid 16384) ∷ []))) ≡ true
message_forced = refl

-- a foreign key is replaced by itself, which changes nothing for the table that it refers to
pub replaced_by_itself : allows (segment_of foreign_key_added) (entry 1 5 (Write (xid 1) (Put (foreign_key true 1) ∷ []))) ≡ true
replaced_by_itself = refl

-- whether a foreign key is known to hold counts for its own table alone
pub validity_of_foreign_key : allows (segment_of foreign_key_added) (entry 1 5 (Write (xid 1) (Put (foreign_key false 1) ∷ []))) ≡ true
validity_of_foreign_key = refl

-- an own message for the relation makes its scans needed again
pub scan_needed_again : ScansOnlyIfNeeded (show.trigger_scanned ++ entry 1 2 (Write (xid 2) (Force (oid 16384) ∷ [])) ∷ []) 1 (Scan (scans.Attribute (oid 16384)) 1)
scan_needed_again = search arith

-- a part of a transaction may be taken back
pub part_taken_back : allows (segment_of (creators.first_written ++ entry 1 3 (Write (xid 1) (new_table 16385 (codes "y") (codes "a"))) ∷ [])) (entry 1 3 (Gone 3)) ≡ true
part_taken_back = refl

-- a transaction that has written runs until its release
pub status_running : status_of oids.written 1 ≡ InProgress
status_running = search arith

-- a transaction that was rolled back is gone
pub status_gone : status_of oids.released 1 ≡ Aborted
status_gone = search arith

-- a transaction is committed from its visibility step on
pub status_committed : status_of creators.first_visible 1 ≡ Committed
status_committed = search arith
