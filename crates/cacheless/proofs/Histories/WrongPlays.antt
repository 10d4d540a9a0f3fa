-- What no command does, and at the end what it may do, by the test that decides it (`next_decides`): a worked example up to a place, and one entry there.
use Rattle.std.proofs.Common.{List, ◌≡◌, ◌++◌, true, false, None, Some, [], ◌∷◌, slice_get, codes, refl, arith}
use Rattle.base_types.specs.declared.mode.Mode.TheVariants.{AccessShare, Share}
use Rattle.base_types.specs.declared.kind.Kind.TheVariants.{Table}
use Rattle.base_types.specs.declared.row.Row.TheVariants.{Class}
use Rattle.base_types.specs.declared.scan.Purpose.TheVariants as scans
use Rattle.base_types.specs.declared.field.Field.TheVariants as fields
use Rattle.event_kinds.specs.declared.entry.Event.TheVariants.{Start, Look, Fetch, LockOk, Unlock, Scan, Write, ClashRow, ClashRunning, Visible, Publish, Release, Gone, Stop}
use Rattle.event_kinds.specs.declared.entry.Entry.{Entry}
use Rattle.event_kinds.specs.declared.entry.Item.TheVariants.{Put}
use Rattle.cacheless.specs.Nexts.{is_next}
use Rattle.cacheless.specs.Protected.{is_protected}
use Rattle.cacheless.specs.Schedule.{turns_left, LooksTruly, IsComplete}
use Rattle.cacheless.proofs.Plans.Given.{oid, xid, entry, new_class, new_column, new_table}
use Rattle.cacheless.proofs.Histories.TwoCreators as creators
use Rattle.cacheless.proofs.Histories.NewOids as oids
use Rattle.cacheless.proofs.Histories.CreateThenShow as show
use Rattle.cacheless.proofs.Histories.AnothersTable as another
use Rattle.cacheless.proofs.Histories.FullFetch as full
use Rattle.cacheless.proofs.Histories.FailedBlock as failed
use Rattle.cacheless.proofs.Histories.RefusedLock as refused

-- a transaction without its look at the start
pub write_without_look : is_next oids.oids_are_not_drawn_again oids.released (entry 1 4 (Write (xid 2) (new_table 16385 (codes "w") (codes "a")))) ≡ false
write_without_look = refl

-- a clash without the look at the transaction's start
pub clash_without_look : is_next creators.clash_of_two_creators creators.second_started (entry 2 1 (ClashRunning (codes "x") (xid 1))) ≡ false
clash_without_look = refl

-- a scan without a look before it
pub scan_without_look : is_next show.create_then_show show.fetched (entry 1 2 (Scan (scans.RelName (codes "t")) 1)) ≡ false
scan_without_look = refl

-- a scan between a look that said yes and its fetch
pub scan_before_fetch : is_next show.create_then_show show.looked_at_start (entry 1 2 (Scan (scans.RelName (codes "t")) 1)) ≡ false
scan_before_fetch = refl

-- a look between a look that said yes and its fetch
pub look_before_fetch : is_next show.create_then_show show.looked_at_start (entry 1 2 (Look true)) ≡ false
look_before_fetch = refl

-- an act between a look that said yes and its fetch
pub clash_before_fetch : is_next creators.clash_of_two_creators creators.second_looked_again (entry 2 2 (ClashRow (codes "x") (oid 16384))) ≡ false
clash_before_fetch = refl

-- a scan right after a fetch of 32 messages
pub no_look_after_full_fetch : is_next full.fetch_of_exactly_32 full.fetched (entry 2 1 (Scan (scans.RelName (codes "u")) 0)) ≡ false
no_look_after_full_fetch = refl

-- the look after a fetch of 32 messages taken for the one before the scan
pub scan_without_look_after_full_fetch : is_next full.fetch_of_exactly_32 full.looked_again (entry 2 1 (Scan (scans.RelName (codes "u")) 0)) ≡ false
scan_without_look_after_full_fetch = refl

-- a scan for a descriptor without a look before it
pub build_without_look : is_next show.create_then_show show.looked_after_lock (entry 1 2 (Scan (scans.Class (oid 16384)) 1)) ≡ false
build_without_look = refl

-- a scan right after a lock was granted
pub no_look_after_lock : is_next show.create_then_show show.locked (entry 1 2 (Scan (scans.Class (oid 16384)) 1)) ≡ false
no_look_after_lock = refl

-- more looks than the bound of a command
pub too_many_looks : is_next oids.oids_are_not_drawn_again (oids.looked ++ entry 1 4 (Look false) ∷ entry 1 4 (Look false) ∷ []) (entry 1 4 (Look false)) ≡ false
too_many_looks = refl

-- a look after the last command where no transaction runs
pub look_after_last_command : is_next oids.oids_are_not_drawn_again oids.ended (entry 1 5 (Look false)) ≡ false
look_after_last_command = refl

-- a command in a block commits
pub commit_inside_block : is_next creators.clash_of_two_creators creators.first_written (entry 1 2 (Visible (xid 1))) ≡ false
commit_inside_block = refl

-- locks are released before the last publish
pub release_before_last_publish : is_next show.create_then_show show.first_part_published (entry 1 1 (Release 1)) ≡ false
release_before_last_publish = refl

-- the part for descriptors is sent first
pub parts_in_other_order : is_next show.create_then_show show.visible (entry 1 1 (Publish 1)) ≡ false
parts_in_other_order = refl

-- a publish after the last one
pub publish_again : is_next show.create_then_show show.published (entry 1 1 (Publish 1)) ≡ false
publish_again = refl

-- a commit takes the block's writes back
pub commit_takes_back : is_next creators.clash_of_two_creators creators.first_written (entry 1 3 (Gone 1)) ≡ false
commit_takes_back = refl

-- a rollback makes the block's writes visible
pub rollback_commits : is_next oids.oids_are_not_drawn_again oids.written (entry 1 3 (Visible (xid 1))) ≡ false
rollback_commits = refl

-- a rollback leaves the block's writes
pub rollback_without_gone : is_next oids.oids_are_not_drawn_again oids.written (entry 1 3 (Release 1)) ≡ false
rollback_without_gone = refl

-- a commit leaves its visibility step out
pub commit_without_visible : is_next creators.clash_of_two_creators creators.first_written (entry 1 3 (Release 1)) ≡ false
commit_without_visible = refl

-- a rollback takes back its own command alone
pub rollback_of_its_own_command : is_next oids.oids_are_not_drawn_again oids.written (entry 1 3 (Gone 3)) ≡ false
rollback_of_its_own_command = refl

-- an error in a block takes back its own command alone
pub error_takes_back_its_own_command : is_next failed.failed_block failed.accepted (entry 1 3 (Release 3)) ≡ false
error_takes_back_its_own_command = refl

-- a block goes on after an error
pub block_goes_on_after_error : is_next failed.failed_block failed.released (entry 1 4 (Look false)) ≡ false
block_goes_on_after_error = refl

-- a command goes on after its lock was refused
pub command_goes_on_after_error : is_next refused.refused_lock (refused.refused ++ entry 2 1 (Look false) ∷ []) (entry 2 1 (Scan (scans.Class (oid 16384)) 1)) ≡ false
command_goes_on_after_error = refl

-- a failed block is committed
pub commit_after_error : is_next failed.failed_block failed.released (entry 1 5 (Release 1)) ≡ false
commit_after_error = refl

-- a stop before the end of a failed command
pub stop_in_failed_command : is_next failed.failed_block failed.accepted (entry 1 6 Stop) ≡ false
stop_in_failed_command = refl

-- a begun block's command is finished
pub begin_again : is_next oids.oids_are_not_drawn_again oids.begun (entry 1 1 (Release 1)) ≡ false
begin_again = refl

-- a clash of a name that the command doesn't write
pub clash_of_other_name : is_next creators.clash_of_two_creators creators.second_looked (entry 2 1 (ClashRunning (codes "y") (xid 1))) ≡ false
clash_of_other_name = refl

-- a clash of a command that doesn't write
pub clash_in_show : is_next show.create_then_show show.looked_before_name (entry 1 2 (ClashRow (codes "t") (oid 16384))) ≡ false
clash_in_show = refl

-- a write after a clash
pub write_after_clash : is_next creators.clash_of_two_creators creators.second_clashed (entry 2 1 (Write (xid 2) (new_table 16385 (codes "x") (codes "b")))) ≡ false
write_after_clash = refl

-- a visibility step after a clash
pub visible_after_clash : is_next creators.clash_of_two_creators creators.second_clashed (entry 2 1 (Visible (xid 2))) ≡ false
visible_after_clash = refl

-- a new table without its column's row
pub column_left_out : is_next show.create_then_show show.looked (entry 1 1 (Write (xid 1) (new_class 16384 (codes "t") ∷ []))) ≡ false
column_left_out = refl

-- a column's row before the relation's
pub rows_in_other_order : is_next show.create_then_show show.looked (entry 1 1 (Write (xid 1) (new_column 16384 (codes "a") ∷ new_class 16384 (codes "t") ∷ []))) ≡ false
rows_in_other_order = refl

-- a new row written as a replaced one
pub row_replaced_for_added : is_next show.create_then_show show.looked (entry 1 1 (Write (xid 1) (Put (Class (oid 16384) (codes "t") Table None) ∷ new_column 16384 (codes "a") ∷ []))) ≡ false
row_replaced_for_added = refl

-- `create table` scans for the name
pub create_looks_up : is_next show.create_then_show show.looked (entry 1 1 (Scan (scans.RelName (codes "t")) 0)) ≡ false
create_looks_up = refl

-- a scan for another name
pub other_name : is_next show.create_then_show show.looked_before_name (entry 1 2 (Scan (scans.RelName (codes "u")) 0)) ≡ false
other_name = refl

-- the name scanned twice in a lookup
pub name_twice : is_next show.create_then_show (show.name_scanned ++ entry 1 2 (Look false) ∷ []) (entry 1 2 (Scan (scans.RelName (codes "t")) 1)) ≡ false
name_twice = refl

-- a lock in another mode
pub other_mode : is_next show.create_then_show show.name_scanned (entry 1 2 (LockOk (oid 16384) Share)) ≡ false
other_mode = refl

-- a lock on another relation
pub other_relation : is_next show.create_then_show show.name_scanned (entry 1 2 (LockOk (oid 16385) AccessShare)) ≡ false
other_relation = refl

-- a name that wasn't there, and the table of that name fetched before the lookup has ended
abbrev pub name_appeared : List Entry
name_appeared = another.started
    ++ entry 2 1 (Look false) ∷ entry 2 1 (Scan (scans.RelName (codes "t")) 0) ∷ entry 1 0 Start ∷ entry 1 1 (Look false) ∷ entry 1 1 (Write (xid 1) (new_table 16384 (codes "t") (codes "a")))
    ∷ entry 1 1 (Visible (xid 1)) ∷ entry 1 1 (Publish 3) ∷ entry 1 1 (Publish 1) ∷ entry 1 1 (Release 1) ∷ entry 2 1 (Look true) ∷ entry 2 1 (Fetch 4) ∷ []

-- the lookup ends by the scan made before
pub absent_after_its_message : is_next another.show_of_anothers_table (name_appeared ++ entry 2 1 (Look false) ∷ []) (entry 2 1 (Release 1)) ≡ false
absent_after_its_message = refl

-- a name that isn't there
abbrev pub name_absent : List Entry
name_absent = another.started ++ entry 2 1 (Look false) ∷ entry 2 1 (Scan (scans.RelName (codes "t")) 0) ∷ []

-- an absent name is answered without an accept
pub absent_without_accept : is_next another.show_of_anothers_table name_absent (entry 2 1 (Release 1)) ≡ false
absent_without_accept = refl

-- a table of another name, whose messages are waiting
abbrev pub other_table_made : List Entry
other_table_made = name_absent
    ++ entry 1 0 Start ∷ entry 1 1 (Look false) ∷ entry 1 1 (Write (xid 1) (new_table 16384 (codes "u") (codes "a")))
    ∷ entry 1 1 (Visible (xid 1)) ∷ entry 1 1 (Publish 3) ∷ entry 1 1 (Publish 1) ∷ entry 1 1 (Release 1) ∷ entry 2 1 (Look true) ∷ []

-- an absent name is answered before they are fetched
pub absent_before_fetch : is_next another.show_of_anothers_table other_table_made (entry 2 1 (Release 1)) ≡ false
absent_before_fetch = refl

-- they are fetched
abbrev pub other_table_fetched : List Entry
other_table_fetched = other_table_made ++ entry 2 1 (Fetch 4) ∷ []

-- an absent name is answered after an accept that brought messages
pub absent_after_fetch : is_next another.show_of_anothers_table other_table_fetched (entry 2 1 (Release 1)) ≡ false
absent_after_fetch = refl

-- an accept that brought nothing, and the table of that name fetched after it
abbrev pub appeared_after_accept : List Entry
appeared_after_accept = name_absent
    ++ entry 2 1 (Look false) ∷ entry 1 0 Start ∷ entry 1 1 (Look false) ∷ entry 1 1 (Write (xid 1) (new_table 16384 (codes "t") (codes "a")))
    ∷ entry 1 1 (Visible (xid 1)) ∷ entry 1 1 (Publish 3) ∷ entry 1 1 (Publish 1) ∷ entry 1 1 (Release 1) ∷ entry 2 1 (Look true) ∷ entry 2 1 (Fetch 4) ∷ []

-- the lookup stays ended by the accept before
pub absent_by_earlier_accept : is_next another.show_of_anothers_table (appeared_after_accept ++ entry 2 1 (Look false) ∷ []) (entry 2 1 (Release 1)) ≡ false
absent_by_earlier_accept = refl

-- the table renamed, and that fetched between the scan of its name and the lock
abbrev pub name_went_away : List Entry
name_went_away = another.name_scanned
    ++ entry 1 2 (Write (xid 2) (Put (Class (oid 16384) (codes "u") Table None) ∷ [])) ∷ entry 1 2 (Visible (xid 2)) ∷ entry 1 2 (Publish 3) ∷ entry 1 2 (Publish 1) ∷ entry 1 2 (Release 2) ∷ entry 2 1 (Look true) ∷ entry 2 1 (Fetch 4) ∷ []

-- the lock is taken by the scan made before
pub lock_after_its_message : is_next another.show_of_anothers_table name_went_away (entry 2 1 (LockOk (oid 16384) AccessShare)) ≡ false
lock_after_its_message = refl

-- the relation that a lookup found is unlocked
pub found_relation_unlocked : is_next show.create_then_show show.looked_after_lock (entry 1 2 (Unlock (oid 16384) AccessShare)) ≡ false
found_relation_unlocked = refl

-- the table renamed between the scan of its name and the lock, and the name scanned again
abbrev pub locked_under_old_name : List Entry
locked_under_old_name = another.name_scanned
    ++ entry 1 2 (Write (xid 2) (Put (Class (oid 16384) (codes "u") Table None) ∷ [])) ∷ entry 1 2 (Visible (xid 2)) ∷ entry 1 2 (Publish 3) ∷ entry 1 2 (Publish 1) ∷ entry 1 2 (Release 2)
    ∷ entry 2 1 (LockOk (oid 16384) AccessShare) ∷ entry 2 1 (Look true) ∷ entry 2 1 (Fetch 4) ∷ entry 2 1 (Look false) ∷ entry 2 1 (Scan (scans.RelName (codes "t")) 0) ∷ []

-- an absent name is answered while the lock is held that its lookup took
pub absent_while_locked : is_next another.show_of_anothers_table (locked_under_old_name ++ entry 2 1 (Look false) ∷ []) (entry 2 1 (Release 1)) ≡ false
absent_while_locked = refl

-- a scan for the descriptor before the lock
pub build_before_lock : is_next show.create_then_show (show.name_scanned ++ entry 1 2 (Look false) ∷ []) (entry 1 2 (Scan (scans.Class (oid 16384)) 1)) ≡ false
build_before_lock = refl

-- the columns scanned before the relation's row
pub build_in_other_order : is_next show.create_then_show (show.looked_after_lock ++ entry 1 2 (Look false) ∷ []) (entry 1 2 (Scan (scans.Attribute (oid 16384)) 1)) ≡ false
build_in_other_order = refl

-- a scan of the descriptor that was made already
pub build_scan_twice : is_next show.create_then_show (show.class_scanned ++ entry 1 2 (Look false) ∷ []) (entry 1 2 (Scan (scans.Class (oid 16384)) 1)) ≡ false
build_scan_twice = refl

-- a scan that only indexes need
pub index_scan_of_table : is_next show.create_then_show (show.class_scanned ++ entry 1 2 (Look false) ∷ []) (entry 1 2 (Scan (scans.IndexRow (oid 16384)) 0)) ≡ false
index_scan_of_table = refl

-- the end before all scans of the descriptor
pub end_without_build : is_next show.create_then_show show.index_scanned (entry 1 2 (Release 2)) ≡ false
end_without_build = refl

-- the end though a relation was found
pub end_without_lock : is_next show.create_then_show show.name_scanned (entry 1 2 (Release 2)) ≡ false
end_without_lock = refl

-- the end releases locks of earlier commands too
pub wrong_release : is_next show.create_then_show show.trigger_scanned (entry 1 2 (Release 1)) ≡ false
wrong_release = refl

-- the next command's number too early
pub wrong_number : is_next show.create_then_show show.trigger_scanned (entry 1 3 (Release 3)) ≡ false
wrong_number = refl

-- a finished command's number
pub finished_number : is_next show.create_then_show show.released (entry 1 1 (Look false)) ≡ false
finished_number = refl

-- a stop before all commands are finished
pub stop_before_commands : is_next show.create_then_show show.released (entry 1 2 Stop) ≡ false
stop_before_commands = refl

-- a backend that the script lacks
pub no_such_backend : is_next creators.clash_of_two_creators creators.second_looked (entry 3 0 Start) ≡ false
no_such_backend = refl

-- a lock protects nothing before its look
pub protected_before_look : is_protected show.create_then_show show.locked 1 (oid 16384) Table fields.Columns ≡ false
protected_before_look = refl

-- a lock protects nothing before what waited is fetched
pub protected_before_fetch : is_protected another.show_of_anothers_table (another.locked ++ entry 2 1 (Look true) ∷ []) 2 (oid 16384) Table fields.Columns ≡ false
protected_before_fetch = refl

-- a lock that doesn't conflict with each writer protects nothing
pub protected_by_weak_lock : is_protected show.create_then_show show.looked_after_lock 1 (oid 16384) Table fields.Statistics ≡ false
protected_by_weak_lock = refl

-- a step of another backend
pub not_its_turn : (slice_get (turns_left creators.clash_of_two_creators creators.first_written) 0 ≡ Some 1) → ⊥
not_its_turn h = search arith

-- a look of a walk misses what was sent before it
pub look_misses_messages : LooksTruly creators.first_stopped 2 (Look false) → ⊥
look_misses_messages h = search arith

-- a history that ends before its schedule
pub turns_remain : IsComplete creators.clash_of_two_creators creators.second_released_again → ⊥
turns_remain h = search arith

-- without a schedule, a backend that hasn't stopped
pub not_stopped : IsComplete show.create_then_show show.shown → ⊥
not_stopped h = search arith

-- a lock protects once its look is made
pub protected_after_look : is_protected show.create_then_show show.looked_after_lock 1 (oid 16384) Table fields.Columns ≡ true
protected_after_look = refl

-- and once what waited is fetched
pub protected_after_fetch : is_protected another.show_of_anothers_table (another.locked ++ entry 2 1 (Look true) ∷ entry 2 1 (Fetch 1) ∷ []) 2 (oid 16384) Table fields.Columns ≡ true
protected_after_fetch = refl

-- a name that a message brought up again is scanned again
pub name_scanned_again : is_next another.show_of_anothers_table name_appeared (entry 2 1 (Scan (scans.RelName (codes "t")) 1)) ≡ true
name_scanned_again = refl

-- messages of another name leave what the lookup found
pub absent_after_other_messages : is_next another.show_of_anothers_table (other_table_fetched ++ entry 2 1 (Look false) ∷ []) (entry 2 1 (Release 1)) ≡ true
absent_after_other_messages = refl

-- a lookup that had ended goes on after a fetch
pub lookup_goes_on : is_next another.show_of_anothers_table appeared_after_accept (entry 2 1 (Scan (scans.RelName (codes "t")) 1)) ≡ true
lookup_goes_on = refl

-- also before the relation is locked
pub name_scanned_again_before_lock : is_next another.show_of_anothers_table name_went_away (entry 2 1 (Scan (scans.RelName (codes "t")) 0)) ≡ true
name_scanned_again_before_lock = refl

-- a lookup unlocks a relation that has the name no longer
pub unlocked_without_name : is_next another.show_of_anothers_table locked_under_old_name (entry 2 1 (Unlock (oid 16384) AccessShare)) ≡ true
unlocked_without_name = refl

-- the absent name is answered after that
pub absent_after_unlock : is_next another.show_of_anothers_table (locked_under_old_name ++ entry 2 1 (Unlock (oid 16384) AccessShare) ∷ entry 2 1 (Look false) ∷ []) (entry 2 1 (Release 1)) ≡ true
absent_after_unlock = refl

-- a new table is protected for its writer at once
pub protected_by_own_table : is_protected creators.clash_of_two_creators creators.first_written 1 (oid 16384) Table fields.Statistics ≡ true
protected_by_own_table = refl

-- a look more than is needed
pub look_more_than_needed : is_next show.create_then_show show.looked_before_name (entry 1 2 (Look false)) ≡ true
look_more_than_needed = refl
