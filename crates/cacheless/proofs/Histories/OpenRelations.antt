-- Worked examples: a relation is open while another backend changes it. Its descriptor is rebuilt before the command's next act; a message that comes meanwhile has its scans made again; and what came in a failed block is made up for at `rollback to`. (The entries of the first backend are legal, and leave out its lookups.)
use Rattle.std.proofs.Common.{◌≡◌, ◌++◌, ℕ, true, false, Some, List, [], ◌∷◌, codes, refl}
use Rattle.base_types.specs.Scenario.{Scenario}
use Rattle.base_types.specs.declared.command.Command.TheVariants as commands
use Rattle.base_types.specs.declared.kind.Kind.TheVariants.{Table}
use Rattle.base_types.specs.declared.mode.Mode.TheVariants.{AccessShare, ShareUpdateExclusive, AccessExclusive}
use Rattle.base_types.specs.declared.row.Row.TheVariants.{Class}
use Rattle.base_types.specs.declared.scan.Purpose.TheVariants as scans
use Rattle.event_kinds.specs.declared.entry.Entry.{Entry}
use Rattle.event_kinds.specs.declared.entry.Event.TheVariants.{Start, Look, Fetch, LockOk, LockHeld, Scan, Write, Visible, Publish, Release}
use Rattle.event_kinds.specs.declared.entry.Item.{Item}
use Rattle.event_kinds.specs.declared.entry.Item.TheVariants.{Put}
use Rattle.history_model.specs.Legal.{IsLegal}
use Rattle.history_model.proofs.Allows.{legal_by}
use Rattle.cacheless.specs.Places.{ServesSince}
use Rattle.cacheless.specs.Nexts.{is_next}
use Rattle.cacheless.specs.Types.{Purpose}
use Rattle.cacheless.proofs.Answers.ServingScans.{serves}
use Rattle.cacheless.proofs.Plans.Given.{oid, xid, entry, placed, script, new_table}

-- a look and a scan after it
abbrev looked : ℕ → Purpose → ℕ → List Entry
looked c scan count = entry 2 c (Look false) ∷ entry 2 c (Scan scan count) ∷ []

-- two tables, of which the second backend's block opens one
abbrev pub opened : List Entry
opened = entry 1 0 Start ∷ entry 2 0 Start ∷ entry 1 1 (Look false) ∷ entry 1 1 (Write (xid 1) (new_table 16384 (codes "t") (codes "a"))) ∷ entry 1 2 (Write (xid 1) (new_table 16385 (codes "u") (codes "a"))) ∷ entry 1 2 (Visible (xid 1)) ∷ entry 1 2 (Publish 6) ∷ entry 1 2 (Publish 2) ∷ entry 1 2 (Release 1)
    ∷ entry 2 1 (Look true) ∷ entry 2 1 (Fetch 8) ∷ entry 2 2 (Look false) ∷ entry 2 2 (Scan (scans.RelName (codes "t")) 1) ∷ entry 2 2 (LockOk (oid 16384) AccessShare) ∷ entry 2 2 (Look false)
    ∷ looked 2 (scans.Class (oid 16384)) 1 ++ looked 2 (scans.Attribute (oid 16384)) 1 ++ looked 2 (scans.AttrDef (oid 16384)) 0 ++ looked 2 (scans.Constraint (oid 16384)) 0 ++ looked 2 (scans.Index (oid 16384)) 0 ++ looked 2 (scans.Trigger (oid 16384)) 0

-- the table's row with this fillfactor
abbrev filled : ℕ → List Item
filled fill = Put (Class (oid 16384) (codes "t") Table (Some fill)) ∷ []

abbrev pub name_of_other : Scenario
name_of_other = script 2 (placed 2 commands.Begin ∷ placed 2 (commands.OpenRel (codes "t")) ∷ placed 2 (commands.Regclass (oid 16385)) ∷ placed 2 commands.Commit ∷ []) []

-- the first sets its fillfactor in this command, and the second fetches the messages
abbrev pub filled_in : ℕ → ℕ → ℕ → List Entry
filled_in c x fill = entry 1 c (LockOk (oid 16384) ShareUpdateExclusive) ∷ entry 1 c (Write (xid x) (filled fill)) ∷ entry 1 c (Visible (xid x)) ∷ entry 1 c (Publish 2) ∷ entry 1 c (Publish 1) ∷ entry 1 c (Release c) ∷ entry 2 3 (Look true) ∷ entry 2 3 (Fetch 3) ∷ []

abbrev pub changed : List Entry
changed = opened ++ filled_in 3 2 70

-- what was read of the name, in entry 13, serves as the table is open
pub name_serves : ServesSince opened 2 (scans.RelName (codes "t")) 13
name_serves = serves opened 2 (scans.RelName (codes "t")) refl

-- no earlier entry is its place
pub other_place : ServesSince opened 2 (scans.RelName (codes "t")) 12 → ⊥
other_place at = let both : Some 13 ≡ Some 12 = at.last in cc both

-- and after the messages what was read of the table's row, in entry 17, serves no longer
pub row_serves_no_longer : ServesSince changed 2 (scans.Class (oid 16384)) 17 → ⊥
row_serves_no_longer at = let both : false ≡ true = at.usable in cc both

-- the rebuild begins with the relation's row
pub rebuild_begins : is_next name_of_other changed (entry 2 3 (Scan (scans.Class (oid 16384)) 1)) ≡ true
rebuild_begins = refl

-- not with its columns
pub rebuild_out_of_order : is_next name_of_other changed (entry 2 3 (Scan (scans.Attribute (oid 16384)) 1)) ≡ false
rebuild_out_of_order = refl

-- the scan on which the command's next act rests may come before it
pub act_scan_first : is_next name_of_other changed (entry 2 3 (Scan (scans.RelOid (oid 16385)) 1)) ≡ true
act_scan_first = refl

-- but the command isn't over then
pub over_without_rebuild : is_next name_of_other (changed ++ entry 2 3 (Scan (scans.RelOid (oid 16385)) 1) ∷ []) (entry 2 4 (Release 1)) ≡ false
over_without_rebuild = refl

-- the relation's row is read, and the table changes again
abbrev pub rebuilding : List Entry
rebuilding = changed ++ (entry 2 3 (Scan (scans.Class (oid 16384)) 1) ∷ filled_in 4 3 80)

pub rebuilding_legal : IsLegal rebuilding
rebuilding_legal = legal_by rebuilding refl

-- without the second change the columns would come next
pub columns_next : is_next name_of_other (changed ++ entry 2 3 (Scan (scans.Class (oid 16384)) 1) ∷ entry 2 3 (Look false) ∷ []) (entry 2 3 (Scan (scans.Attribute (oid 16384)) 1)) ≡ true
columns_next = refl

-- with it the row is read again
pub row_again : is_next name_of_other rebuilding (entry 2 3 (Scan (scans.Class (oid 16384)) 1)) ≡ true
row_again = refl

-- and the columns wait
pub old_row_kept : is_next name_of_other rebuilding (entry 2 3 (Scan (scans.Attribute (oid 16384)) 1)) ≡ false
old_row_kept = refl

abbrev pub back_to_savepoint : Scenario
back_to_savepoint = script 2 (placed 2 commands.Begin ∷ placed 2 (commands.OpenRel (codes "t")) ∷ placed 2 (commands.Savepoint (codes "s")) ∷ placed 2 (commands.LockTable (codes "u") AccessShare) ∷ placed 2 (commands.RollbackTo (codes "s")) ∷ placed 2 commands.Commit ∷ []) []

-- after a savepoint a lock is refused by the first backend, which has changed the table that is open; the refused one then fetches the messages
abbrev pub refused : List Entry
refused = opened ++ (looked 4 (scans.RelName (codes "u")) 1 ++ (entry 1 3 (LockOk (oid 16384) ShareUpdateExclusive) ∷ entry 1 3 (LockOk (oid 16385) AccessExclusive) ∷ entry 1 3 (Write (xid 2) (filled 70)) ∷ entry 1 3 (Visible (xid 2)) ∷ entry 1 3 (Publish 2) ∷ entry 1 3 (Publish 1)
    ∷ entry 2 4 (LockHeld (oid 16385) AccessShare 1 AccessExclusive) ∷ entry 2 4 (Look true) ∷ entry 2 4 (Fetch 3) ∷ []))

-- a command that has failed rebuilds nothing
pub failed_rebuilds : is_next back_to_savepoint refused (entry 2 4 (Scan (scans.Class (oid 16384)) 1)) ≡ false
failed_rebuilds = refl

-- nor does a block that has failed
abbrev pub block_failed : List Entry
block_failed = refused ++ entry 2 4 (Release 3) ∷ []

pub level_taken_back : is_next back_to_savepoint refused (entry 2 4 (Release 3)) ≡ true
level_taken_back = refl

pub failed_block_rebuilds : is_next back_to_savepoint (block_failed ++ entry 2 5 (Look false) ∷ []) (entry 2 5 (Scan (scans.Class (oid 16384)) 1)) ≡ false
failed_block_rebuilds = refl

-- `rollback to` mends the block
abbrev pub mended : List Entry
mended = block_failed ++ entry 2 5 (Release 3) ∷ []

pub mends : is_next back_to_savepoint block_failed (entry 2 5 (Release 3)) ≡ true
mends = refl

pub mended_legal : IsLegal (mended ++ entry 2 5 (Look false) ∷ entry 2 5 (Scan (scans.Class (oid 16384)) 1) ∷ [])
mended_legal = legal_by (mended ++ entry 2 5 (Look false) ∷ entry 2 5 (Scan (scans.Class (oid 16384)) 1) ∷ []) refl

-- and then the descriptor is rebuilt
pub rebuilt_after_mending : is_next back_to_savepoint (mended ++ entry 2 5 (Look false) ∷ []) (entry 2 5 (Scan (scans.Class (oid 16384)) 1)) ≡ true
rebuilt_after_mending = refl

-- before the next command
pub mended_without_rebuild : is_next back_to_savepoint mended (entry 2 6 (Release 1)) ≡ false
mended_without_rebuild = refl
