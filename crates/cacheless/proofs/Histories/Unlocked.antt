-- Worked examples: while a lookup waits for its lock the relation gets another name. What the lookup has newly locked it unlocks; then it locks what has the name now, or finds none, or finds what the session holds already. (The entries of the first backend are legal, and leave out its lookups.)
use Rattle.std.proofs.Common.{◌≡◌, ◌++◌, true, false, None, List, [], ◌∷◌, codes, refl}
use Rattle.base_types.specs.Scenario.{Scenario}
use Rattle.base_types.specs.declared.command.Command.TheVariants as commands
use Rattle.base_types.specs.declared.index_state.IndexState.TheVariants.{Valid}
use Rattle.base_types.specs.declared.kind.Kind.TheVariants.{Table, Index}
use Rattle.base_types.specs.declared.mode.Mode.TheVariants.{AccessShare, ShareUpdateExclusive, AccessExclusive}
use Rattle.base_types.specs.declared.row.Row.TheVariants.{Class, Ind}
use Rattle.base_types.specs.declared.scan.Purpose.TheVariants as scans
use Rattle.event_kinds.specs.declared.entry.Entry.{Entry}
use Rattle.event_kinds.specs.declared.entry.Event.TheVariants.{Start, Look, Fetch, LockOk, Unlock, Scan, Write, Visible, Publish, Release}
use Rattle.event_kinds.specs.declared.entry.Item.TheVariants.{Add, Put, Force}
use Rattle.history_model.specs.Legal.{IsLegal}
use Rattle.history_model.proofs.Allows.{legal_by}
use Rattle.cacheless.specs.Nexts.{is_next}
use Rattle.cacheless.proofs.Plans.Given.{oid, xid, entry, placed, script, new_table}

abbrev pub one_lock : Scenario
one_lock = script 2 (placed 2 commands.Begin ∷ placed 2 (commands.LockTable (codes "t") AccessShare) ∷ placed 2 commands.Commit ∷ []) []

-- two tables, of which the second backend's block has looked one up
abbrev pub sought : List Entry
sought = entry 1 0 Start ∷ entry 2 0 Start ∷ entry 1 1 (Look false) ∷ entry 1 1 (Write (xid 1) (new_table 16384 (codes "t") (codes "a"))) ∷ entry 1 2 (Write (xid 1) (new_table 16385 (codes "u") (codes "a"))) ∷ entry 1 2 (Visible (xid 1)) ∷ entry 1 2 (Publish 6) ∷ entry 1 2 (Publish 2) ∷ entry 1 2 (Release 1)
    ∷ entry 2 1 (Look true) ∷ entry 2 1 (Fetch 8) ∷ entry 2 2 (Look false) ∷ entry 2 2 (Scan (scans.RelName (codes "t")) 1) ∷ []

-- the first renames it, and gives its name to the other one
abbrev pub swapped : List Entry
swapped = entry 1 3 (LockOk (oid 16384) AccessExclusive) ∷ entry 1 3 (LockOk (oid 16385) AccessExclusive) ∷ entry 1 3 (Write (xid 2) (Put (Class (oid 16384) (codes "x") Table None) ∷ [])) ∷ entry 1 4 (Write (xid 2) (Put (Class (oid 16385) (codes "t") Table None) ∷ []))
    ∷ entry 1 4 (Visible (xid 2)) ∷ entry 1 4 (Publish 6) ∷ entry 1 4 (Publish 2) ∷ entry 1 4 (Release 3) ∷ []

-- the lookup is granted its lock, and the name is scanned again
abbrev pub other_found : List Entry
other_found = sought ++ (swapped ++ entry 2 2 (LockOk (oid 16384) AccessShare) ∷ entry 2 2 (Look true) ∷ entry 2 2 (Fetch 8) ∷ entry 2 2 (Look false) ∷ entry 2 2 (Scan (scans.RelName (codes "t")) 1) ∷ [])

abbrev pub other_unlocked : List Entry
other_unlocked = other_found ++ entry 2 2 (Unlock (oid 16384) AccessShare) ∷ []

pub other_legal : IsLegal (other_unlocked ++ entry 2 2 (LockOk (oid 16385) AccessShare) ∷ [])
other_legal = legal_by (other_unlocked ++ entry 2 2 (LockOk (oid 16385) AccessShare) ∷ []) refl

-- it gives the lock back
pub other_unlocks : is_next one_lock other_found (entry 2 2 (Unlock (oid 16384) AccessShare)) ≡ true
other_unlocks = refl

-- and then asks for that on what has the name
pub other_locks : is_next one_lock other_unlocked (entry 2 2 (LockOk (oid 16385) AccessShare)) ≡ true
other_locks = refl

-- not before
pub other_locked_first : is_next one_lock other_found (entry 2 2 (LockOk (oid 16385) AccessShare)) ≡ false
other_locked_first = refl

-- nor is it done without that lock
pub other_left_unlocked : is_next one_lock other_unlocked (entry 2 3 (Release 1)) ≡ false
other_left_unlocked = refl

-- what has the name isn't unlocked
pub found_unlocked : is_next one_lock other_found (entry 2 2 (Unlock (oid 16385) AccessShare)) ≡ false
found_unlocked = refl

-- the first only renames it: no relation has the name
abbrev pub none_found : List Entry
none_found = sought ++ (entry 1 3 (LockOk (oid 16384) AccessExclusive) ∷ entry 1 3 (Write (xid 2) (Put (Class (oid 16384) (codes "x") Table None) ∷ [])) ∷ entry 1 3 (Visible (xid 2)) ∷ entry 1 3 (Publish 3) ∷ entry 1 3 (Publish 1) ∷ entry 1 3 (Release 3)
    ∷ entry 2 2 (LockOk (oid 16384) AccessShare) ∷ entry 2 2 (Look true) ∷ entry 2 2 (Fetch 4) ∷ entry 2 2 (Look false) ∷ entry 2 2 (Scan (scans.RelName (codes "t")) 0) ∷ [])

abbrev pub none_unlocked : List Entry
none_unlocked = none_found ++ entry 2 2 (Unlock (oid 16384) AccessShare) ∷ []

pub none_legal : IsLegal (none_unlocked ++ entry 2 2 (Look false) ∷ entry 2 2 (Release 1) ∷ [])
none_legal = legal_by (none_unlocked ++ entry 2 2 (Look false) ∷ entry 2 2 (Release 1) ∷ []) refl

pub none_unlocks : is_next one_lock none_found (entry 2 2 (Unlock (oid 16384) AccessShare)) ≡ true
none_unlocks = refl

-- after a look that says no, the command fails, and its block with it
pub none_fails : is_next one_lock (none_unlocked ++ entry 2 2 (Look false) ∷ []) (entry 2 2 (Release 1)) ≡ true
none_fails = refl

-- not before the look
pub none_without_look : is_next one_lock none_unlocked (entry 2 2 (Release 1)) ≡ false
none_without_look = refl

-- and not with the lock held
pub none_still_locked : is_next one_lock (none_found ++ entry 2 2 (Look false) ∷ []) (entry 2 2 (Release 1)) ≡ false
none_still_locked = refl

abbrev pub two_shows : Scenario
two_shows = script 2 (placed 2 commands.Begin ∷ placed 2 (commands.Show (codes "i") None) ∷ placed 2 (commands.Show (codes "t") None) ∷ placed 2 commands.Commit ∷ []) []

-- a table and its index; the second backend's block has shown the index, and looked the table up
abbrev pub shown : List Entry
shown = entry 1 0 Start ∷ entry 2 0 Start ∷ entry 1 1 (Look false) ∷ entry 1 1 (Write (xid 1) (new_table 16384 (codes "t") (codes "a")))
    ∷ entry 1 2 (Write (xid 1) (Add (Class (oid 16385) (codes "i") Index None) ∷ Add (Ind (oid 16385) (oid 16384) Valid (1 ∷ [])) ∷ Force (oid 16384) ∷ [])) ∷ entry 1 2 (Visible (xid 1)) ∷ entry 1 2 (Publish 5) ∷ entry 1 2 (Publish 3) ∷ entry 1 2 (Release 1)
    ∷ entry 2 1 (Look true) ∷ entry 2 1 (Fetch 8) ∷ entry 2 2 (Look false) ∷ entry 2 2 (Scan (scans.RelName (codes "i")) 1) ∷ entry 2 2 (LockOk (oid 16385) AccessShare) ∷ entry 2 2 (Look false) ∷ entry 2 2 (Look false) ∷ entry 2 2 (Scan (scans.Class (oid 16385)) 1)
    ∷ entry 2 2 (Look false) ∷ entry 2 2 (Scan (scans.IndexRow (oid 16385)) 1) ∷ entry 2 3 (Look false) ∷ entry 2 3 (Scan (scans.RelName (codes "t")) 1) ∷ []

-- the first renames the table, and gives its name to the index, which the second holds
abbrev pub held_found : List Entry
held_found = shown ++ (entry 1 3 (LockOk (oid 16384) AccessExclusive) ∷ entry 1 3 (LockOk (oid 16385) ShareUpdateExclusive) ∷ entry 1 3 (Write (xid 2) (Put (Class (oid 16384) (codes "x") Table None) ∷ [])) ∷ entry 1 4 (Write (xid 2) (Put (Class (oid 16385) (codes "t") Index None) ∷ []))
    ∷ entry 1 4 (Visible (xid 2)) ∷ entry 1 4 (Publish 6) ∷ entry 1 4 (Publish 2) ∷ entry 1 4 (Release 3)
    ∷ entry 2 3 (LockOk (oid 16384) AccessShare) ∷ entry 2 3 (Look true) ∷ entry 2 3 (Fetch 8) ∷ entry 2 3 (Look false) ∷ entry 2 3 (Scan (scans.RelName (codes "t")) 1) ∷ [])

abbrev pub held_unlocked : List Entry
held_unlocked = held_found ++ entry 2 3 (Unlock (oid 16384) AccessShare) ∷ []

pub held_legal : IsLegal (held_unlocked ++ entry 2 3 (Look false) ∷ entry 2 3 (Scan (scans.Class (oid 16385)) 1) ∷ [])
held_legal = legal_by (held_unlocked ++ entry 2 3 (Look false) ∷ entry 2 3 (Scan (scans.Class (oid 16385)) 1) ∷ []) refl

pub held_unlocks : is_next two_shows held_found (entry 2 3 (Unlock (oid 16384) AccessShare)) ≡ true
held_unlocks = refl

-- it needs no further lock, and goes on with the descriptor
pub held_goes_on : is_next two_shows (held_unlocked ++ entry 2 3 (Look false) ∷ []) (entry 2 3 (Scan (scans.Class (oid 16385)) 1)) ≡ true
held_goes_on = refl

-- the descriptor isn't built while the other lock is held
pub held_without_unlock : is_next two_shows (held_found ++ entry 2 3 (Look false) ∷ []) (entry 2 3 (Scan (scans.Class (oid 16385)) 1)) ≡ false
held_without_unlock = refl

-- what was locked before isn't unlocked
pub held_given_back : is_next two_shows held_found (entry 2 3 (Unlock (oid 16385) AccessShare)) ≡ false
held_given_back = refl
