-- A worked example: an index is renamed under ShareUpdateExclusive while another's block holds it locked. The scan of its old name serves the block on until the message is fetched; the index is seen with its kind, under another name. (The entries are those of a walk, without the scans of descriptors.)
use Rattle.std.proofs.Common.{◌≡◌, ◌++◌, false, true, None, List, [], ◌∷◌, codes, refl, arith}
use Rattle.base_types.specs.declared.index_state.IndexState.TheVariants.{Valid}
use Rattle.base_types.specs.declared.kind.Kind.TheVariants.{Index}
use Rattle.base_types.specs.declared.mode.Mode.TheVariants.{AccessShare, ShareUpdateExclusive, Share}
use Rattle.base_types.specs.declared.row.Row.TheVariants.{Class, Ind}
use Rattle.base_types.specs.declared.scan.Purpose.TheVariants as scans
use Rattle.event_kinds.specs.declared.entry.Entry.{Entry}
use Rattle.event_kinds.specs.declared.entry.Event.TheVariants.{Start, Look, Fetch, LockOk, Scan, Write, Visible, Publish, Release}
use Rattle.event_kinds.specs.declared.entry.Item.TheVariants.{Add, Put, Force}
use Rattle.history_model.specs.Versions.{answer_of}
use Rattle.history_model.specs.Sound.{IsSound}
use Rattle.history_model.specs.Read.{rows_read, is_usable}
use Rattle.history_model.proofs.Locked.{IsFirm}
use Rattle.cacheless.proofs.Plans.Given.{oid, xid, entry, new_table}

-- a table with an index, which the first backend's block looks up and locks
abbrev pub found : List Entry
found = entry 1 0 Start ∷ entry 1 1 (Look false) ∷ entry 1 1 (Write (xid 1) (new_table 16384 (codes "t") (codes "a"))) ∷ entry 1 1 (Visible (xid 1)) ∷ entry 1 1 (Publish 3) ∷ entry 1 1 (Publish 1) ∷ entry 1 1 (Release 1)
    ∷ entry 1 2 (Look true) ∷ entry 1 2 (Fetch 4) ∷ entry 1 2 (LockOk (oid 16384) Share) ∷ entry 1 2 (Look false)
    ∷ entry 1 2 (Write (xid 2) (Add (Class (oid 16385) (codes "i") Index None) ∷ Add (Ind (oid 16385) (oid 16384) Valid (1 ∷ [])) ∷ Force (oid 16384) ∷ [])) ∷ entry 1 2 (Visible (xid 2)) ∷ entry 1 2 (Publish 2) ∷ entry 1 2 (Publish 2) ∷ entry 1 2 (Release 2)
    ∷ entry 1 3 (Look true) ∷ entry 1 3 (Fetch 4) ∷ entry 1 4 (Look false) ∷ entry 1 4 (Scan (scans.RelName (codes "i")) 1) ∷ entry 1 4 (LockOk (oid 16385) AccessShare) ∷ entry 1 4 (Look false) ∷ []

-- the second renames it
abbrev pub renamed : List Entry
renamed = entry 2 0 Start ∷ entry 2 1 (Look false) ∷ entry 2 1 (Scan (scans.RelName (codes "i")) 1) ∷ entry 2 1 (LockOk (oid 16385) ShareUpdateExclusive) ∷ entry 2 1 (Look false)
    ∷ entry 2 1 (Write (xid 3) (Put (Class (oid 16385) (codes "j") Index None) ∷ [])) ∷ entry 2 1 (Visible (xid 3)) ∷ entry 2 1 (Publish 3) ∷ entry 2 1 (Publish 1) ∷ entry 2 1 (Release 1) ∷ []

sound : IsSound (found ++ renamed)
sound = search arith

-- the block may still rely on what it read of the old name
pub still_serves : is_usable (found ++ renamed) 1 (scans.RelName (codes "i")) ≡ true
still_serves = refl

pub was_read : rows_read (found ++ renamed) 1 (scans.RelName (codes "i")) ≡ Class (oid 16385) (codes "i") Index None ∷ []
was_read = refl

-- what it sees has the new one
pub is_seen : answer_of (found ++ renamed) 1 (scans.Class (oid 16385)) ≡ Class (oid 16385) (codes "j") Index None ∷ []
is_seen = refl

-- but for the name of an index that is what was read
pub is_firm : IsFirm (found ++ renamed) 1 (oid 16385) (codes "i") Index
is_firm = refl

-- until the message is fetched
pub then_ends : is_usable (found ++ (renamed ++ entry 1 5 (Look true) ∷ entry 1 5 (Fetch 4) ∷ [])) 1 (scans.RelName (codes "i")) ≡ false
then_ends = refl
