-- Two backends hold locks, and a third is about to be refused, as in tests/runs/first_of_two_holders.output.
use Rattle.std.proofs.Common.{◌++◌, true, false, List, [], ◌∷◌, codes}
use Rattle.base_types.specs.declared.mode.Mode.TheVariants.{AccessShare, Share}
use Rattle.base_types.specs.declared.scan.Purpose.TheVariants as scans
use Rattle.event_kinds.specs.declared.entry.Entry.{Entry}
use Rattle.event_kinds.specs.declared.entry.Event.TheVariants.{Start, Look, Fetch, LockOk, Scan, Write, Visible, Publish, Release}
use Rattle.cacheless.proofs.Plans.Given.{oid, xid, entry, new_table}

abbrev pub created : List Entry
created = entry 1 0 Start ∷ entry 1 1 (Look false) ∷ entry 1 1 (Write (xid 1) (new_table 16384 (codes "t") (codes "a"))) ∷ entry 1 1 (Visible (xid 1)) ∷ entry 1 1 (Publish 3) ∷ entry 1 1 (Publish 1) ∷ entry 1 1 (Release 1) ∷ []

abbrev pub first_begun : List Entry
first_begun = created ++ entry 1 2 (Look true) ∷ entry 1 2 (Fetch 4) ∷ []

abbrev pub first_scanned : List Entry
first_scanned = first_begun ++ entry 1 3 (Look false) ∷ entry 1 3 (Scan (scans.RelName (codes "t")) 1) ∷ []

abbrev pub first_locked : List Entry
first_locked = first_scanned ++ entry 1 3 (LockOk (oid 16384) Share) ∷ entry 1 3 (Look false) ∷ []

abbrev pub second_begun : List Entry
second_begun = first_locked ++ entry 2 0 Start ∷ entry 2 1 (Look false) ∷ []

abbrev pub second_scanned : List Entry
second_scanned = second_begun ++ entry 2 2 (Look false) ∷ entry 2 2 (Scan (scans.RelName (codes "t")) 1) ∷ []

abbrev pub second_locked : List Entry
second_locked = second_scanned ++ entry 2 2 (LockOk (oid 16384) AccessShare) ∷ entry 2 2 (Look false) ∷ []

abbrev pub third_begun : List Entry
third_begun = second_locked ++ entry 3 0 Start ∷ entry 3 1 (Look false) ∷ []

abbrev pub third_scanned : List Entry
third_scanned = third_begun ++ entry 3 2 (Look false) ∷ entry 3 2 (Scan (scans.RelName (codes "t")) 1) ∷ []
