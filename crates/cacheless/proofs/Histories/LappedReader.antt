-- A backend that sleeps is lapped and reset, as in tests/runs/lapped_between_two_lookups.output.
use Rattle.std.proofs.Common.{◌++◌, true, false, List, [], ◌∷◌, codes}
use Rattle.base_types.specs.declared.scan.Purpose.TheVariants as scans
use Rattle.event_kinds.specs.declared.entry.Entry.{Entry}
use Rattle.event_kinds.specs.declared.entry.Event.TheVariants.{Start, Look, FetchReset, Scan, Write, Visible, Publish, Release, Stop}
use Rattle.cacheless.proofs.Plans.Given.{xid, entry, wide_table}

abbrev pub reader_started : List Entry
reader_started = entry 2 0 Start ∷ []

abbrev pub first_shown : List Entry
first_shown = reader_started ++ entry 2 1 (Look false) ∷ entry 2 1 (Look false) ∷ entry 2 1 (Scan (scans.RelName (codes "u")) 0) ∷ entry 2 1 (Look false) ∷ entry 2 1 (Release 1) ∷ []

abbrev pub reader_looked : List Entry
reader_looked = first_shown ++ entry 2 2 (Look false) ∷ []

abbrev pub writer_started : List Entry
writer_started = reader_looked ++ entry 1 0 Start ∷ []

abbrev pub written : List Entry
written = writer_started ++ entry 1 1 (Look false) ∷ entry 1 1 (Write (xid 1) (wide_table 16384 (codes "w") 67)) ∷ []

abbrev pub visible : List Entry
visible = written ++ entry 1 1 (Visible (xid 1)) ∷ []

abbrev pub published : List Entry
published = visible ++ entry 1 1 (Publish 64) ∷ entry 1 1 (Publish 5) ∷ entry 1 1 (Publish 1) ∷ []

abbrev pub released : List Entry
released = published ++ entry 1 1 (Release 1) ∷ []

abbrev pub looked : List Entry
looked = released ++ entry 2 2 (Look true) ∷ []

abbrev pub reset : List Entry
reset = looked ++ entry 2 2 FetchReset ∷ []

abbrev pub looked_before_name : List Entry
looked_before_name = reset ++ entry 2 2 (Look false) ∷ []

abbrev pub name_scanned : List Entry
name_scanned = looked_before_name ++ entry 2 2 (Scan (scans.RelName (codes "u")) 0) ∷ []

abbrev pub accepted : List Entry
accepted = name_scanned ++ entry 2 2 (Look false) ∷ []

abbrev pub ended : List Entry
ended = accepted ++ entry 2 2 (Release 2) ∷ []

abbrev pub reader_stopped : List Entry
reader_stopped = ended ++ entry 2 3 Stop ∷ []

abbrev pub stopped : List Entry
stopped = reader_stopped ++ entry 1 2 Stop ∷ []
