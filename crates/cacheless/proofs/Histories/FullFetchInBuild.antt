-- A worked example: a fetch of 32 messages in the midst of a build asks for a look that counts for the next scan of the descriptor.
use Rattle.std.proofs.Common.{◌≤◌, ◌++◌, true, false, None, List, [], ◌∷◌, codes, refl, arith}
use Rattle.base_types.specs.Scenario.{Scenario}
use Rattle.base_types.specs.declared.mode.Mode.TheVariants.{AccessShare}
use Rattle.base_types.specs.declared.scan.Purpose.TheVariants as scans
use Rattle.base_types.specs.declared.command.Command.TheVariants as commands
use Rattle.event_kinds.specs.declared.entry.Entry.{Entry}
use Rattle.event_kinds.specs.declared.entry.Event.TheVariants.{Start, Look, Fetch, LockOk, Scan, Write, Visible, Publish, Release, Stop}
use Rattle.cacheless.proofs.Deciding.{plays_by}
use Rattle.cacheless.specs.Plays.{Plays}
use Rattle.cacheless.proofs.Plans.Given.{oid, xid, entry, placed, turns, script, creating, new_table, wide_columns, wide_table}

at_least_2 : 1 ≤ 2
at_least_2 = omega arith

at_most_2 : 2 ≤ 2
at_most_2 = omega arith

abbrev pub full_fetch_in_build : Scenario
full_fetch_in_build = script 2 (placed 1 (creating (codes "t") (codes "a")) ∷ placed 1 (commands.CreateTable (codes "w") (wide_columns 29)) ∷ placed 2 (commands.Show (codes "t") None) ∷ []) ((turns 1 7 ∷ turns 2 8 ∷ turns 1 6 ∷ turns 2 100 ∷ turns 1 10 ∷ []) ∷ [])

abbrev pub created : List Entry
created = entry 1 0 Start ∷ entry 1 1 (Look false) ∷ entry 1 1 (Write (xid 1) (new_table 16384 (codes "t") (codes "a"))) ∷ entry 1 1 (Visible (xid 1)) ∷ entry 1 1 (Publish 3) ∷ entry 1 1 (Publish 1) ∷ entry 1 1 (Release 1) ∷ []

abbrev pub found : List Entry
found = created ++ entry 2 0 Start ∷ entry 2 1 (Look false) ∷ entry 2 1 (Look false) ∷ entry 2 1 (Scan (scans.RelName (codes "t")) 1) ∷ entry 2 1 (LockOk (oid 16384) AccessShare) ∷ []

abbrev pub begun : List Entry
begun = found ++ entry 2 1 (Look false) ∷ entry 2 1 (Look false) ∷ entry 2 1 (Scan (scans.Class (oid 16384)) 1) ∷ []

abbrev pub widened : List Entry
widened = begun ++ entry 1 2 (Look true) ∷ entry 1 2 (Fetch 4) ∷ entry 1 2 (Write (xid 2) (wide_table 16385 (codes "w") 29)) ∷ entry 1 2 (Visible (xid 2)) ∷ entry 1 2 (Publish 31) ∷ entry 1 2 (Publish 1) ∷ []

abbrev pub fetched : List Entry
fetched = widened ++ entry 2 1 (Look true) ∷ entry 2 1 (Fetch 32) ∷ entry 2 1 (Look false) ∷ entry 2 1 (Scan (scans.Attribute (oid 16384)) 1) ∷ []

abbrev pub built : List Entry
built = fetched ++ entry 2 1 (Scan (scans.AttrDef (oid 16384)) 0) ∷ entry 2 1 (Look false) ∷ entry 2 1 (Scan (scans.Constraint (oid 16384)) 0) ∷ entry 2 1 (Look false) ∷ entry 2 1 (Scan (scans.Index (oid 16384)) 0) ∷ entry 2 1 (Look false) ∷ entry 2 1 (Scan (scans.Trigger (oid 16384)) 0) ∷ []

abbrev pub ended : List Entry
ended = built ++ entry 2 1 (Release 1) ∷ entry 2 2 Stop ∷ entry 1 2 (Release 2) ∷ entry 1 3 Stop ∷ []

pub full_fetch_in_build_plays : Plays full_fetch_in_build ended
full_fetch_in_build_plays = plays_by full_fetch_in_build [] ended refl
