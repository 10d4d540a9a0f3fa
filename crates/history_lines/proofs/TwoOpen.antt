-- Worked examples: two relations are open while another backend changes both. Either descriptor may be rebuilt first, each in the order of its scans; a message that comes while the second is rebuilt has the first one rebuilt again, and not what the second has read.
use Rattle.std.proofs.Common.{◌≡◌, ◌++◌, ℕ, true, false, Some, List, [], ◌∷◌, codes, refl}
use Rattle.base_types.specs.Scenario.{Scenario}
use Rattle.base_types.specs.declared.command.Command.TheVariants as commands
use Rattle.base_types.specs.declared.kind.Kind.TheVariants.{Table}
use Rattle.base_types.specs.declared.mode.Mode.TheVariants.{AccessShare, ShareUpdateExclusive}
use Rattle.base_types.specs.declared.row.Row.TheVariants.{Class}
use Rattle.base_types.specs.declared.scan.Purpose.{Purpose}
use Rattle.base_types.specs.declared.scan.Purpose.TheVariants as scans
use Rattle.event_kinds.specs.declared.entry.Entry.{Entry}
use Rattle.event_kinds.specs.declared.entry.Event.TheVariants.{Look, Fetch, LockOk, Scan, Write, Visible, Publish, Release}
use Rattle.event_kinds.specs.declared.entry.Item.TheVariants.{Put}
use Rattle.history_model.specs.Legal.{IsLegal}
use Rattle.history_model.proofs.Allows.{legal_by}
use Rattle.cacheless.specs.Nexts.{is_next}
use Rattle.cacheless.proofs.Plans.Given.{oid, xid, entry, placed, script}
use Rattle.cacheless.proofs.Histories.OpenRelations.{opened}

-- a look and a scan after it
abbrev looked : ℕ → Purpose → ℕ → List Entry
looked c scan count = entry 2 c (Look false) ∷ entry 2 c (Scan scan count) ∷ []

-- the scans of a descriptor after its first
abbrev others : ℕ → ℕ → List Entry
others c rel = looked c (scans.Attribute (oid rel)) 1 ++ looked c (scans.AttrDef (oid rel)) 0 ++ looked c (scans.Constraint (oid rel)) 0 ++ looked c (scans.Index (oid rel)) 0 ++ looked c (scans.Trigger (oid rel)) 0

-- the block opens the other table too
abbrev both_open : List Entry
both_open = opened ++ looked 3 (scans.RelName (codes "u")) 1 ++ entry 2 3 (LockOk (oid 16385) AccessShare) ∷ entry 2 3 (Look false) ∷ looked 3 (scans.Class (oid 16385)) 1 ++ others 3 16385

abbrev then_name : Scenario
then_name = script 2 (placed 2 commands.Begin ∷ placed 2 (commands.OpenRel (codes "t")) ∷ placed 2 (commands.OpenRel (codes "u")) ∷ placed 2 (commands.Regclass (oid 16385)) ∷ placed 2 commands.Commit ∷ []) []

-- the first backend sets a table's fillfactor
abbrev fills : ℕ → ℕ → ℕ → List ℕ → ℕ → List Entry
fills c x rel name fill = entry 1 c (LockOk (oid rel) ShareUpdateExclusive) ∷ entry 1 c (Write (xid x) (Put (Class (oid rel) name Table (Some fill)) ∷ [])) ∷ entry 1 c (Visible (xid x)) ∷ entry 1 c (Publish 2) ∷ entry 1 c (Publish 1) ∷ entry 1 c (Release c) ∷ []

-- both change, and the second backend fetches the messages
abbrev both_changed : List Entry
both_changed = both_open ++ fills 3 2 16384 (codes "t") 70 ++ fills 4 3 16385 (codes "u") 70 ++ entry 2 4 (Look true) ∷ entry 2 4 (Fetch 6) ∷ []

pub both_legal : IsLegal both_changed
both_legal = legal_by both_changed refl

-- either descriptor's rebuild may come first
pub first_rebuilt : is_next then_name both_changed (entry 2 4 (Scan (scans.Class (oid 16384)) 1)) ≡ true
first_rebuilt = refl

pub second_rebuilt : is_next then_name both_changed (entry 2 4 (Scan (scans.Class (oid 16385)) 1)) ≡ true
second_rebuilt = refl

-- each in its order
pub first_columns_early : is_next then_name both_changed (entry 2 4 (Scan (scans.Attribute (oid 16384)) 1)) ≡ false
first_columns_early = refl

pub second_columns_early : is_next then_name both_changed (entry 2 4 (Scan (scans.Attribute (oid 16385)) 1)) ≡ false
second_columns_early = refl

-- the first one is rebuilt
abbrev first_whole : List Entry
first_whole = both_changed ++ entry 2 4 (Scan (scans.Class (oid 16384)) 1) ∷ others 4 16384

-- its row isn't read again, and the command isn't over before the second is rebuilt
pub first_row_again : is_next then_name (first_whole ++ entry 2 4 (Look false) ∷ []) (entry 2 4 (Scan (scans.Class (oid 16384)) 1)) ≡ false
first_row_again = refl

pub over_before_second : is_next then_name (first_whole ++ looked 4 (scans.RelOid (oid 16385)) 1) (entry 2 5 (Release 1)) ≡ false
over_before_second = refl

-- the second one's row is read, and the first table changes again
abbrev nested : List Entry
nested = first_whole ++ looked 4 (scans.Class (oid 16385)) 1 ++ fills 5 4 16384 (codes "t") 80 ++ entry 2 4 (Look true) ∷ entry 2 4 (Fetch 3) ∷ []

pub nested_legal : IsLegal nested
nested_legal = legal_by nested refl

-- the first one is rebuilt again
pub first_again : is_next then_name nested (entry 2 4 (Scan (scans.Class (oid 16384)) 1)) ≡ true
first_again = refl

-- the second one goes on where it was
pub second_goes_on : is_next then_name nested (entry 2 4 (Scan (scans.Attribute (oid 16385)) 1)) ≡ true
second_goes_on = refl

pub second_begins_again : is_next then_name nested (entry 2 4 (Scan (scans.Class (oid 16385)) 1)) ≡ false
second_begins_again = refl

-- and the command isn't over with the second one alone
pub over_before_first : is_next then_name (nested ++ entry 2 4 (Scan (scans.Attribute (oid 16385)) 1) ∷ looked 4 (scans.AttrDef (oid 16385)) 0 ++ looked 4 (scans.Constraint (oid 16385)) 0 ++ looked 4 (scans.Index (oid 16385)) 0 ++ looked 4 (scans.Trigger (oid 16385)) 0 ++ looked 4 (scans.RelOid (oid 16385)) 1) (entry 2 5 (Release 1)) ≡ false
over_before_first = refl
