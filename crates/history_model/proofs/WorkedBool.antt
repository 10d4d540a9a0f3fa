-- by the rule
use Rattle.std.proofs.Common.{◌≡◌, ◌≤◌, ◌++◌, ℕ, Bool, true, false, None, Some, List, [], ◌∷◌, codes, refl, sym, arith, negsuc}
use Rattle.base_types.specs.declared.ids.Oid.{Oid}
use Rattle.base_types.specs.declared.ids.Xid.{Xid}
use Rattle.base_types.specs.declared.mode.Mode.TheVariants.{AccessShare}
use Rattle.base_types.specs.declared.scan.Purpose.TheVariants as scans
use Rattle.base_types.specs.declared.col_type.ColType.TheVariants.{Int4}
use Rattle.base_types.specs.declared.kind.Kind.TheVariants.{Table}
use Rattle.base_types.specs.declared.row.Row.TheVariants.{Class, Att}
use Rattle.event_kinds.specs.declared.entry.Entry.{Entry}
use Rattle.event_kinds.specs.declared.entry.Event.{Event}
use Rattle.event_kinds.specs.declared.entry.Item.{Item}
use Rattle.event_kinds.specs.declared.entry.Item.TheVariants.{Add}
use Rattle.event_kinds.specs.declared.entry.Event.TheVariants.{Start, Look, Fetch, LockOk, Scan, Write, Visible, Publish, Release, Stop}
use Rattle.history_model.specs.Legal.{IsLegal}
use Rattle.history_model.proofs.Allows.{legal_by}
use Rattle.std.specs.Prelude.{◌&&◌}

abbrev oid : ℕ → Oid
oid n = record { 0 = n }

abbrev xid : ℕ → Xid
xid n = record { 0 = n }

abbrev entry : ℕ → ℕ → Event → Entry
entry b c event = record { backend = b; command = c; event = event }

abbrev new_table : ℕ → List ℕ → List ℕ → List Item
new_table rel name column = Add (Class (oid rel) name Table None) ∷ Add (Att (oid rel) 1 column Int4 (negsuc 0) true) ∷ []

abbrev pub stopped : List Entry
stopped = entry 1 0 Start ∷ entry 1 1 (Look false) ∷ entry 1 1 (Write (xid 1) (new_table 16384 (codes "t") (codes "a"))) ∷ entry 1 1 (Visible (xid 1)) ∷ entry 1 1 (Publish 3) ∷ entry 1 1 (Publish 1) ∷ entry 1 1 (Release 1) ∷ entry 1 2 (Look true) ∷ entry 1 2 (Fetch 4) ∷ entry 1 2 (Look false) ∷ entry 1 2 (Scan (scans.RelName (codes "t")) 1) ∷ entry 1 2 (LockOk (oid 16384) AccessShare) ∷ entry 1 2 (Look false) ∷ entry 1 2 (Look false) ∷ entry 1 2 (Scan (scans.Class (oid 16384)) 1) ∷ entry 1 2 (Look false) ∷ entry 1 2 (Scan (scans.Attribute (oid 16384)) 1) ∷ entry 1 2 (Look false) ∷ entry 1 2 (Scan (scans.AttrDef (oid 16384)) 0) ∷ entry 1 2 (Look false) ∷ entry 1 2 (Scan (scans.Constraint (oid 16384)) 0) ∷ entry 1 2 (Look false) ∷ entry 1 2 (Scan (scans.Index (oid 16384)) 0) ∷ entry 1 2 (Look false) ∷ entry 1 2 (Scan (scans.Trigger (oid 16384)) 0) ∷ entry 1 2 (Release 2) ∷ entry 1 3 Stop ∷ []

pub legal : IsLegal stopped
legal = legal_by stopped refl
