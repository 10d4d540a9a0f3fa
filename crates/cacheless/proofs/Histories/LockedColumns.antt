-- A worked example: a backend holds ShareUpdateExclusive on a table while another makes a table of its own visible. By the laws it still sees the columns that it saw, and the table under its name.
use Rattle.std.proofs.Common.{◌≡◌, ◌++◌, false, true, List, [], ◌∷◌, codes, refl, arith}
use Rattle.base_types.specs.declared.mode.Mode.TheVariants.{ShareUpdateExclusive, AccessExclusive}
use Rattle.base_types.specs.declared.kind.Kind.TheVariants.{Table}
use Rattle.base_types.specs.declared.scan.Purpose.TheVariants as scans
use Rattle.event_kinds.specs.declared.entry.Entry.{Entry}
use Rattle.event_kinds.specs.declared.entry.Event.TheVariants.{Start, Look, Fetch, LockOk, Scan, Write, Visible, Publish, Release}
use Rattle.history_model.specs.Prefixes.{EachFrom}
use Rattle.history_model.specs.Versions.{answer_of}
use Rattle.history_model.specs.Held.{held_of}
use Rattle.history_model.specs.Sound.{IsSound}
use Rattle.history_model.specs.Read.{rows_read}
use Rattle.history_model.proofs.Locked.{changing_modes, changed_anyhow, IsIdle, IsSeenAs, stays_undisturbed, held_bars_all, held_bars_exclusive, locked_between, read_between, firm_table, firm_between}
use Rattle.cacheless.proofs.Plans.Given.{oid, xid, entry, new_table, wide_table}

-- the table is locked, and its columns are read
abbrev pub locked : List Entry
locked = entry 1 0 Start ∷ entry 2 0 Start ∷ entry 1 1 (Look false) ∷ entry 1 1 (Write (xid 1) (wide_table 16384 (codes "t") 2)) ∷ entry 1 1 (Visible (xid 1)) ∷ entry 1 1 (Publish 4) ∷ entry 1 1 (Publish 1) ∷ entry 1 1 (Release 1)
    ∷ entry 1 2 (LockOk (oid 16384) ShareUpdateExclusive) ∷ entry 1 2 (Scan (scans.Attribute (oid 16384)) 2) ∷ []

-- another backend makes a table
abbrev pub others : List Entry
others = entry 2 1 (Look true) ∷ entry 2 1 (Fetch 5) ∷ entry 2 1 (Write (xid 2) (new_table 16385 (codes "u") (codes "a"))) ∷ entry 2 1 (Visible (xid 2)) ∷ []

sound : IsSound (locked ++ others)
sound = search arith

idle : EachFrom (IsIdle 1) locked others
idle = ((λ own. tt), ((λ own. tt), ((λ own. absurd (cc)), ((λ own. tt), tt))))

-- the columns that the first backend sees stay
pub columns_stay : answer_of (locked ++ others) 1 (scans.Attribute (oid 16384)) ≡ answer_of locked 1 (scans.Attribute (oid 16384))
columns_stay = locked_between locked others 1 (oid 16384) (scans.Attribute (oid 16384)) sound (changed_anyhow (scans.Attribute (oid 16384)) (oid 16384) refl)
    (stays_undisturbed locked others 1 (oid 16384) changing_modes (held_bars_all (held_of locked) 1 (oid 16384) ShareUpdateExclusive changing_modes refl refl) idle)

-- they are what it read
pub columns_read : answer_of (locked ++ others) 1 (scans.Attribute (oid 16384)) ≡ rows_read (locked ++ others) 1 (scans.Attribute (oid 16384))
columns_read = read_between locked others 1 (oid 16384) (scans.Attribute (oid 16384)) changing_modes sound (changed_anyhow (scans.Attribute (oid 16384)) (oid 16384) refl)
    (stays_undisturbed locked others 1 (oid 16384) changing_modes (held_bars_all (held_of locked) 1 (oid 16384) ShareUpdateExclusive changing_modes refl refl) idle) refl

-- and the table is still seen
pub table_stays : IsSeenAs (locked ++ others) 1 (oid 16384) (codes "t") Table
table_stays = firm_table (locked ++ others) 1 (oid 16384) (codes "t")
    (firm_between locked others 1 (oid 16384) (codes "t") Table sound (stays_undisturbed locked others 1 (oid 16384) (AccessExclusive ∷ []) (held_bars_exclusive (held_of locked) 1 (oid 16384) ShareUpdateExclusive refl) idle) refl)
