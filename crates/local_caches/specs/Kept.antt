-- What is kept of each scan, and what a call makes of it.
use Rattle.std.specs.Prelude.{ℕ, Bool, true, false, Option, Some, None, List, [], if◌then◌else◌, is_some}
use Rattle.std.specs.Option.{option_map_or}
use Rattle.base_types.specs.Scans.{same_scan}
use Rattle.base_types.specs.declared.row.Row.{Row}
use Rattle.base_types.specs.declared.scan.Purpose.{Purpose}
use Rattle.base_types.specs.declared.scan.Purpose.TheVariants as scans
use Rattle.inval_messages.specs.Messages.{is_spared}
use Rattle.inval_messages.specs.declared.message.Message.{Message}

-- what a scan gave, and the number of its entry in the history
pub record Read : Type 0 where
  pub rows : List Row
  pub at : ℕ

-- what is kept: for each scan nothing, or what it gave
abbrev pub Kept : Type 0
Kept = Purpose → Option Read

-- nothing is kept
abbrev pub nothing_kept : Kept
nothing_kept = λ scan. None

-- what is kept, with what a scan gave
abbrev pub kept_with : Purpose → List Row → ℕ → Kept → Kept
kept_with made given at kept = λ scan. if same_scan made scan then Some (record { rows = given; at = at }) else kept scan

-- what is kept once messages are executed: what none of them covers
abbrev pub kept_spared : List Message → Kept → Kept
kept_spared messages kept = λ scan. if is_spared scan messages then kept scan else None

-- something is kept of the scan
abbrev pub is_kept : Kept → Purpose → Bool
is_kept kept scan = is_some (kept scan)

-- the rows that are kept of a scan
abbrev pub rows_kept : Kept → Purpose → List Row
rows_kept kept scan = option_map_or (λ read. read.rows) (kept scan) []

-- the place of a scan that is kept
abbrev pub place_kept : Kept → Purpose → ℕ
place_kept kept scan = option_map_or (λ read. read.at) (kept scan) 0

-- the scan asks for the row of a key
abbrev pub is_keyed : Purpose → Bool
is_keyed (scans.RelName name) = true
is_keyed (scans.RelOid rel) = true
is_keyed (scans.AttName rel name) = true
is_keyed scan = false
