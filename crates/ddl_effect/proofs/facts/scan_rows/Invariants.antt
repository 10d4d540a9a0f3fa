use Rattle.std.proofs.Common.{◌≡◌, take}
use Rattle.base_types.specs.Scans.{scan_of}
use Rattle.ddl_effect.proofs.facts.scan_rows.Given as goal

abbrev pub invariant-loop-row : goal.invariant-loop-row
invariant-loop-row l = l.given.items ≡ scan_of l.scan (take l.row-index l.rows)
