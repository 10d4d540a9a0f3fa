use Rattle.std.proofs.Common.{◌≡◌, filter_map, take}
use Rattle.ddl_effect.specs.Commands.{live_column}
use Rattle.ddl_effect.proofs.reads.live_columns.Given as goal

abbrev pub invariant-loop-row : goal.invariant-loop-row
invariant-loop-row l = l.columns ≡ filter_map live_column (take l.row-index l.rows)
