use Rattle.std.proofs.Common.{◌≡◌, take}
use Rattle.ddl_effect.proofs.Tables.{changes_for}
use Rattle.ddl_effect.proofs.table.new_table.Given as goal

abbrev pub invariant-loop-i : goal.invariant-loop-i
invariant-loop-i l = l.changes ≡ changes_for l.fn.name (take l.i l.columns)
