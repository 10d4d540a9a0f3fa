-- The plans of commands on the columns of a table.
use Rattle.std.specs.Prelude.{ℕ, ℤ, Bool, true, false, not, List, [], ◌∷◌, ◌++◌, ◌+◌, ◌==◌, ◌&&◌, ◌||◌, nat_le, nat_lt, int_lt, length, pos, negsuc, if◌then◌else◌}
use Rattle.std.specs.Int.{int_min}
use Rattle.std.specs.List.{list_any, find}
use Rattle.base_types.specs.declared.dropped.TheConstants.{MOST_COLUMNS}
use Rattle.base_types.specs.Names.{dropped_name}
use Rattle.base_types.specs.Scans.{same_oid}
use Rattle.base_types.specs.declared.scan.Purpose.TheVariants as scans
use Rattle.base_types.specs.declared.row.ConKind.TheVariants as kinds
use Rattle.base_types.specs.declared.row.Row.TheVariants as rows
use Rattle.command_answers.specs.declared.error.CommandError.TheVariants as errors
use Rattle.ddl_effect.specs.Types.{Oid, ColType, Row, Insert, Replace}
use Rattle.ddl_effect.specs.Plans.{Plan}
use Rattle.ddl_effect.specs.Parts.{if_passes, first_new, with_column, without_column, reading, changing, forcing, column_number, deleting}

-- `add column`, by the rows of the table's columns: with those that were dropped they may become 1,600
abbrev pub adding : Oid → List ℕ → ColType → List Row → Plan
adding rel column col_type columns = if_passes (nat_lt (length columns) MOST_COLUMNS) errors.TooManyColumns (changing (Insert (rows.Att rel (length columns + 1) column col_type (negsuc 0) true) ∷ []))

-- `add column`, once the descriptor is open
abbrev pub add_column : List ℕ → ColType → Oid → Plan
add_column column col_type rel = without_column rel column (reading (scans.Attribute rel) (adding rel column col_type))

-- the name of a column once it is dropped; a number that no column has leaves the name
abbrev pub name_dropped : ℕ → List ℕ → List ℕ
name_dropped num own = if nat_le 1 num && nat_le num MOST_COLUMNS then dropped_name num else own

-- the row of a column once it is dropped
abbrev pub as_dropped : Row → Row
as_dropped (rows.Att rel num own col_type stat live) = rows.Att rel num (name_dropped num own) col_type stat false
as_dropped row = row

-- the row is the default of the column of this number
abbrev pub is_default_of : ℕ → Row → Bool
is_default_of num (rows.Def oid rel of word) = of == num
is_default_of num row = false

-- `drop column`, by the rows of the table's defaults: that of the column goes with it
abbrev pub dropping : Row → List Row → Plan
dropping row defaults = changing (deleting (find (is_default_of (column_number row)) defaults) ++ Replace (as_dropped row) ∷ [])

-- an index has the column of a relation with this number, or a foreign key has it, on whichever side
abbrev pub uses_column : Oid → ℕ → Row → Bool
uses_column rel num (rows.Ind index table state nums) = list_any (λ n. n == num) nums
uses_column rel num (rows.Con oid of own valid (kinds.Foreign own_num refrel refnum)) = (same_oid of rel && (own_num == num)) || (same_oid refrel rel && (refnum == num))
uses_column rel num row = false

-- goes on only where none of these rows uses the column
abbrev pub if_unused : List ℕ → Oid → Row → List Row → Plan → Plan
if_unused column rel row given plan = if_passes (not (list_any (uses_column rel (column_number row)) given)) (errors.ColumnUsed column) plan

-- `drop column`, by the rows of the table's indexes
abbrev pub drop_unindexed : List ℕ → Oid → Row → List Row → Plan
drop_unindexed column rel row indexes = if_unused column rel row indexes (reading (scans.AttrDef rel) (dropping row))

-- `drop column`, by the rows of the table's constraints and of those that refer to it
abbrev pub drop_unreferred : List ℕ → Oid → Row → List Row → Plan
drop_unreferred column rel row constraints = if_unused column rel row constraints (reading (scans.Index rel) (drop_unindexed column rel row))

-- `drop column`, by the row of the column
abbrev pub drop_found : List ℕ → Oid → Row → Plan
drop_found column rel row = reading (scans.Constraint rel) (drop_unreferred column rel row)

-- `drop column`, once the descriptor is open
abbrev pub drop_column : List ℕ → Oid → Plan
drop_column column rel = with_column rel column (drop_found column rel)

-- the row of a column with another name
abbrev pub with_name : List ℕ → Row → Row
with_name to (rows.Att rel num own col_type stat live) = rows.Att rel num to col_type stat live
with_name to row = row

-- `rename column`, by the row of the column
abbrev pub renaming : List ℕ → Oid → Row → Plan
renaming to rel row = without_column rel to (changing (Replace (with_name to row) ∷ []))

-- `rename column`, once the descriptor is open
abbrev pub rename_column : List ℕ → List ℕ → Oid → Plan
rename_column column to rel = with_column rel column (renaming to rel)

-- `set default`, by the rows of the table's defaults: that of the column goes
abbrev pub defaulting : List ℕ → Oid → Row → List Row → Plan
defaulting word rel row defaults = forcing (deleting (find (is_default_of (column_number row)) defaults) ++ Insert (rows.Def first_new rel (column_number row) word) ∷ []) (rel ∷ []) 1

-- `set default`, by the row of the column
abbrev pub default_found : List ℕ → Oid → Row → Plan
default_found word rel row = reading (scans.AttrDef rel) (defaulting word rel row)

-- `set default`, once the descriptor is open
abbrev pub set_default : List ℕ → List ℕ → Oid → Plan
set_default column word rel = with_column rel column (default_found word rel)

-- the greatest statistics target
abbrev pub most_stat : ℤ
most_stat = pos 10000

-- the row of a column with another statistics target
abbrev pub with_stat : ℤ → Row → Row
with_stat stat (rows.Att rel num own col_type old live) = rows.Att rel num own col_type stat live
with_stat stat row = row

-- `set statistics`, by the row of the column: a greater target than the greatest is written as that
abbrev pub targeting : ℤ → Row → Plan
targeting stat row = changing (Replace (with_stat (int_min stat most_stat) row) ∷ [])

-- `set statistics`, once the descriptor is open: -1 is the least target
abbrev pub set_statistics : List ℕ → ℤ → Oid → Plan
set_statistics column stat rel = if_passes (not (int_lt stat (negsuc 0))) (errors.OutOfRange stat) (with_column rel column (targeting stat))
