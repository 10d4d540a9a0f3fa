-- What alterations come to, by computation.
use Rattle.std.proofs.Common.{◌≡◌, ℤ, false, true, None, Some, List, [], ◌∷◌, codes, pos, negsuc, replicate, refl}
use Rattle.std.specs.Fmt.{digits}
use Rattle.base_types.specs.Scans.{scan_of}
use Rattle.base_types.specs.declared.change.Change.{Change}
use Rattle.base_types.specs.declared.change.Change.TheVariants.{Insert, Replace, Delete}
use Rattle.base_types.specs.declared.col_type.ColType.TheVariants.{Int4, Text}
use Rattle.base_types.specs.declared.command.Command.{Command}
use Rattle.base_types.specs.declared.command.Command.TheVariants.{AddColumn, DropColumn, RenameColumn, SetStatistics, SetFillfactor, RenameTable, DropTable}
use Rattle.base_types.specs.declared.kind.Kind.TheVariants.{Table, Index}
use Rattle.base_types.specs.declared.mode.Mode.TheVariants.{ShareUpdateExclusive, AccessExclusive}
use Rattle.base_types.specs.declared.row.Row.{Row}
use Rattle.base_types.specs.declared.row.Row.TheVariants.{Class, Att, Def}
use Rattle.base_types.specs.declared.row_key.RowKey.TheVariants as keys
use Rattle.base_types.specs.declared.scan.Purpose.{Purpose}
use Rattle.base_types.specs.declared.scan.Purpose.TheVariants as scans
use Rattle.command_answers.specs.declared.error.CommandError.TheVariants as errors
use Rattle.ddl_effect.specs.declared.told.Told.TheVariants as tells
use Rattle.ddl_effect.specs.declared.want.Want.TheVariants as wants
use Rattle.ddl_effect.specs.Plans.{Done, Fails}
use Rattle.ddl_effect.specs.Effects.{Effect, Refuses, Unknown, Writes, effect_of}
use Rattle.ddl_effect.specs.Commands.{plan_of, adding, changing, renaming_table, dropping_table}
use Rattle.ddl_effect.specs.Stages.{want_of}
use Rattle.ddl_effect.proofs.Examples.{oid}

-- a table with a column `a`, a column that was dropped, and a column `c` with a default
abbrev table_row : Row
table_row = Class (oid 16384) (codes "t") Table None

abbrev column_a : Row
column_a = Att (oid 16384) 1 (codes "a") Int4 (negsuc 0) true

abbrev column_b : Row
column_b = Att (oid 16384) 2 (codes "........pg.dropped.2........") Text (pos 7) false

abbrev column_c : Row
column_c = Att (oid 16384) 3 (codes "c") Text (pos 7) true

abbrev default_c : Row
default_c = Def (oid 16385) (oid 16384) 3 (codes "x")

abbrev seen : List Row
seen = column_c ∷ default_c ∷ Class (oid 16386) (codes "i") Index None ∷ column_b ∷ table_row ∷ column_a ∷ []

abbrev comes_to : Command → Effect
comes_to command = effect_of (λ scan. scan_of scan seen) (plan_of [] command)

abbrev changed : List Change → Effect
changed changes = Writes (record { changes = changes; forced = []; new_oids = 0 })

-- the modes
pub add_locks : want_of (plan_of [] (AddColumn (codes "t") (codes "d") Int4)) ≡ wants.Lookup (codes "t") AccessExclusive
add_locks = refl

pub drop_locks : want_of (plan_of [] (DropColumn (codes "t") (codes "a"))) ≡ wants.Lookup (codes "t") AccessExclusive
drop_locks = refl

pub rename_locks : want_of (plan_of [] (RenameColumn (codes "t") (codes "a") (codes "d"))) ≡ wants.Lookup (codes "t") AccessExclusive
rename_locks = refl

pub rename_table_locks : want_of (plan_of [] (RenameTable (codes "t") (codes "u"))) ≡ wants.Lookup (codes "t") AccessExclusive
rename_table_locks = refl

pub drop_table_locks : want_of (plan_of [] (DropTable (codes "t"))) ≡ wants.Lookup (codes "t") AccessExclusive
drop_table_locks = refl

pub statistics_lock : want_of (plan_of [] (SetStatistics (codes "t") (codes "a") (pos 1))) ≡ wants.Lookup (codes "t") ShareUpdateExclusive
statistics_lock = refl

pub fillfactor_locks : want_of (plan_of [] (SetFillfactor (codes "t") 70)) ≡ wants.Lookup (codes "t") ShareUpdateExclusive
fillfactor_locks = refl

-- the kind is tested before a number
pub not_table : comes_to (SetFillfactor (codes "i") 9) ≡ Refuses (errors.NotTable (codes "i"))
not_table = refl

pub no_relation : comes_to (SetFillfactor (codes "u") 9) ≡ Unknown (codes "u")
no_relation = refl

-- a new column has the number after all that the table has had
pub column_added : comes_to (AddColumn (codes "t") (codes "b") Int4) ≡ changed (Insert (Att (oid 16384) 4 (codes "b") Int4 (negsuc 0) true) ∷ [])
column_added = refl

pub column_exists : comes_to (AddColumn (codes "t") (codes "c") Int4) ≡ Refuses (errors.ColumnExists (codes "c"))
column_exists = refl

-- 1,599 columns may become 1,600, and no more
pub last_column : adding (oid 16384) (codes "b") Int4 (replicate 1599 column_a) ≡ changing (Insert (Att (oid 16384) 1600 (codes "b") Int4 (negsuc 0) true) ∷ [])
last_column = refl

pub too_many_columns : adding (oid 16384) (codes "b") Int4 (replicate 1600 column_a) ≡ Fails errors.TooManyColumns
too_many_columns = refl

-- a name that is there is found before the columns are counted
abbrev full : Purpose → List Row
full (scans.RelName name) = table_row ∷ []
full (scans.AttName rel name) = column_a ∷ []
full scan = replicate 1600 column_a

pub exists_first : effect_of full (plan_of [] (AddColumn (codes "t") (codes "a") Int4)) ≡ Refuses (errors.ColumnExists (codes "a"))
exists_first = refl

-- a dropped column keeps its type and its statistics target
pub column_dropped : comes_to (DropColumn (codes "t") (codes "a")) ≡ changed (Replace (Att (oid 16384) 1 (codes "........pg.dropped.1........") Int4 (negsuc 0) false) ∷ [])
unfolding digits
column_dropped = refl

-- its default goes first
pub default_dropped : comes_to (DropColumn (codes "t") (codes "c")) ≡ changed (Delete (keys.Def (oid 16385)) ∷ Replace (Att (oid 16384) 3 (codes "........pg.dropped.3........") Text (pos 7) false) ∷ [])
unfolding digits
default_dropped = refl

-- a dropped column isn't found by the name that it had
pub dropped_twice : comes_to (DropColumn (codes "t") (codes "b")) ≡ Refuses (errors.NoColumn (codes "b"))
dropped_twice = refl

pub column_renamed : comes_to (RenameColumn (codes "t") (codes "a") (codes "b")) ≡ changed (Replace (Att (oid 16384) 1 (codes "b") Int4 (negsuc 0) true) ∷ [])
column_renamed = refl

-- the old name is tested before the new one
pub rename_none : comes_to (RenameColumn (codes "t") (codes "b") (codes "c")) ≡ Refuses (errors.NoColumn (codes "b"))
rename_none = refl

pub rename_to_other : comes_to (RenameColumn (codes "t") (codes "a") (codes "c")) ≡ Refuses (errors.ColumnExists (codes "c"))
rename_to_other = refl

pub rename_to_itself : comes_to (RenameColumn (codes "t") (codes "a") (codes "a")) ≡ Refuses (errors.ColumnExists (codes "a"))
rename_to_itself = refl

-- a target is tested before the column
pub target_first : comes_to (SetStatistics (codes "t") (codes "b") (negsuc 1)) ≡ Refuses (errors.OutOfRange (negsuc 1))
target_first = refl

pub statistics_none : comes_to (SetStatistics (codes "t") (codes "b") (pos 1)) ≡ Refuses (errors.NoColumn (codes "b"))
statistics_none = refl

abbrev targeted_c : ℤ → Effect
targeted_c stat = changed (Replace (Att (oid 16384) 3 (codes "c") Text stat true) ∷ [])

pub least_target : comes_to (SetStatistics (codes "t") (codes "c") (negsuc 0)) ≡ targeted_c (negsuc 0)
least_target = refl

pub greatest_target : comes_to (SetStatistics (codes "t") (codes "c") (pos 10000)) ≡ targeted_c (pos 10000)
greatest_target = refl

-- a greater target is written as the greatest
pub target_cut : comes_to (SetStatistics (codes "t") (codes "c") (pos 10001)) ≡ targeted_c (pos 10000)
target_cut = refl

pub fill_too_low : comes_to (SetFillfactor (codes "t") 9) ≡ Refuses (errors.OutOfRange (pos 9))
fill_too_low = refl

pub fill_too_high : comes_to (SetFillfactor (codes "t") 101) ≡ Refuses (errors.OutOfRange (pos 101))
fill_too_high = refl

pub least_fill : comes_to (SetFillfactor (codes "t") 10) ≡ changed (Replace (Class (oid 16384) (codes "t") Table (Some 10)) ∷ [])
least_fill = refl

pub greatest_fill : comes_to (SetFillfactor (codes "t") 100) ≡ changed (Replace (Class (oid 16384) (codes "t") Table (Some 100)) ∷ [])
greatest_fill = refl

-- a table keeps its oid and its fillfactor under its new name
pub table_renamed : comes_to (RenameTable (codes "t") (codes "u")) ≡ changed (Replace (Class (oid 16384) (codes "u") Table None) ∷ [])
table_renamed = refl

pub filled_renamed : renaming_table (codes "u") (Class (oid 16384) (codes "t") Table (Some 70) ∷ []) ≡ changing (Replace (Class (oid 16384) (codes "u") Table (Some 70)) ∷ [])
filled_renamed = refl

-- whether the new name is another relation's, is found as the row is written
pub renamed_to_other : comes_to (RenameTable (codes "t") (codes "i")) ≡ changed (Replace (Class (oid 16384) (codes "i") Table None) ∷ [])
renamed_to_other = refl

pub renamed_to_itself : comes_to (RenameTable (codes "t") (codes "t")) ≡ changed (Replace table_row ∷ [])
renamed_to_itself = refl

-- a table whose row is gone is renamed without a write
pub renamed_without_row : renaming_table (codes "u") [] ≡ Done tells.Ok
renamed_without_row = refl

pub rename_index : comes_to (RenameTable (codes "i") (codes "u")) ≡ Refuses (errors.NotTable (codes "i"))
rename_index = refl

pub rename_unknown : comes_to (RenameTable (codes "u") (codes "v")) ≡ Unknown (codes "u")
rename_unknown = refl

-- the default goes first, then the rows of all columns in the order of their numbers, those of dropped columns too, and then the table's own
pub table_dropped : comes_to (DropTable (codes "t"))
    ≡ changed (Delete (keys.Def (oid 16385)) ∷ Delete (keys.Att (oid 16384) 1) ∷ Delete (keys.Att (oid 16384) 2) ∷ Delete (keys.Att (oid 16384) 3) ∷ Delete (keys.Class (oid 16384)) ∷ [])
table_dropped = refl

pub dropped_without_columns : dropping_table [] (oid 16384) [] [] [] [] [] ≡ changing (Delete (keys.Class (oid 16384)) ∷ [])
dropped_without_columns = refl

pub drop_index : comes_to (DropTable (codes "i")) ≡ Refuses (errors.NotTable (codes "i"))
drop_index = refl

pub drop_unknown : comes_to (DropTable (codes "u")) ≡ Unknown (codes "u")
drop_unknown = refl
