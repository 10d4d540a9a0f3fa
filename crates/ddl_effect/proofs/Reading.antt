-- What commands that only read come to, by computation.
use Rattle.std.proofs.Common.{◌≡◌, true, false, None, List, [], ◌∷◌, ℤ, codes, pos, negsuc, refl}
use Rattle.base_types.specs.Scans.{scan_of}
use Rattle.base_types.specs.declared.col_type.ColType.TheVariants.{Int4, Text}
use Rattle.base_types.specs.declared.kind.Kind.TheVariants.{Table, Index}
use Rattle.base_types.specs.declared.mode.Mode.TheVariants.{AccessShare}
use Rattle.base_types.specs.declared.row.Row.{Row}
use Rattle.base_types.specs.declared.row.Row.TheVariants.{Class, Att}
use Rattle.base_types.specs.declared.scan.Purpose.TheVariants as scans
use Rattle.command_answers.specs.declared.error.CommandError.TheVariants as errors
use Rattle.ddl_effect.specs.declared.told.Told.TheVariants as tells
use Rattle.ddl_effect.specs.declared.want.Want.TheVariants as wants
use Rattle.ddl_effect.specs.Plans.{Plan, after_act, left_rests_on}
use Rattle.ddl_effect.specs.Effects.{Effect, Nothing, Refuses, Unknown, effect_of}
use Rattle.ddl_effect.specs.Commands.{columns_of, column_of, regclass_of, telling_columns, telling_column}
use Rattle.ddl_effect.specs.Stages.{want_of}
use Rattle.ddl_effect.proofs.Examples.{oid}

-- a table whose columns were made as `c`, `b` and `a`, of which `b` was dropped, a table without columns, and an index
abbrev column_c : ℤ → Row
column_c stat = Att (oid 16384) 1 (codes "c") Text stat true

abbrev column_b : Row
column_b = Att (oid 16384) 2 (codes "........pg.dropped.2........") Text (pos 7) false

abbrev column_a : Row
column_a = Att (oid 16384) 3 (codes "a") Int4 (negsuc 0) true

abbrev seen : List Row
seen = column_c (pos 7) ∷ Class (oid 16386) (codes "i") Index None ∷ Class (oid 16385) (codes "e") Table None ∷ column_b ∷ Class (oid 16384) (codes "t") Table None ∷ column_a ∷ []

abbrev comes_to : Plan → Effect
comes_to plan = effect_of (λ scan. scan_of scan seen) plan

-- the live columns are told by name
pub columns_told : comes_to (columns_of (codes "t")) ≡ Nothing (tells.Columns (record { name = codes "a"; col_type = Int4 } ∷ record { name = codes "c"; col_type = Text } ∷ []))
columns_told = refl

pub no_columns : comes_to (columns_of (codes "e")) ≡ Nothing (tells.Columns [])
no_columns = refl

pub columns_of_index : comes_to (columns_of (codes "i")) ≡ Refuses (errors.NotTable (codes "i"))
columns_of_index = refl

pub columns_of_none : comes_to (columns_of (codes "u")) ≡ Unknown (codes "u")
columns_of_none = refl

pub columns_lock : want_of (columns_of (codes "t")) ≡ wants.Lookup (codes "t") AccessShare
columns_lock = refl

-- a column is told with its number
pub column_told : comes_to (column_of (codes "t") (codes "a")) ≡ Nothing (tells.Column 3 Int4)
column_told = refl

-- the kind is tested before the column
pub column_of_index : comes_to (column_of (codes "i") (codes "a")) ≡ Refuses (errors.NotTable (codes "i"))
column_of_index = refl

-- a column that was dropped isn't found by the name that it had
pub column_of_none : comes_to (column_of (codes "t") (codes "b")) ≡ Refuses (errors.NoColumn (codes "b"))
column_of_none = refl

pub column_lock : want_of (column_of (codes "t") (codes "a")) ≡ wants.Lookup (codes "t") AccessShare
column_lock = refl

-- a statistics target is in neither
pub columns_untargeted : telling_columns (column_a ∷ column_c (pos 7) ∷ []) ≡ telling_columns (column_a ∷ column_c (pos 8) ∷ [])
columns_untargeted = refl

pub column_untargeted : telling_column (codes "c") (column_c (pos 7) ∷ []) ≡ telling_column (codes "c") (column_c (pos 8) ∷ [])
column_untargeted = refl

-- an oid is told whether a relation has it or not, without a lock
pub regclass_told : comes_to (regclass_of (oid 16384)) ≡ Nothing (tells.Regclass (oid 16384))
regclass_told = refl

pub regclass_of_none : comes_to (regclass_of (oid 9)) ≡ Nothing (tells.Regclass (oid 9))
regclass_of_none = refl

pub regclass_searches : want_of (regclass_of (oid 9)) ≡ wants.Search (scans.RelOid (oid 9))
regclass_searches = refl

-- its scan is what its end rests on, too
pub regclass_rests : (rows : List Row) → left_rests_on (after_act rows (regclass_of (oid 9))) ≡ scans.RelOid (oid 9) ∷ []
regclass_rests rows = refl

pub columns_rest : left_rests_on (telling_columns seen) ≡ []
columns_rest = refl
