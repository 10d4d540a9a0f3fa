-- What commands come to, by computation.
use Rattle.std.proofs.Common.{◌≡◌, ℕ, true, None, Some, List, [], ◌∷◌, codes, negsuc, replicate, refl}
use Rattle.base_types.specs.declared.command.Command.TheVariants as commands
use Rattle.base_types.specs.declared.command.NewColumn.{NewColumn}
use Rattle.base_types.specs.declared.col_type.ColType.TheVariants.{Int4}
use Rattle.base_types.specs.declared.field.Field.TheVariants as fields
use Rattle.base_types.specs.declared.ids.Oid.{Oid}
use Rattle.base_types.specs.declared.kind.Kind.TheVariants.{Table, Index}
use Rattle.base_types.specs.declared.row.Row.{Row}
use Rattle.base_types.specs.declared.row.Row.TheVariants.{Class, Att}
use Rattle.base_types.specs.declared.scan.Purpose.{Purpose}
use Rattle.base_types.specs.declared.scan.Purpose.TheVariants.{RelName}
use Rattle.base_types.specs.declared.change.Change.TheVariants.{Insert}
use Rattle.command_answers.specs.declared.error.CommandError.TheVariants as errors
use Rattle.ddl_effect.specs.declared.told.Told.TheVariants as tells
use Rattle.ddl_effect.specs.Types.{OpenRelation}
use Rattle.ddl_effect.specs.Opens.{without_latest}
use Rattle.ddl_effect.specs.Plans.{Done, Fails}
use Rattle.ddl_effect.specs.Effects.{Nothing, Refuses, Unknown, effect_of, effect_at}
use Rattle.ddl_effect.specs.Commands.{plan_of, new_table}
use Rattle.ddl_effect.specs.Drawing.{changes_of}

abbrev pub column : List ℕ → NewColumn
column name = record { name = name; col_type = Int4 }

abbrev pub oid : ℕ → Oid
oid n = record { 0 = n }

abbrev pub rows_of : Row → Purpose → List Row
rows_of row (RelName name) = row ∷ []
rows_of row scan = []

-- one column too many is found before a column that comes twice
pub too_many_columns : plan_of [] (commands.CreateTable (codes "t") (replicate 1601 (column (codes "a")))) ≡ Fails errors.TooManyColumns
too_many_columns = refl

-- the first column that repeats an earlier one is named
pub column_twice : plan_of [] (commands.CreateTable (codes "t") (column (codes "a") ∷ column (codes "b") ∷ column (codes "b") ∷ column (codes "a") ∷ [])) ≡ Fails (errors.ColumnExists (codes "b"))
column_twice = refl

-- the rows of a new table, with its oid drawn
pub table_drawn : changes_of 16384 (new_table (codes "t") (column (codes "a") ∷ column (codes "b") ∷ []))
    ≡ Insert (Class (oid 16384) (codes "t") Table None) ∷ Insert (Att (oid 16384) 1 (codes "a") Int4 (negsuc 0) true) ∷ Insert (Att (oid 16384) 2 (codes "b") Int4 (negsuc 0) true) ∷ []
table_drawn = refl

-- a table has no field of an index
pub field_of_index : effect_of (rows_of (Class (oid 16384) (codes "t") Table None)) (plan_of [] (commands.Show (codes "t") (Some fields.Of))) ≡ Refuses (errors.NoField (codes "t") fields.Of)
field_of_index = refl

-- and an index has it
pub field_of_its_own : effect_of (rows_of (Class (oid 16384) (codes "i") Index None)) (plan_of [] (commands.Show (codes "i") (Some fields.Of))) ≡ Nothing (tells.Field (oid 16384) Index fields.Of)
field_of_its_own = refl

-- no row has the name
pub no_relation : effect_of (λ scan. []) (plan_of [] (commands.Show (codes "t") None)) ≡ Unknown (codes "t")
no_relation = refl

-- a lookup that ended without a relation has none, whatever the rows say
pub ended_without : effect_at (rows_of (Class (oid 16384) (codes "t") Table None)) (None ∷ []) (plan_of [] (commands.Show (codes "t") None)) ≡ Unknown (codes "t")
ended_without = refl

-- a table that a session has open under a name
abbrev pub opened : List ℕ → ℕ → OpenRelation
opened name n = record { name = name; rel = oid n; kind = Table; command = 1 }

-- of a relation that is open all is told without an act, whatever the rows say
pub peek_of_open : plan_of (opened (codes "t") 16384 ∷ []) (commands.Peek (codes "t") None) ≡ Done (tells.Relation (oid 16384) Table)
peek_of_open = refl

-- under a name the latest is meant
pub peek_of_latest : plan_of (opened (codes "t") 16384 ∷ opened (codes "t") 16385 ∷ opened (codes "u") 16386 ∷ []) (commands.Peek (codes "t") (Some fields.Name)) ≡ Done (tells.Field (oid 16385) Table fields.Name)
peek_of_latest = refl

-- nothing is open under the name
pub peek_of_closed : plan_of (opened (codes "u") 16384 ∷ []) (commands.Peek (codes "t") None) ≡ Fails (errors.NotOpen (codes "t"))
peek_of_closed = refl

-- its kind lacks the field
pub peek_of_no_field : plan_of (opened (codes "t") 16384 ∷ []) (commands.Peek (codes "t") (Some fields.Of)) ≡ Fails (errors.NoField (codes "t") fields.Of)
peek_of_no_field = refl

-- what is open is closed, and nothing else
pub close_of_open : plan_of (opened (codes "t") 16384 ∷ []) (commands.CloseRel (codes "t")) ≡ Done tells.Ok
close_of_open = refl

pub close_of_closed : plan_of [] (commands.CloseRel (codes "t")) ≡ Fails (errors.NotOpen (codes "t"))
close_of_closed = refl

-- the latest of the name is closed, and the others stay open
pub closed_latest : without_latest (codes "t") (opened (codes "t") 16384 ∷ opened (codes "t") 16385 ∷ opened (codes "u") 16386 ∷ []) ≡ opened (codes "t") 16384 ∷ opened (codes "u") 16386 ∷ []
closed_latest = refl

-- a table that the session has open isn't altered, under whichever name it was opened
pub alteration_of_open : effect_of (rows_of (Class (oid 16384) (codes "t") Table None)) (plan_of (opened (codes "u") 16384 ∷ []) (commands.AddColumn (codes "t") (codes "a") Int4)) ≡ Refuses (errors.InUse (oid 16384))
alteration_of_open = refl

-- nor dropped
pub drop_of_open : effect_of (rows_of (Class (oid 16384) (codes "t") Table None)) (plan_of (opened (codes "t") 16384 ∷ []) (commands.DropTable (codes "t"))) ≡ Refuses (errors.InUse (oid 16384))
drop_of_open = refl
