-- The plans of commands on the constraints of a table.
use Rattle.std.specs.Prelude.{ℕ, Bool, true, false, Option, Some, None, List, [], ◌∷◌, ◌&&◌}
use Rattle.std.specs.List.{find}
use Rattle.std.specs.Str.{bytes_eq}
use Rattle.base_types.specs.RowKeys.{key_of}
use Rattle.base_types.specs.Scans.{same_oid}
use Rattle.base_types.specs.declared.scan.Purpose.TheVariants as scans
use Rattle.base_types.specs.declared.row.ConKind.TheVariants as kinds
use Rattle.base_types.specs.declared.row.Row.TheVariants as rows
use Rattle.command_answers.specs.declared.error.CommandError.TheVariants as errors
use Rattle.ddl_effect.specs.declared.told.Told.TheVariants as tells
use Rattle.ddl_effect.specs.Types.{Oid, ShareRowExclusive, Kind, Row, Insert, Replace, Delete, OpenRelation, ForeignKey}
use Rattle.ddl_effect.specs.Plans.{Plan, Done, Fails}
use Rattle.ddl_effect.specs.Parts.{if_passes, looking_up, first_new, is_table, with_column, reading, forcing, locking_all, column_number}
use Rattle.ddl_effect.specs.Tables.{referred_by}

-- the constraint is the relation's own, with this name
abbrev pub is_own_named : Oid → List ℕ → Row → Bool
is_own_named rel name (rows.Con oid of own valid what) = same_oid of rel && bytes_eq own name
is_own_named rel name row = false

-- goes on with a constraint, which has to be there
abbrev pub if_constraint : List ℕ → (Row → Plan) → Option Row → Plan
if_constraint name rest None = Fails (errors.NoConstraint name)
if_constraint name rest (Some row) = rest row

-- goes on only where there is no such constraint
abbrev pub if_no_constraint : List ℕ → Plan → Option Row → Plan
if_no_constraint name plan None = plan
if_no_constraint name plan (Some row) = Fails (errors.ConstraintExists name)

-- goes on with the table's constraint of this name, by the rows of its constraints and of those that refer to it
abbrev pub constraint_there : Oid → List ℕ → (Row → Plan) → List Row → Plan
constraint_there rel name rest constraints = if_constraint name rest (find (is_own_named rel name) constraints)

-- goes on only where the table has no constraint of this name
abbrev pub constraint_free : Oid → List ℕ → Plan → List Row → Plan
constraint_free rel name plan constraints = if_no_constraint name plan (find (is_own_named rel name) constraints)

-- finds a table's constraint by its name
abbrev pub with_constraint : Oid → List ℕ → (Row → Plan) → Plan
with_constraint rel name rest = reading (scans.Constraint rel) (constraint_there rel name rest)

-- finds that a table has no constraint of this name
abbrev pub without_constraint : Oid → List ℕ → Plan → Plan
without_constraint rel name plan = reading (scans.Constraint rel) (constraint_free rel name plan)

-- `add constraint .. check`, once its name is free
abbrev pub adding_check : List ℕ → List ℕ → Bool → Oid → Plan
adding_check name text valid rel = forcing (Insert (rows.Con first_new rel name valid (kinds.Check text)) ∷ []) (rel ∷ []) 1

-- `add constraint .. check`, once the descriptor is open
abbrev pub add_check : List ℕ → List ℕ → Bool → Oid → Plan
add_check name text valid rel = without_constraint rel name (adding_check name text valid rel)

-- `add constraint .. foreign key`, by the rows of both columns: the table to which it refers is told
abbrev pub adding_foreign : ForeignKey → Oid → Row → Oid → Row → Plan
adding_foreign key rel row other there = forcing (Insert (rows.Con first_new rel key.constraint key.valid (kinds.Foreign (column_number row) other (column_number there))) ∷ []) (other ∷ []) 1

-- `add constraint .. foreign key`, once the other relation is found: it has to be a table with that column
abbrev pub referring_to : ForeignKey → Oid → Row → Oid → Kind → Plan
referring_to key rel row other kind = if_passes (is_table kind) (errors.NotTable key.refers) (with_column other key.ref_column (adding_foreign key rel row other))

-- `add constraint .. foreign key`, by the row of the table's own column: the other table is looked up
abbrev pub referring : ForeignKey → Oid → Row → Plan
referring key rel row = looking_up key.refers ShareRowExclusive (referring_to key rel row)

-- `add constraint .. foreign key`, once its name is free
abbrev pub foreign_named : ForeignKey → Oid → Plan
foreign_named key rel = with_column rel key.column (referring key rel)

-- `add constraint .. foreign key`, once the descriptor is open
abbrev pub add_foreign : ForeignKey → Oid → Plan
add_foreign key rel = without_constraint rel key.constraint (foreign_named key rel)

-- `validate constraint`, by the row of the constraint: one that is known to hold stays as it is
abbrev pub validating : Oid → Row → Plan
validating rel (rows.Con oid of own false what) = forcing (Replace (rows.Con oid of own true what) ∷ []) (rel ∷ []) 0
validating rel row = Done tells.Ok

-- `validate constraint`, once the descriptor is open
abbrev pub validate_constraint : List ℕ → Oid → Plan
validate_constraint name rel = with_constraint rel name (validating rel)

-- `drop constraint`, by the row of the constraint: of a foreign key the other table is locked, and told
abbrev pub dropping_constraint : List OpenRelation → Oid → Row → Plan
dropping_constraint opens rel row = locking_all opens (referred_by row) (record { changes = Delete (key_of row) ∷ []; forced = rel ∷ referred_by row; new_oids = 0 })

-- `drop constraint`, once the descriptor is open
abbrev pub drop_constraint : List OpenRelation → List ℕ → Oid → Plan
drop_constraint opens name rel = with_constraint rel name (dropping_constraint opens rel)
