-- The plans of commands on whole tables.
use Rattle.std.specs.Prelude.{ℕ, Bool, true, false, not, Option, Some, None, List, [], ◌∷◌, ◌++◌, ◌&&◌, nat_le, nat_lt, map, fold, length, pos, negsuc, if◌then◌else◌}
use Rattle.std.specs.List.{list_any, enumerate_from, flat_map, insert, position_or_len}
use Rattle.std.specs.Str.{bytes_eq}
use Rattle.base_types.specs.declared.dropped.TheConstants.{MOST_COLUMNS}
use Rattle.base_types.specs.Scans.{same_oid}
use Rattle.base_types.specs.declared.scan.Purpose.TheVariants as scans
use Rattle.base_types.specs.declared.row.ConKind.TheVariants as kinds
use Rattle.base_types.specs.declared.row.Row.TheVariants as rows
use Rattle.base_types.specs.declared.row_key.RowKey.TheVariants as keys
use Rattle.command_answers.specs.declared.error.CommandError.TheVariants as errors
use Rattle.ddl_effect.specs.declared.told.Told.TheVariants as tells
use Rattle.ddl_effect.specs.Types.{Oid, Table, Row, Change, Insert, Replace, Delete, NewColumn, OpenRelation, Draft}
use Rattle.ddl_effect.specs.Plans.{Plan, Done, Fails}
use Rattle.ddl_effect.specs.Parts.{if_passes, writing, first_new, reading, changing, locking_all, removing}

-- the first name that repeats an earlier one
abbrev pub first_twice : List (List ℕ) → List (List ℕ) → Option (List ℕ)
first_twice earlier [] = None
first_twice earlier (name ∷ names) = if list_any (bytes_eq name) earlier then Some name else first_twice (earlier ++ name ∷ []) names

-- goes on only where no column repeats an earlier one
abbrev pub if_no_column : Option (List ℕ) → Plan → Plan
if_no_column None plan = plan
if_no_column (Some name) plan = Fails (errors.ColumnExists name)

-- the row of a new table
abbrev pub table_row : List ℕ → Change
table_row name = Insert (rows.Class first_new name Table None)

-- the row of a new table's column, by its number
abbrev pub new_column : ℕ × NewColumn → Change
new_column (num, column) = Insert (rows.Att first_new num column.name column.col_type (negsuc 0) true)

-- the rows of a new table
abbrev pub new_table : List ℕ → List NewColumn → Draft
new_table name columns = record { changes = table_row name ∷ map new_column (enumerate_from 1 columns); forced = []; new_oids = 1 }

-- `create table`: at most 1,600 columns, and none twice
abbrev pub creating : List ℕ → List NewColumn → Plan
creating name columns = if_passes (nat_le (length columns) MOST_COLUMNS) errors.TooManyColumns (if_no_column (first_twice [] (map (λ c. c.name) columns)) (writing (new_table name columns)))

-- the row of a relation with another fillfactor
abbrev pub with_fill : ℕ → Row → Row
with_fill fill (rows.Class oid own kind old) = rows.Class oid own kind (Some fill)
with_fill fill row = row

-- `set (fillfactor = N)`, by the table's row
abbrev pub filling : ℕ → List Row → Plan
filling fill [] = Done tells.Ok
filling fill (row ∷ more) = changing (Replace (with_fill fill row) ∷ [])

-- `set (fillfactor = N)`, once the descriptor is open: 10 to 100
abbrev pub set_fillfactor : ℕ → Oid → Plan
set_fillfactor fill rel = if_passes (nat_le 10 fill && nat_le fill 100) (errors.OutOfRange (pos fill)) (reading (scans.Class rel) (filling fill))

-- the row of a relation with another name
abbrev pub with_own_name : List ℕ → Row → Row
with_own_name to (rows.Class oid own kind fill) = rows.Class oid to kind fill
with_own_name to row = row

-- `rename to`, by the relation's row
abbrev pub renaming_table : List ℕ → List Row → Plan
renaming_table to [] = Done tells.Ok
renaming_table to (row ∷ more) = changing (Replace (with_own_name to row) ∷ [])

-- `rename to`, of a table or of an index, once the descriptor is open
abbrev pub rename_table : List ℕ → Oid → Plan
rename_table to rel = reading (scans.Class rel) (renaming_table to)

-- the constraint is another relation's
abbrev pub is_of_other : Oid → Row → Bool
is_of_other rel (rows.Con oid of own valid what) = not (same_oid of rel)
is_of_other rel row = false

-- the relation to which a foreign key refers
abbrev pub referred_by : Row → List Oid
referred_by (rows.Con oid rel own valid (kinds.Foreign num refrel refnum)) = refrel ∷ []
referred_by row = []

-- a relation after others, unless it is one of them
abbrev pub with_relation : List Oid → Oid → List Oid
with_relation rels rel = if list_any (same_oid rel) rels then rels else rels ++ rel ∷ []

-- the relations to which foreign keys refer, each once, where the first key that does
abbrev pub referred : List Row → List Oid
referred constraints = fold with_relation [] (flat_map referred_by constraints)

-- an index, by its row
abbrev pub index_of : Row → List Oid
index_of (rows.Ind index table state nums) = index ∷ []
index_of row = []

-- deletes the rows of an index
abbrev pub dropped_index : Row → List Change
dropped_index (rows.Ind index table state nums) = Delete (keys.Ind index) ∷ Delete (keys.Class index) ∷ []
dropped_index row = []

-- the oid of a row that is a default or a trigger
abbrev pub own_oid : Row → ℕ
own_oid (rows.Def oid rel num word) = oid.0
own_oid (rows.Trg oid rel own on) = oid.0
own_oid row = 0

-- the first row is before the second by oid
abbrev pub oid_before : Row → Row → Bool
oid_before a b = nat_lt (own_oid a) (own_oid b)

-- a row put among others by its oid
abbrev pub put_by_oid : List Row → Row → List Row
put_by_oid given row = insert given (position_or_len (oid_before row) given) row

-- rows by oid
abbrev pub by_oid : List Row → List Row
by_oid given = fold put_by_oid [] given

-- what `drop table` writes: all rows of the table go, with those of its indexes, and each table to which it refers is told
abbrev pub dropped_table : Oid → List Row → List Row → List Row → List Row → List Row → Draft
dropped_table rel constraints indexes defaults triggers columns = record {
  changes = flat_map dropped_index indexes ++ removing constraints ++ removing (by_oid defaults) ++ removing (by_oid triggers) ++ removing columns ++ Delete (keys.Class rel) ∷ [];
  forced = referred constraints;
  new_oids = 0;
}

-- `drop table`, by all of the table's rows: the tables to which it refers are locked, and its indexes
abbrev pub dropping_table : List OpenRelation → Oid → List Row → List Row → List Row → List Row → List Row → Plan
dropping_table opens rel constraints indexes defaults triggers columns = locking_all opens (referred constraints ++ flat_map index_of indexes) (dropped_table rel constraints indexes defaults triggers columns)

-- `drop table`, by the rows of the table's triggers
abbrev pub drop_triggers : List OpenRelation → Oid → List Row → List Row → List Row → List Row → Plan
drop_triggers opens rel constraints indexes defaults triggers = reading (scans.Attribute rel) (dropping_table opens rel constraints indexes defaults triggers)

-- `drop table`, by the rows of the table's defaults
abbrev pub drop_defaults : List OpenRelation → Oid → List Row → List Row → List Row → Plan
drop_defaults opens rel constraints indexes defaults = reading (scans.Trigger rel) (drop_triggers opens rel constraints indexes defaults)

-- `drop table`, by the rows of the table's indexes
abbrev pub drop_indexes : List OpenRelation → Oid → List Row → List Row → Plan
drop_indexes opens rel constraints indexes = reading (scans.AttrDef rel) (drop_defaults opens rel constraints indexes)

-- `drop table`, by the rows of the table's constraints and of those that refer to it: none may be another table's
abbrev pub drop_constraints : List OpenRelation → List ℕ → Oid → List Row → Plan
drop_constraints opens name rel constraints = if_passes (not (list_any (is_of_other rel) constraints)) (errors.Depends name) (reading (scans.Index rel) (drop_indexes opens rel constraints))

-- `drop table`, once the descriptor is open
abbrev pub drop_table : List OpenRelation → List ℕ → Oid → Plan
drop_table opens name rel = reading (scans.Constraint rel) (drop_constraints opens name rel)
