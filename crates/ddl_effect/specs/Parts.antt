-- What the plans of commands are made of.
use Rattle.std.specs.Prelude.{ℕ, Bool, true, false, not, Option, Some, None, List, [], ◌∷◌, map}
use Rattle.base_types.specs.RowKeys.{key_of}
use Rattle.base_types.specs.declared.scan.Purpose.TheVariants as scans
use Rattle.base_types.specs.declared.row.Row.TheVariants as rows
use Rattle.command_answers.specs.declared.error.CommandError.TheVariants as errors
use Rattle.ddl_effect.specs.declared.told.Told.TheVariants as tells
use Rattle.ddl_effect.specs.Types.{Oid, Mode, AccessExclusive, Kind, Table, Index, Row, Change, Delete, Purpose, CommandError, OpenRelation, Draft}
use Rattle.ddl_effect.specs.Opens.{has_open}
use Rattle.ddl_effect.specs.Plans.{Lookup, Open, Search, Read, Lock, Write, Plan, Done, Fails, Absent, Do}

-- goes on only where a test passes
abbrev pub if_passes : Bool → CommandError → Plan → Plan
if_passes true error plan = plan
if_passes false error plan = Fails error

-- goes on with the relation that a lookup found
abbrev pub found : List ℕ → (Oid → Kind → Plan) → List Row → Plan
found name rest (rows.Class oid own kind fill ∷ more) = rest oid kind
found name rest given = Absent name

-- finds a relation by its name, and locks it
abbrev pub looking_up : List ℕ → Mode → (Oid → Kind → Plan) → Plan
looking_up name mode rest = Do (Lookup name mode) (found name rest)

-- opens the descriptor of a relation
abbrev pub opening : Oid → Kind → Plan → Plan
opening rel kind plan = Do (Open rel kind) (λ given. plan)

-- writes, and is done
abbrev pub writing : Draft → Plan
writing draft = Do (Write draft) (λ given. Done tells.Ok)

-- writes changes, and has messages sent of these relations too; so many oids are new
abbrev pub forcing : List Change → List Oid → ℕ → Plan
forcing changes forced new_oids = writing (record { changes = changes; forced = forced; new_oids = new_oids })

-- writes changes that need no new oid
abbrev pub changing : List Change → Plan
changing changes = forcing changes [] 0

-- the first new oid of a draft
abbrev pub first_new : Oid
first_new = record { 0 = 1 }

-- the relation is a table
abbrev pub is_table : Kind → Bool
is_table Table = true
is_table kind = false

-- the relation is an index
abbrev pub is_index : Kind → Bool
is_index Index = true
is_index kind = false

-- goes on only where the session hasn't the relation open
abbrev pub if_closed : List OpenRelation → Oid → Plan → Plan
if_closed opens rel plan = if_passes (not (has_open rel opens)) (errors.InUse rel) plan

-- an alteration, after its lookup: the relation has to be a table that the session hasn't open, and its descriptor is opened
abbrev pub altering : List OpenRelation → List ℕ → (Oid → Plan) → Oid → Kind → Plan
altering opens name rest rel kind = if_passes (is_table kind) (errors.NotTable name) (if_closed opens rel (opening rel kind (rest rel)))

-- the same of an index
abbrev pub altering_index : List OpenRelation → List ℕ → (Oid → Plan) → Oid → Kind → Plan
altering_index opens name rest rel kind = if_passes (is_index kind) (errors.NotIndex name) (if_closed opens rel (opening rel kind (rest rel)))

-- locks a further relation
abbrev pub locking_further : Oid → Mode → Plan → Plan
locking_further rel mode plan = Do (Lock rel mode) (λ given. plan)

-- locks further relations, which the session hasn't open, and then writes
abbrev pub locking_all : List OpenRelation → List Oid → Draft → Plan
locking_all opens [] draft = writing draft
locking_all opens (rel ∷ rels) draft = locking_further rel AccessExclusive (if_closed opens rel (locking_all opens rels draft))

-- searches a catalog cache
abbrev pub searching : Purpose → (List Row → Plan) → Plan
searching scan rest = Do (Search scan) rest

-- reads rows of an open descriptor
abbrev pub reading : Purpose → (List Row → Plan) → Plan
reading scan rest = Do (Read scan) rest

-- goes on with the row of a column, which has to be there
abbrev pub column_there : List ℕ → (Row → Plan) → List Row → Plan
column_there column rest [] = Fails (errors.NoColumn column)
column_there column rest (row ∷ more) = rest row

-- goes on only where no column has the name
abbrev pub column_free : List ℕ → Plan → List Row → Plan
column_free column plan [] = plan
column_free column plan (row ∷ more) = Fails (errors.ColumnExists column)

-- finds a column by its name
abbrev pub with_column : Oid → List ℕ → (Row → Plan) → Plan
with_column rel column rest = searching (scans.AttName rel column) (column_there column rest)

-- finds that no column has the name
abbrev pub without_column : Oid → List ℕ → Plan → Plan
without_column rel column plan = searching (scans.AttName rel column) (column_free column plan)

-- the number of a column, by its row
abbrev pub column_number : Row → ℕ
column_number (rows.Att rel num own col_type stat live) = num
column_number row = 0

-- deletes a row, if there is one
abbrev pub deleting : Option Row → List Change
deleting None = []
deleting (Some row) = Delete (key_of row) ∷ []

-- deletes rows
abbrev pub removing : List Row → List Change
removing given = map (λ row. Delete (key_of row)) given
