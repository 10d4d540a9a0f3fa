-- The plans of commands that write nothing.
use Rattle.std.specs.Prelude.{ℕ, true, Option, Some, None, List, ◌∷◌}
use Rattle.std.specs.List.{filter_map}
use Rattle.base_types.specs.Fields.{has_field}
use Rattle.base_types.specs.declared.scan.Purpose.TheVariants as scans
use Rattle.base_types.specs.declared.row.Row.TheVariants as rows
use Rattle.command_answers.specs.declared.answer.Column.{Column}
use Rattle.command_answers.specs.declared.error.CommandError.TheVariants as errors
use Rattle.ddl_effect.specs.declared.told.Told.TheVariants as tells
use Rattle.ddl_effect.specs.Types.{Oid, AccessShare, Kind, Field, Row, OpenRelation, Told}
use Rattle.ddl_effect.specs.Plans.{Plan, Done, Fails}
use Rattle.ddl_effect.specs.Parts.{if_passes, looking_up, opening, is_table, searching}

-- what is told of a relation: all its fields, or one
abbrev pub told_fields : Option Field → Oid → Kind → Told
told_fields None rel kind = tells.Relation rel kind
told_fields (Some field) rel kind = tells.Field rel kind field

-- `show`, once its lookup found a relation that has what is to be shown
abbrev pub showing : Option Field → Oid → Kind → Plan
showing field rel kind = opening rel kind (Done (told_fields field rel kind))

-- `show T FIELD`, after its lookup: the kind has the field
abbrev pub showing_field : List ℕ → Field → Oid → Kind → Plan
showing_field name field rel kind = if_passes (has_field kind field) (errors.NoField name field) (showing (Some field) rel kind)

-- `open`, after its lookup
abbrev pub keeping : Oid → Kind → Plan
keeping rel kind = opening rel kind (Done tells.Ok)

-- `peek`, by the latest relation that was opened under the name: its kind has what is to be shown
abbrev pub peeking : List ℕ → Option Field → Option OpenRelation → Plan
peeking name field None = Fails (errors.NotOpen name)
peeking name None (Some o) = Done (told_fields None o.rel o.kind)
peeking name (Some field) (Some o) = if_passes (has_field o.kind field) (errors.NoField name field) (Done (told_fields (Some field) o.rel o.kind))

-- `close`, by the latest relation that was opened under the name
abbrev pub closing : List ℕ → Option OpenRelation → Plan
closing name None = Fails (errors.NotOpen name)
closing name (Some o) = Done tells.Ok

-- `lock table`, after its lookup, which has locked the relation: it has to be a table
abbrev pub locking : List ℕ → Oid → Kind → Plan
locking name rel kind = if_passes (is_table kind) (errors.NotTable name) (Done tells.Ok)

-- the column of a row, if it is live
abbrev pub live_column : Row → Option Column
live_column (rows.Att rel num own col_type stat true) = Some (record { name = own; col_type = col_type })
live_column row = None

-- `columns`, by the rows of the table's columns: those that are live
abbrev pub telling_columns : List Row → Plan
telling_columns columns = Done (tells.Columns (filter_map live_column columns))

-- `columns`, after its lookup: the relation has to be a table
abbrev pub listing_columns : List ℕ → Oid → Kind → Plan
listing_columns name rel kind = if_passes (is_table kind) (errors.NotTable name) (searching (scans.AttList rel) telling_columns)

-- `columns`
abbrev pub columns_of : List ℕ → Plan
columns_of name = looking_up name AccessShare (listing_columns name)

-- `column`, by the rows of the column, which has to be there
abbrev pub telling_column : List ℕ → List Row → Plan
telling_column column (rows.Att rel num own col_type stat live ∷ more) = Done (tells.Column num col_type)
telling_column column given = Fails (errors.NoColumn column)

-- `column`, after its lookup: the relation has to be a table
abbrev pub finding_column : List ℕ → List ℕ → Oid → Kind → Plan
finding_column name column rel kind = if_passes (is_table kind) (errors.NotTable name) (searching (scans.AttName rel column) (telling_column column))

-- `column`
abbrev pub column_of : List ℕ → List ℕ → Plan
column_of name column = looking_up name AccessShare (finding_column name column)

-- `regclass`
abbrev pub regclass_of : Oid → Plan
regclass_of oid = searching (scans.RelOid oid) (λ given. Done (tells.Regclass oid))
