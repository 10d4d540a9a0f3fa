-- What the versions of a list have in common, and the lists of a row.
use Rattle.std.specs.Prelude.{ℕ, Bool, false, Option, Some, None, List, [], nat_eq, ◌||◌, if◌then◌else◌}
use Rattle.std.specs.Option.{option_map_or}
use Rattle.std.specs.Cmp.Lexicographic.{pointwise}
use Rattle.std.specs.Ordering.{on, eq_of_both}
use Rattle.base_types.specs.RowKeys.{key_of}
use Rattle.base_types.specs.Scans.{same_oid}
use Rattle.base_types.specs.declared.row.ConKind.{ConKind}
use Rattle.base_types.specs.declared.row.ConKind.TheVariants as kinds
use Rattle.base_types.specs.declared.row.Row.TheVariants as rows
use Rattle.base_types.specs.declared.row_key.RowKey.TheVariants as keys
use Rattle.base_types.specs.declared.scan.Purpose.TheVariants as scans
use Rattle.catalog_rows.specs.Types.{Oid, Row, RowKey, Purpose}
use Rattle.catalog_rows.specs.declared.place.KeyKind.{KeyKind}
use Rattle.catalog_rows.specs.declared.place.KeyKind.TheVariants as key_kinds
use Rattle.catalog_rows.specs.declared.place.Place.{Place}

-- the number of a kind of key
abbrev pub kind_number : KeyKind → ℕ
kind_number key_kinds.RelationName = 1
kind_number key_kinds.Relation = 2
kind_number key_kinds.ColumnName = 3
kind_number key_kinds.Column = 4
kind_number key_kinds.Columns = 5
kind_number key_kinds.Default = 6
kind_number key_kinds.Defaults = 7
kind_number key_kinds.Constraint = 8
kind_number key_kinds.Constraints = 9
kind_number key_kinds.Index = 10
kind_number key_kinds.Indexes = 11
kind_number key_kinds.Trigger = 12
kind_number key_kinds.Triggers = 13

-- two places are one
abbrev pub same_place : Place → Place → Bool
same_place = eq_of_both (on (λ p. kind_number p.kind) nat_eq) (eq_of_both (on (λ p. p.name) (pointwise nat_eq)) (eq_of_both (on (λ p. p.column) nat_eq) (on (λ p. p.oid) nat_eq)))

-- the place of an oid, by keys of a kind
abbrev pub oid_place : KeyKind → Oid → Place
oid_place kind oid = record { kind = kind; oid = oid.0; column = 0; name = [] }

-- the place of a relation's name
abbrev pub relation_place : List ℕ → Place
relation_place name = record { kind = key_kinds.RelationName; oid = 0; column = 0; name = name }

-- the place of the name of a relation's column
abbrev pub column_place : Oid → List ℕ → Place
column_place rel name = record { kind = key_kinds.ColumnName; oid = rel.0; column = 0; name = name }

-- the place of the row with a key
abbrev pub key_place : RowKey → Place
key_place (keys.Class oid) = oid_place key_kinds.Relation oid
key_place (keys.Att rel num) = record { kind = key_kinds.Column; oid = rel.0; column = num; name = [] }
key_place (keys.Def oid) = oid_place key_kinds.Default oid
key_place (keys.Ind oid) = oid_place key_kinds.Index oid
key_place (keys.Con oid) = oid_place key_kinds.Constraint oid
key_place (keys.Trg oid) = oid_place key_kinds.Trigger oid

-- the place of what a scan asks for
abbrev pub scan_place : Purpose → Place
scan_place (scans.RelName name) = relation_place name
scan_place (scans.RelOid rel) = oid_place key_kinds.Relation rel
scan_place (scans.Class rel) = oid_place key_kinds.Relation rel
scan_place (scans.AttName rel name) = column_place rel name
scan_place (scans.AttList rel) = oid_place key_kinds.Columns rel
scan_place (scans.Attribute rel) = oid_place key_kinds.Columns rel
scan_place (scans.AttrDef rel) = oid_place key_kinds.Defaults rel
scan_place (scans.Constraint rel) = oid_place key_kinds.Constraints rel
scan_place (scans.Index rel) = oid_place key_kinds.Indexes rel
scan_place (scans.Trigger rel) = oid_place key_kinds.Triggers rel
scan_place (scans.IndexRow rel) = oid_place key_kinds.Index rel

-- the place of all rows like this one of its relation
abbrev pub owner_place : Row → Option Place
owner_place (rows.Att of num own col_type stat live) = Some (oid_place key_kinds.Columns of)
owner_place (rows.Def oid of num word) = Some (oid_place key_kinds.Defaults of)
owner_place (rows.Ind index table state nums) = Some (oid_place key_kinds.Indexes table)
owner_place (rows.Con oid of own valid what) = Some (oid_place key_kinds.Constraints of)
owner_place (rows.Trg oid of own on) = Some (oid_place key_kinds.Triggers of)
owner_place row = None

-- the place of another relation's constraints, to which a foreign key refers
abbrev pub referred_place : Oid → ConKind → Option Place
referred_place of (kinds.Foreign num refrel refnum) = if same_oid of refrel then None else Some (oid_place key_kinds.Constraints refrel)
referred_place of (kinds.Check text) = None

-- the place of a row's name, or of the relation that it refers to
abbrev pub other_place : Row → Option Place
other_place (rows.Class oid own kind fill) = Some (relation_place own)
other_place (rows.Att of num own col_type stat live) = Some (column_place of own)
other_place (rows.Con oid of own valid what) = referred_place of what
other_place row = None

-- the place, if there is one, is this one
abbrev pub is_place : Option Place → Place → Bool
is_place found place = option_map_or (λ p. same_place p place) found false

-- a row is listed at a place
abbrev pub is_under : Place → Row → Bool
is_under place row = same_place (key_place (key_of row)) place || (is_place (owner_place row) place || is_place (other_place row) place)
