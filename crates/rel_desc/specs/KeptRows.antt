-- How the rows of several scans lie in one list, with the values of the fields that each scan reads.
use Rattle.std.specs.Prelude.{◌≡◌, ℕ, ◌+◌, Option, List, [], ◌∷◌, length, take, drop, map}
use Rattle.std.specs.Option.{option_map}
use Rattle.std.specs.List.{find}
use Rattle.rel_desc.specs.Types.{Oid, Field, Purpose, Row, FieldValue, Part}
use Rattle.rel_desc.specs.Descriptors.{KeptScan}
use Rattle.base_types.specs.declared.field.Field.TheVariants as fields
use Rattle.base_types.specs.declared.scan.Purpose.TheVariants as scans
use Rattle.base_types.specs.Scans.{same_scan}
use Rattle.base_types.specs.Fields.{field_text, same_field}

-- the scans of these parts, whose rows follow each other in one list
abbrev pub kept_in : List Part → List Row → List KeptScan
kept_in [] given = []
kept_in (part ∷ parts) given = record { scan = part.scan; rows = take part.count given; at = part.at } ∷ kept_in parts (drop part.count given)

-- how many rows the parts have
abbrev pub counted : List Part → ℕ
counted [] = 0
counted (part ∷ parts) = part.count + counted parts

-- the value of a field, of these rows
abbrev pub value_made : Oid → List Row → Field → FieldValue
value_made rel given field = record { field = field; value = field_text field rel given }

-- the fields that a scan reads, of both kinds
abbrev pub fields_read : Purpose → List Field
fields_read (scans.Class rel) = fields.Name ∷ fields.Fillfactor ∷ []
fields_read (scans.Attribute rel) = fields.Columns ∷ fields.Statistics ∷ []
fields_read (scans.AttrDef rel) = fields.Defaults ∷ []
fields_read (scans.Constraint rel) = fields.Constraints ∷ fields.Referenced ∷ []
fields_read (scans.Index rel) = fields.Indexes ∷ []
fields_read (scans.Trigger rel) = fields.Triggers ∷ []
fields_read (scans.IndexRow rel) = fields.Of ∷ fields.Valid ∷ []
fields_read scan = []

-- the values of the fields that a scan reads, of the rows that it gave
abbrev pub values_read : Oid → Purpose → List Row → List FieldValue
values_read rel scan given = map (value_made rel given) (fields_read scan)

-- the value of a field among these
abbrev pub value_in : List FieldValue → Field → Option (List ℕ)
value_in values field = option_map (λ v. v.value) (find (λ v. same_field v.field field) values)

-- the part of a scan
abbrev pub part_for : List Part → Purpose → Option Part
part_for parts scan = find (λ p. same_scan p.scan scan) parts

-- the parts have all the rows, and each has the values that its scan reads of its own rows
pub record IsKept (rel : Oid) (parts : List Part) (given : List Row) : Type 0 where
  pub whole : length given ≡ counted parts
  pub values : map (λ p. p.values) parts ≡ map (λ k. values_read rel k.scan k.rows) (kept_in parts given)
