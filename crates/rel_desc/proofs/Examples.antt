-- A table, an index and a build as worked examples of the definitions.
use Rattle.std.proofs.Common.{◌≡◌, ℕ, true, false, Some, None, List, [], ◌∷◌, refl, codes}
use Rattle.std.specs.Prelude.{pos, negsuc}
use Rattle.std.specs.Fmt.{digits}
use Rattle.rel_desc.specs.Types.{Oid, Row, Purpose}
use Rattle.base_types.specs.declared.kind.Kind.TheVariants.{Table, Index}
use Rattle.base_types.specs.declared.col_type.ColType.TheVariants.{Int4, Text}
use Rattle.base_types.specs.declared.index_state.IndexState.TheVariants.{Valid}
use Rattle.base_types.specs.declared.row.Row.TheVariants as rows
use Rattle.base_types.specs.declared.field.Field.TheVariants as fields
use Rattle.base_types.specs.declared.scan.Purpose.TheVariants as scans
use Rattle.rel_desc.specs.Descriptors.{KeptScan, Described, unread, wanted, taken, field_of, place_of}

abbrev table_oid : Oid
table_oid = record { 0 = 16384 }

abbrev index_oid : Oid
index_oid = record { 0 = 16386 }

abbrev kept : Purpose → List Row → ℕ → KeptScan
kept scan given at = record { scan = scan; rows = given; at = at }

-- a table with a column, a dropped one and a default
abbrev table : Described
table = record {
  rel = table_oid;
  kept = kept (scans.Class table_oid) (rows.Class table_oid (codes "t") Table None ∷ []) 15
      ∷ kept (scans.Attribute table_oid) (rows.Att table_oid 1 (codes "a") Int4 (negsuc 0) true ∷ rows.Att table_oid 2 (codes "b") Text (pos 100) false ∷ []) 17
      ∷ kept (scans.AttrDef table_oid) (rows.Def (record { 0 = 16385 }) table_oid 1 (codes "x") ∷ []) 19
      ∷ kept (scans.Constraint table_oid) [] 21
      ∷ kept (scans.Index table_oid) (rows.Ind index_oid table_oid Valid (1 ∷ []) ∷ []) 23
      ∷ kept (scans.Trigger table_oid) [] 25
      ∷ [];
}

-- the index of that table
abbrev index : Described
index = record {
  rel = index_oid;
  kept = kept (scans.Class index_oid) (rows.Class index_oid (codes "i") Index (Some 70) ∷ []) 31
      ∷ kept (scans.IndexRow index_oid) (rows.Ind index_oid table_oid Valid (1 ∷ []) ∷ []) 33
      ∷ [];
}

table_name : field_of table fields.Name ≡ Some (codes "t")
table_name = refl

-- a dropped column isn't shown
table_columns : field_of table fields.Columns ≡ Some (codes "a:int4")
table_columns = refl

table_statistics : field_of table fields.Statistics ≡ Some (codes "1:-1")
unfolding digits
table_statistics = refl

table_defaults : field_of table fields.Defaults ≡ Some (codes "1=x")
unfolding digits
table_defaults = refl

table_indexes : field_of table fields.Indexes ≡ Some (codes "16386:v:1")
unfolding digits
table_indexes = refl

table_triggers : field_of table fields.Triggers ≡ Some (codes "-")
table_triggers = refl

-- a table has no such field
table_valid : field_of table fields.Valid ≡ None
table_valid = refl

-- two fields of one scan have one place
table_statistics_at : place_of table fields.Statistics ≡ Some 17
table_statistics_at = refl

table_columns_at : place_of table fields.Columns ≡ Some 17
table_columns_at = refl

table_fillfactor_at : place_of table fields.Fillfactor ≡ Some 15
table_fillfactor_at = refl

table_wants : wanted table ≡ None
table_wants = refl

index_of : field_of index fields.Of ≡ Some (codes "16384:1")
unfolding digits
index_of = refl

-- an index shows no fillfactor, though the scan of its own row gives it
index_fillfactor : field_of index fields.Fillfactor ≡ None
index_fillfactor = refl

index_valid_at : place_of index fields.Valid ≡ Some 33
index_valid_at = refl

-- a build begins with the relation's own row, and goes on by the kind in it
first_wanted : wanted (unread index_oid) ≡ Some (scans.Class index_oid)
first_wanted = refl

second_wanted : wanted (taken (unread index_oid) (rows.Class index_oid (codes "i") Index None ∷ []) 31) ≡ Some (scans.IndexRow index_oid)
second_wanted = refl
