-- The catalog of a row, and the key that identifies the row there.
use Rattle.std.specs.Prelude.{Bool, true, false, not, List, [], ◌∷◌, ◌==◌, ◌&&◌}
use Rattle.std.specs.List.{list_any}
use Rattle.base_types.specs.Types.{Row, RowKey}
use Rattle.base_types.specs.Scans.{same_oid}
use Rattle.base_types.specs.declared.catalog.Catalog.{Catalog}
use Rattle.base_types.specs.declared.catalog.Catalog.TheVariants as catalogs
use Rattle.base_types.specs.declared.row.Row.TheVariants as rows
use Rattle.base_types.specs.declared.row_key.RowKey.TheVariants as keys

-- the catalog of a row
abbrev pub catalog_of : Row → Catalog
catalog_of (rows.Class oid name kind fill) = catalogs.Class
catalog_of (rows.Att rel num name col_type stat live) = catalogs.Attribute
catalog_of (rows.Def oid rel num word) = catalogs.AttrDef
catalog_of (rows.Ind index table state nums) = catalogs.Index
catalog_of (rows.Con oid rel name valid what) = catalogs.Constraint
catalog_of (rows.Trg oid rel name on) = catalogs.Trigger

-- the key of a row
abbrev pub key_of : Row → RowKey
key_of (rows.Class oid name kind fill) = keys.Class oid
key_of (rows.Att rel num name col_type stat live) = keys.Att rel num
key_of (rows.Def oid rel num word) = keys.Def oid
key_of (rows.Ind index table state nums) = keys.Ind index
key_of (rows.Con oid rel name valid what) = keys.Con oid
key_of (rows.Trg oid rel name on) = keys.Trg oid

-- two keys are one
abbrev pub same_key : RowKey → RowKey → Bool
same_key (keys.Class a) (keys.Class b) = same_oid a b
same_key (keys.Att a num) (keys.Att b other) = same_oid a b && (num == other)
same_key (keys.Def a) (keys.Def b) = same_oid a b
same_key (keys.Ind a) (keys.Ind b) = same_oid a b
same_key (keys.Con a) (keys.Con b) = same_oid a b
same_key (keys.Trg a) (keys.Trg b) = same_oid a b
same_key a b = false

-- no key comes twice
abbrev pub are_distinct_keys : List RowKey → Bool
are_distinct_keys [] = true
are_distinct_keys (key ∷ others) = not (list_any (same_key key) others) && are_distinct_keys others
