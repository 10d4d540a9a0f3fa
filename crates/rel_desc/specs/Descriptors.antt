-- What a descriptor is built of, which scan its build wants next, and its fields.
use Rattle.std.specs.Prelude.{◌≡◌, ℕ, Bool, true, false, Option, None, List, [], ◌∷◌, ◌++◌, length, take, map, slice_get, if◌then◌else◌}
use Rattle.std.specs.Option.{option_map, option_map_or}
use Rattle.std.specs.List.{find, flat_map, list_all, AllByRecursion}
use Rattle.rel_desc.specs.Types.{Oid, Kind, Field, Purpose, Row}
use Rattle.base_types.specs.declared.kind.Kind.TheVariants.{Table}
use Rattle.base_types.specs.declared.row.Row.TheVariants as rows
use Rattle.base_types.specs.declared.scan.Purpose.TheVariants as scans
use Rattle.base_types.specs.Scans.{build_scans, same_scan, selects}
use Rattle.base_types.specs.Fields.{field_text, has_field, read_by}

-- a scan that was made for a descriptor: what it gave, and the number of its entry in the history, from 1
pub record KeptScan : Type 0 where
  pub scan : Purpose
  pub rows : List Row
  pub at : ℕ

-- a relation and the scans that were made for its descriptor, in order
pub record Described : Type 0 where
  pub rel : Oid
  pub kept : List KeptScan

-- a relation of which nothing was read
abbrev pub unread : Oid → Described
unread rel = record { rel = rel; kept = [] }

-- all rows that were read, in the order of the scans
abbrev pub rows_of : Described → List Row
rows_of d = flat_map (λ k. k.rows) d.kept

-- the kind of a relation, by its own row, which is read first
abbrev pub kind_in : List Row → Kind
kind_in (rows.Class oid name kind fill ∷ others) = kind
kind_in others = Table

-- the kind of the relation
abbrev pub kind_of : Described → Kind
kind_of d = kind_in (rows_of d)

-- the scan that comes next; the first one is the same for both kinds
abbrev pub wanted : Described → Option Purpose
wanted d = slice_get (build_scans (kind_of d) d.rel) (length d.kept)

-- a relation and its scans after one more
abbrev pub with_scan : Described → Purpose → List Row → ℕ → Described
with_scan d scan given at = record { rel = d.rel; kept = d.kept ++ record { scan = scan; rows = given; at = at } ∷ [] }

-- a relation and its scans after the one that comes next
abbrev pub taken : Described → List Row → ℕ → Described
taken d given at = option_map_or (λ scan. with_scan d scan given at) (wanted d) d

-- the scan reads the relation's own row
abbrev pub is_own_row : Purpose → Bool
is_own_row (scans.Class rel) = true
is_own_row scan = false

-- the rows are such as the scan gives: it asks for each, and a relation has one row of its own
pub record IsGiven (scan : Purpose) (given : List Row) : Type 0 where
  pub asked : list_all (selects scan) given ≡ true
  pub one : is_own_row scan ≡ true → length given ≡ 1

-- the first scans of the kind were made, and each gave such rows as it gives
pub record IsBegun (d : Described) : Type 0 where
  pub scans : map (λ k. k.scan) d.kept ≡ take (length d.kept) (build_scans (kind_of d) d.rel)
  pub given : AllByRecursion (λ k. IsGiven k.scan k.rows) d.kept

-- all scans of the kind were made, and each gave such rows as it gives
pub record IsBuilt (d : Described) : Type 0 where
  pub scans : map (λ k. k.scan) d.kept ≡ build_scans (kind_of d) d.rel
  pub given : AllByRecursion (λ k. IsGiven k.scan k.rows) d.kept

-- a scan among those that were made
abbrev pub kept_for : List KeptScan → Purpose → Option KeptScan
kept_for kept scan = find (λ k. same_scan k.scan scan) kept

-- the scan that read a field, if the kind has the field
abbrev pub reader_of : Described → Field → Option KeptScan
reader_of d field = if has_field (kind_of d) field then kept_for d.kept (read_by field d.rel) else None

-- the text of a field, if the kind has the field: that of the rows of the scan that read it
abbrev pub field_of : Described → Field → Option (List ℕ)
field_of d field = option_map (λ k. field_text field d.rel k.rows) (reader_of d field)

-- the place of a field, if the kind has the field: that of the scan that read it
abbrev pub place_of : Described → Field → Option ℕ
place_of d field = option_map (λ k. k.at) (reader_of d field)
