-- The plans of commands on indexes.
use Rattle.std.specs.Prelude.{ℕ, Bool, None, List, [], ◌∷◌, ◌++◌, ◌&&◌, nat_le, length}
use Rattle.base_types.specs.declared.index_state.IndexState.TheVariants as states
use Rattle.base_types.specs.declared.nums.TheConstants.{MOST_INDEX_COLUMNS}
use Rattle.base_types.specs.declared.scan.Purpose.TheVariants as scans
use Rattle.base_types.specs.declared.row.Row.TheVariants as rows
use Rattle.base_types.specs.declared.row_key.RowKey.TheVariants as keys
use Rattle.command_answers.specs.declared.error.CommandError.TheVariants as errors
use Rattle.ddl_effect.specs.declared.told.Told.TheVariants as tells
use Rattle.ddl_effect.specs.Types.{Oid, Index, Row, Insert, Delete, OpenRelation}
use Rattle.ddl_effect.specs.Plans.{Plan, Done}
use Rattle.ddl_effect.specs.Parts.{if_passes, first_new, with_column, reading, forcing, locking_all, column_number}

-- `create index`, by the numbers of its columns: the index and its row have one oid
abbrev pub adding_index : List ℕ → Oid → List ℕ → Plan
adding_index name rel nums = forcing (Insert (rows.Class first_new name Index None) ∷ Insert (rows.Ind first_new rel states.Valid nums) ∷ []) (rel ∷ []) 1

-- goes on with the number of one column more
abbrev pub numbered_too : (List ℕ → Plan) → List ℕ → Row → Plan
numbered_too rest nums row = rest (nums ++ column_number row ∷ [])

-- `create index`, by the columns that it has left to find and the numbers of those before them
abbrev pub numbering : List ℕ → Oid → List (List ℕ) → List ℕ → Plan
numbering name rel [] nums = adding_index name rel nums
numbering name rel (column ∷ columns) nums = with_column rel column (numbered_too (numbering name rel columns) nums)

-- so many columns are enough for an index, and not too many
abbrev pub is_index_width : ℕ → Bool
is_index_width count = nat_le 1 count && nat_le count MOST_INDEX_COLUMNS

-- `create index`, once the descriptor of its table is open
abbrev pub create_index : List ℕ → List (List ℕ) → Oid → Plan
create_index name columns rel = if_passes (is_index_width (length columns)) errors.TooManyColumns (numbering name rel columns [])

-- `drop index`, by the index's row: its table is locked, and told
abbrev pub dropping_index : List OpenRelation → Oid → List Row → Plan
dropping_index opens rel (rows.Ind index table state nums ∷ more) = locking_all opens (table ∷ []) (record { changes = Delete (keys.Ind rel) ∷ Delete (keys.Class rel) ∷ []; forced = table ∷ []; new_oids = 0 })
dropping_index opens rel given = Done tells.Ok

-- `drop index`, once the descriptor is open
abbrev pub drop_index : List OpenRelation → Oid → Plan
drop_index opens rel = reading (scans.IndexRow rel) (dropping_index opens rel)
