-- The plan of each command that a line may have is typed: names, oids and changes are such as have texts, as long as the rows that its acts give are.
use Rattle.std.proofs.Common.{◌≤◌, ◌<◌, ◌+◌, ℕ, ℤ, negsuc, Bool, true, false, not, Option, Some, None, List, [], ◌∷◌, ◌++◌, ◌&&◌, inl, map, length, nat_le, nat_lt, int_lt, arith}
use Rattle.std.specs.Prelude.{IfSome}
use Rattle.std.specs.Int.{int_min}
use Rattle.std.specs.List.{AllByRecursion, find, flat_map, enumerate_from, list_any}
use Rattle.std.proofs.lemmas.Bool.{and_parts, ltb-true, leb-true}
use Rattle.std.proofs.lemmas.List.{length_push}
use Rattle.base_types.specs.Commands.{IsCommand}
use Rattle.base_types.specs.Names.{IsName, IsWord, IsText}
use Rattle.base_types.specs.Fields.{has_field}
use Rattle.base_types.specs.declared.change.Change.TheVariants.{Insert, Replace, Delete}
use Rattle.base_types.specs.declared.col_type.ColType.{ColType}
use Rattle.base_types.specs.declared.command.Command.TheVariants as commands
use Rattle.base_types.specs.declared.command.NewColumn.{NewColumn}
use Rattle.base_types.specs.declared.dropped.TheConstants.{MOST_COLUMNS}
use Rattle.base_types.specs.declared.mode.Mode.TheVariants.{AccessShare, ShareUpdateExclusive, Share, ShareRowExclusive, AccessExclusive}
use Rattle.base_types.specs.declared.row.Row.TheVariants as rows
use Rattle.base_types.specs.declared.row_key.RowKey.TheVariants as keys
use Rattle.base_types.specs.declared.scan.Purpose.TheVariants as scans
use Rattle.event_kinds.specs.Entries.{IsNumber, IsRow}
use Rattle.ddl_effect.specs.declared.foreign_key.ForeignKey.{ForeignKey}
use Rattle.ddl_effect.specs.Plans.{Plan}
use Rattle.ddl_effect.specs.Opens.{latest_open}
use Rattle.command_answers.specs.declared.error.CommandError.TheVariants as errors
use Rattle.ddl_effect.specs.Commands.{plan_of, altering, altering_index, writing, with_column, if_unused, uses_column, is_of_other, first_new, column_number, deleting, removing, is_table, reading, showing, showing_field, keeping, peeking, closing, locking, listing_columns, telling_column, finding_column}
use Rattle.ddl_effect.specs.Commands.{first_twice, if_no_column, new_column, new_table, creating, with_fill, filling, set_fillfactor, with_own_name, renaming_table, rename_table, referred_by, referred, index_of, dropped_index, by_oid, dropped_table, dropping_table, drop_indexes, drop_table}
use Rattle.ddl_effect.specs.Commands.{adding, add_column, as_dropped, is_default_of, dropping, drop_unindexed, drop_found, drop_column, rename_column, defaulting, set_default, most_stat, targeting, set_statistics}
use Rattle.ddl_effect.specs.Commands.{is_own_named, if_constraint, if_no_constraint, with_constraint, without_constraint, add_check, referring_to, add_foreign, validating, validate_constraint, dropping_constraint, drop_constraint}
use Rattle.ddl_effect.specs.Commands.{is_trigger, if_trigger, if_no_trigger, same_state, unless_so, switching, set_trigger, create_trigger, adding_index, numbered_too, numbering, is_index_width, create_index, dropping_index, drop_index}
use Rattle.history_model.proofs.Every.{every-append}
use Rattle.cacheless.specs.Types.{Oid, Kind, Field, Row, Command, OpenRelation}
use Rattle.cacheless.specs.Typed.{IsOid, AreTypedRows, IsTypedChange, IsTypedDraft, IsTypedPlan}
use Rattle.cacheless.proofs.Allowed.TypedParts.{found_each, key_typed, number_typed, as_dropped_typed, with_name_typed, with_own_name_typed, with_fill_typed, with_stat_typed, target_fits, new_fits, deleting_typed, removing_typed, indexes_dropped, by_oid_typed, index_oids, referred_typed, referred_oids, passes_typed, writing_typed, forcing_typed, looking_up_typed, altering_typed, altering_index_typed, locking_all_typed, with_column_typed, without_column_typed}

-- ---- commands that write nothing

shows : (field : Option Field) (rel : Oid) (kind : Kind) → IsOid rel → IsTypedPlan (showing field rel kind)
shows None rel kind is = (is, λ given all. tt)
shows (Some field) rel kind is = (is, λ given all. tt)

shows_field : (name : List ℕ) (field : Field) (rel : Oid) (kind : Kind) → IsOid rel → IsTypedPlan (showing_field name field rel kind)
shows_field name field rel kind is = passes_typed (has_field kind field) _ _ (λ has. shows (Some field) rel kind is)

lists_columns : (name : List ℕ) (rel : Oid) (kind : Kind) → IsOid rel → IsTypedPlan (listing_columns name rel kind)
lists_columns name rel kind is = passes_typed (is_table kind) _ _ (λ table. (is, λ given all. tt))

tells_column : (column : List ℕ) (given : List Row) → IsTypedPlan (telling_column column given)
tells_column column [] = tt
tells_column column (rows.Att rel num own col_type stat live ∷ more) = tt
tells_column column (rows.Class oid own kind fill ∷ more) = tt
tells_column column (rows.Def oid rel num word ∷ more) = tt
tells_column column (rows.Ind index table state nums ∷ more) = tt
tells_column column (rows.Con oid rel own valid what ∷ more) = tt
tells_column column (rows.Trg oid rel own on ∷ more) = tt

finds_told : (name column : List ℕ) (rel : Oid) (kind : Kind) → IsName column → IsOid rel → IsTypedPlan (finding_column name column rel kind)
finds_told name column rel kind named is = passes_typed (is_table kind) _ _ (λ table. ((is, inl named), λ given all. tells_column column given))

locks_found : (name : List ℕ) (rel : Oid) (kind : Kind) → IsTypedPlan (locking name rel kind)
locks_found name rel kind = passes_typed (is_table kind) _ _ (λ table. tt)

peeks : (name : List ℕ) (field : Option Field) (latest : Option OpenRelation) → IsTypedPlan (peeking name field latest)
peeks name field None = tt
peeks name None (Some o) = tt
peeks name (Some field) (Some o) = passes_typed (has_field o.kind field) _ _ (λ has. tt)

closes : (name : List ℕ) (latest : Option OpenRelation) → IsTypedPlan (closing name latest)
closes name None = tt
closes name (Some o) = tt

-- ---- whole tables

numbered : (n : ℕ) (columns : List NewColumn) → n + length columns ≤ MOST_COLUMNS + 1 → AllByRecursion (λ column. IsName column.name) columns → AllByRecursion IsTypedChange (map new_column (enumerate_from n columns))
numbered n [] few named = tt
numbered n (column ∷ columns) few named = ((omega arith, omega (arith, few), inl named.0, new_fits), numbered (n + 1) columns (omega (arith, few)) named.1)

creates : (name : List ℕ) (columns : List NewColumn) → IsName name → AllByRecursion (λ column. IsName column.name) columns → IsTypedPlan (creating name columns)
creates name columns named all = passes_typed (nat_le (length columns) MOST_COLUMNS) _ _ (λ few. by_twice (first_twice [] (map (λ c. c.name) columns)) (leb-true (length columns) MOST_COLUMNS few))
  where
    by_twice : (o : Option (List ℕ)) → length columns ≤ MOST_COLUMNS → IsTypedPlan (if_no_column o (writing (new_table name columns)))
    by_twice (Some twice) few = tt
    by_twice None few = writing_typed (new_table name columns) (record { changes = ((omega arith, inl named, tt), numbered 1 columns (omega (arith, few)) all); forced = tt; new = omega arith })

fills : (fill : ℕ) (given : List Row) → IsNumber fill → AreTypedRows given → IsTypedPlan (filling fill given)
fills fill [] short all = tt
fills fill (row ∷ more) short all = forcing_typed (Replace (with_fill fill row) ∷ []) [] 0 (with_fill_typed fill row short all.0, tt) tt (omega arith)

sets_fill : (fill : ℕ) (rel : Oid) → IsOid rel → IsTypedPlan (set_fillfactor fill rel)
sets_fill fill rel is = passes_typed (nat_le 10 fill && nat_le fill 100) _ _ (λ may. (is, λ given all. fills fill given (omega (arith, leb-true fill 100 (and_parts (nat_le 10 fill) (nat_le fill 100) may).1)) all))

renames_own : (to : List ℕ) (given : List Row) → IsName to → AreTypedRows given → IsTypedPlan (renaming_table to given)
renames_own to [] named all = tt
renames_own to (row ∷ more) named all = forcing_typed (Replace (with_own_name to row) ∷ []) [] 0 (with_own_name_typed to row named all.0, tt) tt (omega arith)

renames : (to : List ℕ) (rel : Oid) → IsName to → IsOid rel → IsTypedPlan (rename_table to rel)
renames to rel named is = (is, λ given all. renames_own to given named all)

drops_rows : (rel : Oid) (constraints indexes defaults triggers columns : List Row) → IsOid rel → AreTypedRows constraints → AreTypedRows indexes → AreTypedRows defaults → AreTypedRows triggers → AreTypedRows columns → IsTypedDraft (dropped_table rel constraints indexes defaults triggers columns)
drops_rows rel constraints indexes defaults triggers columns is c i d t a = record {
  changes = every-append IsTypedChange (flat_map dropped_index indexes ++ removing constraints ++ removing (by_oid defaults) ++ removing (by_oid triggers) ++ removing columns) (Delete (keys.Class rel) ∷ [])
      (every-append IsTypedChange (flat_map dropped_index indexes ++ removing constraints ++ removing (by_oid defaults) ++ removing (by_oid triggers)) (removing columns)
      (every-append IsTypedChange (flat_map dropped_index indexes ++ removing constraints ++ removing (by_oid defaults)) (removing (by_oid triggers))
      (every-append IsTypedChange (flat_map dropped_index indexes ++ removing constraints) (removing (by_oid defaults))
      (every-append IsTypedChange (flat_map dropped_index indexes) (removing constraints) (indexes_dropped indexes i) (removing_typed constraints c))
      (removing_typed (by_oid defaults) (by_oid_typed defaults d)))
      (removing_typed (by_oid triggers) (by_oid_typed triggers t)))
      (removing_typed columns a)) (is, tt);
  forced = referred_oids constraints c;
  new = omega arith;
}

drops_last : (opens : List OpenRelation) (rel : Oid) (constraints indexes defaults triggers columns : List Row) → IsOid rel → AreTypedRows constraints → AreTypedRows indexes → AreTypedRows defaults → AreTypedRows triggers → AreTypedRows columns
    → IsTypedPlan (dropping_table opens rel constraints indexes defaults triggers columns)
drops_last opens rel constraints indexes defaults triggers columns is c i d t a =
    locking_all_typed opens (referred constraints ++ flat_map index_of indexes) _ (every-append IsOid (referred constraints) (flat_map index_of indexes) (referred_oids constraints c) (index_oids indexes i)) (drops_rows rel constraints indexes defaults triggers columns is c i d t a)

drops : (opens : List OpenRelation) (name : List ℕ) (rel : Oid) → IsOid rel → IsTypedPlan (drop_table opens name rel)
drops opens name rel is = (
  is,
  λ constraints c. passes_typed (not (list_any (is_of_other rel) constraints)) (errors.Depends name) (reading (scans.Index rel) (drop_indexes opens rel constraints))
      (λ alone. (is, λ indexes i. (is, λ defaults d. (is, λ triggers t. (is, λ columns a. drops_last opens rel constraints indexes defaults triggers columns is c i d t a))))),
)

-- ---- columns

adds : (rel : Oid) (column : List ℕ) (col_type : ColType) (given : List Row) → IsOid rel → IsName column → IsTypedPlan (adding rel column col_type given)
adds rel column col_type given is named = passes_typed (nat_lt (length given) MOST_COLUMNS) _ _ (λ few. forcing_typed _ [] 0 ((is, omega (arith, ltb-true (length given) MOST_COLUMNS few), inl named, new_fits), tt) tt (omega arith))

adds_column : (column : List ℕ) (col_type : ColType) (rel : Oid) → IsName column → IsOid rel → IsTypedPlan (add_column column col_type rel)
adds_column column col_type rel named is = without_column_typed rel column _ is named (is, λ given all. adds rel column col_type given is named)

drops_default : (row : Row) (defaults : List Row) → IsRow row → AreTypedRows defaults → IsTypedPlan (dropping row defaults)
drops_default row defaults is all = forcing_typed (deleting (find (is_default_of (column_number row)) defaults) ++ Replace (as_dropped row) ∷ []) [] 0
    (every-append IsTypedChange (deleting (find (is_default_of (column_number row)) defaults)) (Replace (as_dropped row) ∷ []) (deleting_typed _ (found_each IsRow (is_default_of (column_number row)) defaults all)) (as_dropped_typed row is, tt)) tt (omega arith)

unused : (column : List ℕ) (rel : Oid) (row : Row) (given : List Row) (plan : Plan) → IsTypedPlan plan → IsTypedPlan (if_unused column rel row given plan)
unused column rel row given plan typed = passes_typed (not (list_any (uses_column rel (column_number row)) given)) (errors.ColumnUsed column) plan (λ none. typed)

drops_column : (column : List ℕ) (rel : Oid) → IsName column → IsOid rel → IsTypedPlan (drop_column column rel)
drops_column column rel named is = with_column_typed rel column (drop_found column rel) is named (λ row typed. (
  is,
  λ constraints c. unused column rel row constraints (reading (scans.Index rel) (drop_unindexed column rel row))
      (is, λ indexes i. unused column rel row indexes (reading (scans.AttrDef rel) (dropping row)) (is, λ defaults d. drops_default row defaults typed d)),
))

renames_column : (column to : List ℕ) (rel : Oid) → IsName column → IsName to → IsOid rel → IsTypedPlan (rename_column column to rel)
renames_column column to rel named new is = with_column_typed rel column _ is named (λ row typed. without_column_typed rel to _ is new (forcing_typed _ [] 0 (with_name_typed to row new typed, tt) tt (omega arith)))

sets_word : (word : List ℕ) (rel : Oid) (row : Row) (defaults : List Row) → IsWord word → IsOid rel → IsRow row → AreTypedRows defaults → IsTypedPlan (defaulting word rel row defaults)
sets_word word rel row defaults spelled is typed all = forcing_typed (deleting (find (is_default_of (column_number row)) defaults) ++ Insert (rows.Def first_new rel (column_number row) word) ∷ []) (rel ∷ []) 1
    (every-append IsTypedChange (deleting (find (is_default_of (column_number row)) defaults)) (Insert (rows.Def first_new rel (column_number row) word) ∷ []) (deleting_typed _ (found_each IsRow (is_default_of (column_number row)) defaults all)) ((omega arith, is, number_typed row typed, spelled), tt)) (is, tt) (omega arith)

sets_default : (column word : List ℕ) (rel : Oid) → IsName column → IsWord word → IsOid rel → IsTypedPlan (set_default column word rel)
sets_default column word rel named spelled is = with_column_typed rel column _ is named (λ row typed. (is, λ defaults d. sets_word word rel row defaults spelled is typed d))

sets_stat : (column : List ℕ) (stat : ℤ) (rel : Oid) → IsCommand (commands.SetStatistics column column stat) → IsOid rel → IsTypedPlan (set_statistics column stat rel)
sets_stat column stat rel spelled is = passes_typed (not (int_lt stat (negsuc 0))) (errors.OutOfRange stat) (with_column rel column (targeting stat)) (λ least. with_column_typed rel column (targeting stat) is spelled.1 (λ row typed. forcing_typed _ [] 0 (with_stat_typed (int_min stat most_stat) row (target_fits stat spelled.2) typed, tt) tt (omega arith)))

-- ---- constraints

constraint_is : (name : List ℕ) (rest : Row → Plan) → ((row : Row) → IsRow row → IsTypedPlan (rest row)) → (o : Option Row) → IfSome o IsRow → IsTypedPlan (if_constraint name rest o)
constraint_is name rest typed None is = tt
constraint_is name rest typed (Some row) is = typed row is

no_constraint : (name : List ℕ) (plan : Plan) → IsTypedPlan plan → (o : Option Row) → IsTypedPlan (if_no_constraint name plan o)
no_constraint name plan typed None = typed
no_constraint name plan typed (Some row) = tt

finds_constraint : (rel : Oid) (name : List ℕ) (rest : Row → Plan) → IsOid rel → ((row : Row) → IsRow row → IsTypedPlan (rest row)) → IsTypedPlan (with_constraint rel name rest)
finds_constraint rel name rest is typed = (is, λ given all. constraint_is name rest typed (find (is_own_named rel name) given) (found_each IsRow (is_own_named rel name) given all))

finds_no_constraint : (rel : Oid) (name : List ℕ) (plan : Plan) → IsOid rel → IsTypedPlan plan → IsTypedPlan (without_constraint rel name plan)
finds_no_constraint rel name plan is typed = (is, λ given all. no_constraint name plan typed (find (is_own_named rel name) given))

adds_check : (name text : List ℕ) (valid : Bool) (rel : Oid) → IsName name → IsText text → IsOid rel → IsTypedPlan (add_check name text valid rel)
adds_check name text valid rel named spelled is = finds_no_constraint rel name _ is (forcing_typed _ (rel ∷ []) 1 ((omega arith, is, inl named, spelled), tt) (is, tt) (omega arith))

-- a foreign key of which a line may say so
record IsKeySpelled (key : ForeignKey) : Type 0 where
  constraint : IsName key.constraint
  column : IsName key.column
  refers : IsName key.refers
  ref_column : IsName key.ref_column

refers_to_column : (key : ForeignKey) (rel : Oid) (row : Row) (other : Oid) (kind : Kind) → IsKeySpelled key → IsOid rel → IsRow row → IsOid other → IsTypedPlan (referring_to key rel row other kind)
refers_to_column key rel row other kind spelled is typed also = passes_typed (is_table kind) _ _ (λ table. with_column_typed other key.ref_column _ also spelled.ref_column (λ it there.
    forcing_typed _ (other ∷ []) 1 ((omega arith, is, inl spelled.constraint, (number_typed row typed, also, number_typed it there)), tt) (also, tt) (omega arith)))

adds_foreign : (key : ForeignKey) (rel : Oid) → IsKeySpelled key → IsOid rel → IsTypedPlan (add_foreign key rel)
adds_foreign key rel spelled is = finds_no_constraint rel key.constraint _ is (with_column_typed rel key.column _ is spelled.column (λ row typed. looking_up_typed key.refers ShareRowExclusive (referring_to key rel row) spelled.refers (λ other kind also. refers_to_column key rel row other kind spelled is typed also)))

validates : (rel : Oid) (row : Row) → IsOid rel → IsRow row → IsTypedPlan (validating rel row)
validates rel (rows.Con oid of own false what) is typed = forcing_typed (Replace (rows.Con oid of own true what) ∷ []) (rel ∷ []) 0 (typed, tt) (is, tt) (omega arith)
validates rel (rows.Con oid of own true what) is typed = tt
validates rel (rows.Class oid name kind fill) is typed = tt
validates rel (rows.Att of num name col_type stat live) is typed = tt
validates rel (rows.Def oid of num word) is typed = tt
validates rel (rows.Ind index table state nums) is typed = tt
validates rel (rows.Trg oid of name on) is typed = tt

drops_constraint : (opens : List OpenRelation) (rel : Oid) (row : Row) → IsOid rel → IsRow row → IsTypedPlan (dropping_constraint opens rel row)
drops_constraint opens rel row is typed = locking_all_typed opens (referred_by row) _ (referred_typed row typed) (record { changes = (key_typed row typed, tt); forced = (is, referred_typed row typed); new = omega arith })

-- ---- triggers

trigger_is : (name : List ℕ) (rest : Row → Plan) → ((row : Row) → IsRow row → IsTypedPlan (rest row)) → (o : Option Row) → IfSome o IsRow → IsTypedPlan (if_trigger name rest o)
trigger_is name rest typed None is = tt
trigger_is name rest typed (Some row) is = typed row is

no_trigger : (name : List ℕ) (plan : Plan) → IsTypedPlan plan → (o : Option Row) → IsTypedPlan (if_no_trigger name plan o)
no_trigger name plan typed None = typed
no_trigger name plan typed (Some row) = tt

unless : (t : Bool) (plan : Plan) → IsTypedPlan plan → IsTypedPlan (unless_so t plan)
unless true plan typed = tt
unless false plan typed = typed

switches : (rel : Oid) (on : Bool) (row : Row) → IsOid rel → IsRow row → IsTypedPlan (switching rel on row)
switches rel on (rows.Trg oid of own was) is typed = unless (same_state was on) _ (forcing_typed (Replace (rows.Trg oid of own on) ∷ []) (rel ∷ []) 0 (typed, tt) (is, tt) (omega arith))
switches rel on (rows.Class oid name kind fill) is typed = tt
switches rel on (rows.Att of num name col_type stat live) is typed = tt
switches rel on (rows.Def oid of num word) is typed = tt
switches rel on (rows.Ind index table state nums) is typed = tt
switches rel on (rows.Con oid of own valid what) is typed = tt

sets_trigger : (name : List ℕ) (on : Bool) (rel : Oid) → IsOid rel → IsTypedPlan (set_trigger name on rel)
sets_trigger name on rel is = (is, λ given all. trigger_is name (switching rel on) (λ row typed. switches rel on row is typed) (find (is_trigger name) given) (found_each IsRow (is_trigger name) given all))

creates_trigger : (name : List ℕ) (rel : Oid) → IsName name → IsOid rel → IsTypedPlan (create_trigger name rel)
creates_trigger name rel named is = (is, λ given all. no_trigger name _ (forcing_typed _ (rel ∷ []) 1 ((omega arith, is, inl named), tt) (is, tt) (omega arith)) (find (is_trigger name) given))

-- ---- indexes

adds_index : (name : List ℕ) (rel : Oid) (nums : List ℕ) → IsName name → IsOid rel → 0 < length nums → length nums ≤ 32 → AllByRecursion IsNumber nums → IsTypedPlan (adding_index name rel nums)
adds_index name rel nums named is some few all = forcing_typed _ (rel ∷ []) 1 ((omega arith, inl named, tt), ((omega arith, is, (some, few, all)), tt)) (is, tt) (omega arith)

numbers : (name : List ℕ) (rel : Oid) (columns : List (List ℕ)) (nums : List ℕ) → IsName name → IsOid rel → AllByRecursion IsName columns → 0 < length nums + length columns → length nums + length columns ≤ 32 → AllByRecursion IsNumber nums
    → IsTypedPlan (numbering name rel columns nums)
numbers name rel [] nums named is spelled some few all = adds_index name rel nums named is (omega (arith, some)) (omega (arith, few)) all
numbers name rel (column ∷ columns) nums named is spelled some few all = with_column_typed rel column (numbered_too (numbering name rel columns) nums) is spelled.0 (λ row typed.
    numbers name rel columns (nums ++ column_number row ∷ []) named is spelled.1 (omega (arith, length_push nums (column_number row))) (omega (arith, few, length_push nums (column_number row)))
    (every-append IsNumber nums (column_number row ∷ []) all (number_typed row typed, tt)))

creates_index : (name : List ℕ) (columns : List (List ℕ)) (rel : Oid) → IsName name → AllByRecursion IsName columns → IsOid rel → IsTypedPlan (create_index name columns rel)
creates_index name columns rel named spelled is = passes_typed (is_index_width (length columns)) _ _ (λ width.
    let both = and_parts (nat_le 1 (length columns)) (nat_le (length columns) 32) width in
    numbers name rel columns [] named is spelled (omega (arith, leb-true 1 (length columns) both.0)) (omega (arith, leb-true (length columns) 32 both.1)) tt)

drops_own : (opens : List OpenRelation) (rel : Oid) (given : List Row) → IsOid rel → AreTypedRows given → IsTypedPlan (dropping_index opens rel given)
drops_own opens rel [] is all = tt
drops_own opens rel (rows.Ind index table state nums ∷ more) is all = locking_all_typed opens (table ∷ []) _ (all.0.1, tt) (record { changes = (is, (is, tt)); forced = (all.0.1, tt); new = omega arith })
drops_own opens rel (rows.Class oid own kind fill ∷ more) is all = tt
drops_own opens rel (rows.Att of num own col_type stat live ∷ more) is all = tt
drops_own opens rel (rows.Def oid of num word ∷ more) is all = tt
drops_own opens rel (rows.Con oid of own valid what ∷ more) is all = tt
drops_own opens rel (rows.Trg oid of own on ∷ more) is all = tt

drops_index : (opens : List OpenRelation) (rel : Oid) → IsOid rel → IsTypedPlan (drop_index opens rel)
drops_index opens rel is = (is, λ given all. drops_own opens rel given is all)

-- ---- all commands

pub plan_typed : (opens : List OpenRelation) (command : Command) → IsCommand command → IsTypedPlan (plan_of opens command)
plan_typed opens commands.Begin spelled = tt
plan_typed opens commands.Commit spelled = tt
plan_typed opens commands.Rollback spelled = tt
plan_typed opens (commands.Savepoint name) spelled = tt
plan_typed opens (commands.Release name) spelled = tt
plan_typed opens (commands.RollbackTo name) spelled = tt
plan_typed opens (commands.Show name None) spelled = looking_up_typed name AccessShare (showing None) spelled (λ rel kind is. shows None rel kind is)
plan_typed opens (commands.Show name (Some field)) spelled = looking_up_typed name AccessShare (showing_field name field) spelled (λ rel kind is. shows_field name field rel kind is)
plan_typed opens (commands.Columns name) spelled = looking_up_typed name AccessShare (listing_columns name) spelled (λ rel kind is. lists_columns name rel kind is)
plan_typed opens (commands.Column name column) spelled = looking_up_typed name AccessShare (finding_column name column) spelled.0 (λ rel kind is. finds_told name column rel kind spelled.1 is)
plan_typed opens (commands.Regclass oid) spelled = (omega (arith, spelled), λ given all. omega (arith, spelled))
plan_typed opens (commands.LockTable name mode) spelled = looking_up_typed name mode (locking name) spelled (λ rel kind is. locks_found name rel kind)
plan_typed opens (commands.CreateTable name columns) spelled = creates name columns spelled.0 spelled.1
plan_typed opens (commands.DropTable name) spelled = looking_up_typed name AccessExclusive (altering opens name (drop_table opens name)) spelled (altering_typed opens name (drop_table opens name) (λ rel is. drops opens name rel is))
plan_typed opens (commands.RenameTable name to) spelled = looking_up_typed name AccessExclusive (altering opens name (rename_table to)) spelled.0 (altering_typed opens name (rename_table to) (λ rel is. renames to rel spelled.1 is))
plan_typed opens (commands.AddColumn name column col_type) spelled = looking_up_typed name AccessExclusive (altering opens name (add_column column col_type)) spelled.0 (altering_typed opens name (add_column column col_type) (λ rel is. adds_column column col_type rel spelled.1 is))
plan_typed opens (commands.DropColumn name column) spelled = looking_up_typed name AccessExclusive (altering opens name (drop_column column)) spelled.0 (altering_typed opens name (drop_column column) (λ rel is. drops_column column rel spelled.1 is))
plan_typed opens (commands.RenameColumn name column to) spelled = looking_up_typed name AccessExclusive (altering opens name (rename_column column to)) spelled.0 (altering_typed opens name (rename_column column to) (λ rel is. renames_column column to rel spelled.1 spelled.2 is))
plan_typed opens (commands.SetStatistics name column stat) spelled = looking_up_typed name ShareUpdateExclusive (altering opens name (set_statistics column stat)) spelled.0 (altering_typed opens name (set_statistics column stat) (λ rel is. sets_stat column stat rel (spelled.1, spelled.1, spelled.2) is))
plan_typed opens (commands.SetFillfactor name fill) spelled = looking_up_typed name ShareUpdateExclusive (altering opens name (set_fillfactor fill)) spelled.0 (altering_typed opens name (set_fillfactor fill) (λ rel is. sets_fill fill rel is))
plan_typed opens (commands.OpenRel name) spelled = looking_up_typed name AccessShare keeping spelled (λ rel kind is. (is, λ given all. tt))
plan_typed opens (commands.Peek name field) spelled = peeks name field (latest_open name opens)
plan_typed opens (commands.CloseRel name) spelled = closes name (latest_open name opens)
plan_typed opens (commands.SetDefault name column word) spelled = looking_up_typed name AccessExclusive (altering opens name (set_default column word)) spelled.0 (altering_typed opens name (set_default column word) (λ rel is. sets_default column word rel spelled.1 spelled.2 is))
plan_typed opens (commands.AddCheck name constraint text valid) spelled = looking_up_typed name AccessExclusive (altering opens name (add_check constraint text valid)) spelled.0 (altering_typed opens name (add_check constraint text valid) (λ rel is. adds_check constraint text valid rel spelled.1 spelled.2 is))
plan_typed opens (commands.AddForeign name constraint column refers ref_column valid) spelled = looking_up_typed name ShareRowExclusive (altering opens name (add_foreign (record { constraint = constraint; column = column; refers = refers; ref_column = ref_column; valid = valid }))) spelled.0 (altering_typed opens name (add_foreign (record { constraint = constraint; column = column; refers = refers; ref_column = ref_column; valid = valid })) (λ rel is.
    adds_foreign (record { constraint = constraint; column = column; refers = refers; ref_column = ref_column; valid = valid }) rel (record { constraint = spelled.1; column = spelled.2; refers = spelled.3; ref_column = spelled.4 }) is))
plan_typed opens (commands.ValidateConstraint name constraint) spelled = looking_up_typed name ShareUpdateExclusive (altering opens name (validate_constraint constraint)) spelled.0 (altering_typed opens name (validate_constraint constraint) (λ rel is. finds_constraint rel constraint _ is (λ row typed. validates rel row is typed)))
plan_typed opens (commands.DropConstraint name constraint) spelled = looking_up_typed name AccessExclusive (altering opens name (drop_constraint opens constraint)) spelled.0 (altering_typed opens name (drop_constraint opens constraint) (λ rel is. finds_constraint rel constraint _ is (λ row typed. drops_constraint opens rel row is typed)))
plan_typed opens (commands.SetTrigger name trigger on) spelled = looking_up_typed name ShareRowExclusive (altering opens name (set_trigger trigger on)) spelled.0 (altering_typed opens name (set_trigger trigger on) (λ rel is. sets_trigger trigger on rel is))
plan_typed opens (commands.CreateTrigger name trigger) spelled = looking_up_typed name ShareRowExclusive (altering opens name (create_trigger trigger)) spelled.0 (altering_typed opens name (create_trigger trigger) (λ rel is. creates_trigger trigger rel spelled.1 is))
plan_typed opens (commands.CreateIndex name on_table columns) spelled = looking_up_typed on_table Share (altering opens on_table (create_index name columns)) spelled.1 (altering_typed opens on_table (create_index name columns) (λ rel is. creates_index name columns rel spelled.0 spelled.3 is))
plan_typed opens (commands.DropIndex name) spelled = looking_up_typed name AccessExclusive (altering_index opens name (drop_index opens)) spelled (altering_index_typed opens name (drop_index opens) (λ rel is. drops_index opens rel is))
plan_typed opens (commands.RenameIndex name to) spelled = looking_up_typed name ShareUpdateExclusive (altering_index opens name (rename_table to)) spelled.0 (altering_index_typed opens name (rename_table to) (λ rel is. renames to rel spelled.1 is))
