-- The writes of commands put no relation's row but that of a relation whose descriptor they have opened.
use Rattle.std.proofs.Common.{◌≡◌, ◌∙◌, ◌&&◌, ◌||◌, ℕ, Bool, true, false, Option, Some, None, List, [], ◌∷◌, ◌++◌, refl, ap, map, nat_le, nat_lt, not, int_lt, negsuc, pos, length}
use Rattle.std.specs.Prelude.{⊤, ℤ, ◌+◌}
use Rattle.std.specs.Int.{int_min}
use Rattle.std.specs.List.{AllByRecursion, enumerate_from, find, flat_map, list_any}
use Rattle.std.proofs.Math.Bool.{or-true}
use Rattle.std.proofs.lemmas.Bool.{eq-eqb}
use Rattle.std.proofs.lemmas.List.Folds.{list_any-append}
use Rattle.base_types.specs.Fields.{has_field}
use Rattle.base_types.specs.RowKeys.{key_of}
use Rattle.base_types.specs.Scans.{same_oid, selects}
use Rattle.base_types.specs.declared.change.Change.{Change}
use Rattle.base_types.specs.declared.change.Change.TheVariants.{Insert, Replace, Delete}
use Rattle.base_types.specs.declared.command.Command.TheVariants as commands
use Rattle.base_types.specs.declared.command.NewColumn.{NewColumn}
use Rattle.base_types.specs.declared.dropped.TheConstants.{MOST_COLUMNS}
use Rattle.base_types.specs.declared.kind.Kind.TheVariants.{Table, Index}
use Rattle.base_types.specs.declared.mode.Mode.TheVariants.{AccessShare, Share, ShareRowExclusive}
use Rattle.base_types.specs.declared.row.Row.TheVariants as rows
use Rattle.base_types.specs.declared.row_key.RowKey.TheVariants as keys
use Rattle.base_types.specs.declared.scan.Purpose.TheVariants as scans
use Rattle.command_answers.specs.declared.error.CommandError.TheVariants as errors
use Rattle.ddl_effect.specs.declared.alteration.Alteration.{Alteration}
use Rattle.ddl_effect.specs.declared.alteration.Alteration.TheVariants as alterations
use Rattle.ddl_effect.specs.declared.told.Told.TheVariants as tells
use Rattle.txn_blocks.specs.Blocks.{Blocks, refused_by}
use Rattle.ddl_effect.specs.Opens.{latest_open, has_open}
use Rattle.ddl_effect.specs.Plans.{Plan, Done, Do}
use Rattle.ddl_effect.specs.Parts.{found, looking_up, if_passes, writing, opening, searching, is_table, is_index, if_closed, altering, altering_index, locking_all, column_there, with_column, column_free, reading, changing, deleting, removing, column_number, first_new}
use Rattle.ddl_effect.specs.Reads.{showing, showing_field, keeping, locking, listing_columns, finding_column, telling_columns, telling_column, told_fields, peeking, closing}
use Rattle.ddl_effect.specs.Columns.{adding, as_dropped, is_default_of, dropping, uses_column, drop_unindexed, drop_found, default_found, with_name, renaming, with_stat, most_stat, targeting}
use Rattle.ddl_effect.specs.Constraints.{is_own_named, if_constraint, if_no_constraint, adding_check, adding_foreign, referring_to, referring, foreign_named, validating, dropping_constraint}
use Rattle.ddl_effect.specs.Triggers.{is_trigger, if_trigger, if_no_trigger, same_state, unless_so, switching, adding_trigger}
use Rattle.ddl_effect.specs.Indexes.{numbered_too, numbering, is_index_width, create_index, dropping_index}
use Rattle.ddl_effect.specs.Tables.{if_no_column, first_twice, new_column, new_table, with_own_name, renaming_table, with_fill, filling, is_of_other, referred_by, referred, index_of, dropped_index, by_oid, dropped_table, drop_table, drop_indexes}
use Rattle.ddl_effect.specs.declared.foreign_key.ForeignKey.{ForeignKey}
use Rattle.ddl_effect.specs.Commands.{plan_of}
use Rattle.ddl_effect.specs.Stages.{alteration_plan, altering_kind, kind_of, mode_of, altered}
use Rattle.cacheless.specs.Types.{Oid, Mode, AccessExclusive, Kind, Field, Row, Purpose, Command, CommandError, OpenRelation, Draft, Opening}
use Rattle.history_model.proofs.Asking.{oid_eq}
use Rattle.history_model.proofs.Every.{every-append}
use Rattle.cacheless.specs.Puts.{is_opened, PutOpened, AreGivenBy, PutsOpened}
use Rattle.cacheless.specs.Session.{outcome_of, is_settled, plan_admitted, plan_first}
use Rattle.cacheless.proofs.Written.DraftFits.{none_drawn}

puts_if_passes : (opened : List Opening) (passes : Bool) (error : CommandError) (plan : Plan) → PutsOpened opened plan → PutsOpened opened (if_passes passes error plan)
puts_if_passes opened true error plan puts = puts
puts_if_passes opened false error plan puts = tt

puts_found : (opened : List Opening) (name : List ℕ) (rest : Oid → Kind → Plan) → ((rel : Oid) (kind : Kind) → PutsOpened opened (rest rel kind)) → (given : List Row) → PutsOpened opened (found name rest given)
puts_found opened name rest puts [] = tt
puts_found opened name rest puts (rows.Class oid own kind fill ∷ more) = puts oid kind
puts_found opened name rest puts (row ∷ more) = tt

puts_looking : (opened : List Opening) (name : List ℕ) (mode : Mode) (rest : Oid → Kind → Plan) → ((other : List Opening) (rel : Oid) (kind : Kind) → PutsOpened other (rest rel kind)) → PutsOpened opened (looking_up name mode rest)
puts_looking opened name mode rest puts = λ given other. puts_found other name rest (puts other) given

-- a plan that has come out writes nothing
pub puts_out : (opened : List Opening) (plan : Plan) → is_settled (outcome_of plan) ≡ true → PutsOpened opened plan
puts_out opened (Do act rest) out = absurd (cc)
puts_out opened plan out = tt

-- a write that puts no relation's row, or one of an open descriptor
puts_writing : (opened : List Opening) (draft : Draft) → AllByRecursion (PutOpened opened draft.new_oids) draft.changes → PutsOpened opened (writing draft)
puts_writing opened draft all = (all, λ given. tt)

puts_inserting : (opened : List Opening) (row : Row) → PutsOpened opened (changing (Insert row ∷ []))
puts_inserting opened row = ((tt, tt), λ given. tt)

puts_replacing : (opened : List Opening) (deleted : Option Row) (row : Row) → PutOpened opened 0 (Replace row) → PutsOpened opened (changing (deleting deleted ++ Replace row ∷ []))
puts_replacing opened None row puts = ((puts, tt), λ given. tt)
puts_replacing opened (Some old) row puts = ((tt, (puts, tt)), λ given. tt)

-- a row that a scan of a column gives is a column's
abbrev pub IsColumnRow : Row → Type 0
IsColumnRow (rows.Att rel num own col_type stat live) = ⊤
IsColumnRow row = ⊥

column_row : (rel : Oid) (name : List ℕ) (row : Row) → selects (scans.AttName rel name) row ≡ true → IsColumnRow row
column_row rel name (rows.Att of num own col_type stat live) asked = tt
column_row rel name row asked = absurd (cc)

puts_dropped : (opened : List Opening) (row : Row) → IsColumnRow row → PutOpened opened 0 (Replace (as_dropped row))
puts_dropped opened (rows.Att rel num own col_type stat live) is = tt
puts_dropped opened row is = absurd is

puts_named : (opened : List Opening) (to : List ℕ) (row : Row) → IsColumnRow row → PutOpened opened 0 (Replace (with_name to row))
puts_named opened to (rows.Att rel num own col_type stat live) is = tt
puts_named opened to row is = absurd is

puts_targeted : (opened : List Opening) (stat : ℤ) (row : Row) → IsColumnRow row → PutOpened opened 0 (Replace (with_stat stat row))
puts_targeted opened stat (rows.Att rel num own col_type old live) is = tt
puts_targeted opened stat row is = absurd is

-- the row that the scan of an open relation's row gives is that relation's
puts_filled : (opened : List Opening) (rel : Oid) (fill : ℕ) (row : Row) → is_opened opened rel ≡ true → selects (scans.Class rel) row ≡ true → PutOpened opened 0 (Replace (with_fill fill row))
puts_filled opened rel fill (rows.Class oid own kind old) opens asked = (ap (is_opened opened) (oid_eq oid rel asked) ∙ opens, λ next. none_drawn next oid)
puts_filled opened rel fill row opens asked = absurd (cc)

puts_there : (opened : List Opening) (scan : Purpose) (column : List ℕ) (rest : Row → Plan) → ((row : Row) → selects scan row ≡ true → PutsOpened opened (rest row)) → (given : List Row) → AreGivenBy scan given → PutsOpened opened (column_there column rest given)
puts_there opened scan column rest puts [] asked = tt
puts_there opened scan column rest puts (row ∷ more) asked = puts row asked.0

puts_free : (opened : List Opening) (column : List ℕ) (plan : Plan) → PutsOpened opened plan → (given : List Row) → PutsOpened opened (column_free column plan given)
puts_free opened column plan puts [] = puts
puts_free opened column plan puts (row ∷ more) = tt

puts_filling : (opened : List Opening) (rel : Oid) (fill : ℕ) → is_opened opened rel ≡ true → (given : List Row) → AreGivenBy (scans.Class rel) given → PutsOpened opened (filling fill given)
puts_filling opened rel fill opens [] asked = tt
puts_filling opened rel fill opens (row ∷ more) asked = puts_replacing opened None (with_fill fill row) (puts_filled opened rel fill row opens asked.0)

puts_renamed : (opened : List Opening) (rel : Oid) (to : List ℕ) (row : Row) → is_opened opened rel ≡ true → selects (scans.Class rel) row ≡ true → PutOpened opened 0 (Replace (with_own_name to row))
puts_renamed opened rel to (rows.Class oid own kind fill) opens asked = (ap (is_opened opened) (oid_eq oid rel asked) ∙ opens, λ next. none_drawn next oid)
puts_renamed opened rel to row opens asked = absurd (cc)

puts_renaming : (opened : List Opening) (rel : Oid) (to : List ℕ) → is_opened opened rel ≡ true → (given : List Row) → AreGivenBy (scans.Class rel) given → PutsOpened opened (renaming_table to given)
puts_renaming opened rel to opens [] asked = tt
puts_renaming opened rel to opens (row ∷ more) asked = puts_replacing opened None (with_own_name to row) (puts_renamed opened rel to row opens asked.0)

-- a relation is altered only where it isn't open
puts_closed : (opened : List Opening) (opens : List OpenRelation) (rel : Oid) (plan : Plan) → PutsOpened opened plan → PutsOpened opened (if_closed opens rel plan)
puts_closed opened opens rel plan puts = puts_if_passes opened (not (has_open rel opens)) (errors.InUse rel) plan puts

-- after further locks it writes
puts_locking : (opened : List Opening) (opens : List OpenRelation) (rels : List Oid) (draft : Draft) → AllByRecursion (PutOpened opened draft.new_oids) draft.changes → PutsOpened opened (locking_all opens rels draft)
puts_locking opened opens [] draft all = puts_writing opened draft all
puts_locking opened opens (rel ∷ rels) draft all = λ given. puts_closed opened opens rel (locking_all opens rels draft) (puts_locking opened opens rels draft all)

-- a column goes where nothing uses it
puts_unused : (opened : List Opening) (column : List ℕ) (rel : Oid) (row : Row) → IsColumnRow row → PutsOpened opened (drop_found column rel row)
puts_unused opened column rel row is = λ constraints all. puts_if_passes opened (not (list_any (uses_column rel (column_number row)) constraints)) (errors.ColumnUsed column) (reading (scans.Index rel) (drop_unindexed column rel row))
    (λ indexes also. puts_if_passes opened (not (list_any (uses_column rel (column_number row)) indexes)) (errors.ColumnUsed column) (reading (scans.AttrDef rel) (dropping row))
    (λ defaults more. puts_replacing opened (find (is_default_of (column_number row)) defaults) (as_dropped row) (puts_dropped opened row is)))

-- a default takes the place of another
puts_default : (opened : List Opening) (word : List ℕ) (rel : Oid) (num : ℕ) (old : Option Row) → AllByRecursion (PutOpened opened 1) (deleting old ++ Insert (rows.Def first_new rel num word) ∷ [])
puts_default opened word rel num None = (tt, tt)
puts_default opened word rel num (Some row) = (tt, (tt, tt))

-- constraints
puts_no_constraint : (opened : List Opening) (name : List ℕ) (plan : Plan) (o : Option Row) → PutsOpened opened plan → PutsOpened opened (if_no_constraint name plan o)
puts_no_constraint opened name plan None puts = puts
puts_no_constraint opened name plan (Some row) puts = tt

puts_constraint : (opened : List Opening) (name : List ℕ) (further : Row → Plan) (o : Option Row) → ((row : Row) → PutsOpened opened (further row)) → PutsOpened opened (if_constraint name further o)
puts_constraint opened name further None puts = tt
puts_constraint opened name further (Some row) puts = puts row

puts_referring : (opened : List Opening) (key : ForeignKey) (rel : Oid) (row : Row) → PutsOpened opened (referring key rel row)
puts_referring opened key rel row = puts_looking opened key.refers ShareRowExclusive (referring_to key rel row)
    (λ now other kind. puts_if_passes now (is_table kind) (errors.NotTable key.refers) (with_column other key.ref_column (adding_foreign key rel row other))
    (puts_there now (scans.AttName other key.ref_column) key.ref_column (adding_foreign key rel row other) (λ there asked. ((tt, tt), λ given. tt))))

puts_foreign : (opened : List Opening) (key : ForeignKey) (rel : Oid) → PutsOpened opened (foreign_named key rel)
puts_foreign opened key rel = puts_there opened (scans.AttName rel key.column) key.column (referring key rel) (λ row asked. puts_referring opened key rel row)

puts_validating : (opened : List Opening) (rel : Oid) (row : Row) → PutsOpened opened (validating rel row)
puts_validating opened rel (rows.Con oid of own false what) = ((tt, tt), λ given. tt)
puts_validating opened rel (rows.Con oid of own true what) = tt
puts_validating opened rel row = tt

-- triggers
puts_no_trigger : (opened : List Opening) (name : List ℕ) (plan : Plan) (o : Option Row) → PutsOpened opened plan → PutsOpened opened (if_no_trigger name plan o)
puts_no_trigger opened name plan None puts = puts
puts_no_trigger opened name plan (Some row) puts = tt

puts_trigger : (opened : List Opening) (name : List ℕ) (further : Row → Plan) (o : Option Row) → ((row : Row) → PutsOpened opened (further row)) → PutsOpened opened (if_trigger name further o)
puts_trigger opened name further None puts = tt
puts_trigger opened name further (Some row) puts = puts row

puts_unless : (opened : List Opening) (so : Bool) (plan : Plan) → PutsOpened opened plan → PutsOpened opened (unless_so so plan)
puts_unless opened true plan puts = tt
puts_unless opened false plan puts = puts

puts_switching : (opened : List Opening) (rel : Oid) (on : Bool) (row : Row) → PutsOpened opened (switching rel on row)
puts_switching opened rel on (rows.Trg oid of own was) = puts_unless opened (same_state was on) (writing (record { changes = Replace (rows.Trg oid of own on) ∷ []; forced = rel ∷ []; new_oids = 0 })) ((tt, tt), λ given. tt)
puts_switching opened rel on row = tt

-- indexes
puts_numbering : (opened : List Opening) (name : List ℕ) (rel : Oid) (columns : List (List ℕ)) (nums : List ℕ) → PutsOpened opened (numbering name rel columns nums)
puts_numbering opened name rel [] nums = ((tt, (tt, tt)), λ given. tt)
puts_numbering opened name rel (column ∷ columns) nums = puts_there opened (scans.AttName rel column) column (numbered_too (numbering name rel columns) nums) (λ row asked. puts_numbering opened name rel columns (nums ++ column_number row ∷ []))

puts_creating_index : (opened : List Opening) (name : List ℕ) (columns : List (List ℕ)) (rel : Oid) → PutsOpened opened (create_index name columns rel)
puts_creating_index opened name columns rel = puts_if_passes opened (is_index_width (length columns)) errors.TooManyColumns (numbering name rel columns []) (puts_numbering opened name rel columns [])

puts_dropping_index : (opened : List Opening) (opens : List OpenRelation) (rel : Oid) (given : List Row) → PutsOpened opened (dropping_index opens rel given)
puts_dropping_index opened opens rel [] = tt
puts_dropping_index opened opens rel (rows.Ind index table state nums ∷ more) = puts_locking opened opens (table ∷ []) (record { changes = Delete (keys.Ind rel) ∷ Delete (keys.Class rel) ∷ []; forced = table ∷ []; new_oids = 0 }) (tt, (tt, tt))
puts_dropping_index opened opens rel (row ∷ more) = tt

-- whole tables
puts_tables : (opened : List Opening) (rel : Oid) (constraints indexes defaults triggers columns : List Row) → AllByRecursion (PutOpened opened 0) (dropped_table rel constraints indexes defaults triggers columns).changes
puts_tables opened rel constraints indexes defaults triggers columns = all_put (flat_map dropped_index indexes ++ removing constraints ++ removing (by_oid defaults) ++ removing (by_oid triggers) ++ removing columns) (Delete (keys.Class rel) ∷ [])
    (all_put (flat_map dropped_index indexes ++ removing constraints ++ removing (by_oid defaults) ++ removing (by_oid triggers)) (removing columns)
    (all_put (flat_map dropped_index indexes ++ removing constraints ++ removing (by_oid defaults)) (removing (by_oid triggers))
    (all_put (flat_map dropped_index indexes ++ removing constraints) (removing (by_oid defaults))
    (all_put (flat_map dropped_index indexes) (removing constraints) (of_indexes indexes) (removed constraints)) (removed (by_oid defaults))) (removed (by_oid triggers))) (removed columns)) (tt, tt)
  where
    all_put : (xs ys : List Change) → AllByRecursion (PutOpened opened 0) xs → AllByRecursion (PutOpened opened 0) ys → AllByRecursion (PutOpened opened 0) (xs ++ ys)
    all_put xs ys one two = every-append (PutOpened opened 0) xs ys one two

    removed : (given : List Row) → AllByRecursion (PutOpened opened 0) (removing given)
    removed [] = tt
    removed (row ∷ given) = (tt, removed given)

    one : (row : Row) → AllByRecursion (PutOpened opened 0) (dropped_index row)
    one (rows.Ind index table state nums) = (tt, (tt, tt))
    one row = tt

    of_indexes : (given : List Row) → AllByRecursion (PutOpened opened 0) (flat_map dropped_index given)
    of_indexes [] = tt
    of_indexes (row ∷ given) = every-append (PutOpened opened 0) (dropped_index row) (flat_map dropped_index given) (one row) (of_indexes given)

puts_dropping : (opened : List Opening) (opens : List OpenRelation) (name : List ℕ) (rel : Oid) → PutsOpened opened (drop_table opens name rel)
puts_dropping opened opens name rel = λ constraints all. puts_if_passes opened (not (list_any (is_of_other rel) constraints)) (errors.Depends name) (reading (scans.Index rel) (drop_indexes opens rel constraints))
    (λ indexes asked. λ defaults also. λ triggers more. λ columns last. puts_locking opened opens (referred constraints ++ flat_map index_of indexes) (dropped_table rel constraints indexes defaults triggers columns) (puts_tables opened rel constraints indexes defaults triggers columns))

-- an alteration, once the descriptor is open
puts_altered : (opened : List Opening) (opens : List OpenRelation) (alteration : Alteration) (rel : Oid) → is_opened opened rel ≡ true → PutsOpened opened (altered opens alteration rel)
puts_altered opened opens (alterations.RenameTable to) rel is = puts_renaming opened rel to is
puts_altered opened opens (alterations.RenameIndex to) rel is = puts_renaming opened rel to is
puts_altered opened opens (alterations.AddColumn column col_type) rel is = λ given asked. puts_free opened column (reading (scans.Attribute rel) (adding rel column col_type))
    (λ columns all. puts_if_passes opened (nat_lt (length columns) MOST_COLUMNS) errors.TooManyColumns (changing (Insert (rows.Att rel (length columns + 1) column col_type (negsuc 0) true) ∷ [])) (puts_inserting opened (rows.Att rel (length columns + 1) column col_type (negsuc 0) true))) given
puts_altered opened opens (alterations.DropColumn column) rel is = puts_there opened (scans.AttName rel column) column (drop_found column rel) (λ row asked. puts_unused opened column rel row (column_row rel column row asked))
puts_altered opened opens (alterations.RenameColumn column to) rel is = puts_there opened (scans.AttName rel column) column (renaming to rel)
    (λ row asked. λ given all. puts_free opened to (changing (Replace (with_name to row) ∷ [])) (puts_replacing opened None (with_name to row) (puts_named opened to row (column_row rel column row asked))) given)
puts_altered opened opens (alterations.SetDefault column word) rel is = puts_there opened (scans.AttName rel column) column (default_found word rel)
    (λ row asked. λ defaults all. puts_writing opened (record { changes = deleting (find (is_default_of (column_number row)) defaults) ++ Insert (rows.Def first_new rel (column_number row) word) ∷ []; forced = rel ∷ []; new_oids = 1 })
    (puts_default opened word rel (column_number row) (find (is_default_of (column_number row)) defaults)))
puts_altered opened opens (alterations.SetStatistics column stat) rel is = puts_if_passes opened (not (int_lt stat (negsuc 0))) (errors.OutOfRange stat) (with_column rel column (targeting stat))
    (puts_there opened (scans.AttName rel column) column (targeting stat) (λ row asked. puts_replacing opened None (with_stat (int_min stat most_stat) row) (puts_targeted opened (int_min stat most_stat) row (column_row rel column row asked))))
puts_altered opened opens (alterations.SetFillfactor fill) rel is = puts_if_passes opened (nat_le 10 fill && nat_le fill 100) (errors.OutOfRange (pos fill)) (reading (scans.Class rel) (filling fill)) (puts_filling opened rel fill is)
puts_altered opened opens (alterations.AddCheck constraint text valid) rel is = λ constraints all. puts_no_constraint opened constraint (adding_check constraint text valid rel) (find (is_own_named rel constraint) constraints) ((tt, tt), λ given. tt)
puts_altered opened opens (alterations.AddForeign key) rel is = λ constraints all. puts_no_constraint opened key.constraint (foreign_named key rel) (find (is_own_named rel key.constraint) constraints) (puts_foreign opened key rel)
puts_altered opened opens (alterations.ValidateConstraint constraint) rel is = λ constraints all. puts_constraint opened constraint (validating rel) (find (is_own_named rel constraint) constraints) (puts_validating opened rel)
puts_altered opened opens (alterations.DropConstraint constraint) rel is = λ constraints all. puts_constraint opened constraint (dropping_constraint opens rel) (find (is_own_named rel constraint) constraints)
    (λ row. puts_locking opened opens (referred_by row) (record { changes = Delete (key_of row) ∷ []; forced = rel ∷ referred_by row; new_oids = 0 }) (tt, tt))
puts_altered opened opens (alterations.SetTrigger trigger on) rel is = λ triggers all. puts_trigger opened trigger (switching rel on) (find (is_trigger trigger) triggers) (puts_switching opened rel on)
puts_altered opened opens (alterations.CreateTrigger trigger) rel is = λ triggers all. puts_no_trigger opened trigger (adding_trigger trigger rel) (find (is_trigger trigger) triggers) ((tt, tt), λ given. tt)
puts_altered opened opens alterations.DropIndex rel is = λ given all. puts_dropping_index opened opens rel given

opened_last : (opened : List Opening) (rel : Oid) (kind : Kind) → is_opened (opened ++ record { rel = rel; kind = kind } ∷ []) rel ≡ true
opened_last opened rel kind = list_any-append (λ o. same_oid o.rel rel) opened (record { rel = rel; kind = kind } ∷ []) ∙ ap (λ t. is_opened opened rel || (t || false)) (eq-eqb rel.0 rel.0 refl) ∙ or-true (is_opened opened rel)

-- an alteration of a table or of an index, after its lookup
puts_table : (opened : List Opening) (opens : List OpenRelation) (name : List ℕ) (further : Oid → Plan) (rel : Oid) (kind : Kind) → PutsOpened (opened ++ record { rel = rel; kind = kind } ∷ []) (further rel) → PutsOpened opened (altering opens name further rel kind)
puts_table opened opens name further rel kind puts = puts_if_passes opened (is_table kind) (errors.NotTable name) (if_closed opens rel (opening rel kind (further rel))) (puts_closed opened opens rel (opening rel kind (further rel)) (λ given. puts))

puts_index_found : (opened : List Opening) (opens : List OpenRelation) (name : List ℕ) (further : Oid → Plan) (rel : Oid) (kind : Kind) → PutsOpened (opened ++ record { rel = rel; kind = kind } ∷ []) (further rel) → PutsOpened opened (altering_index opens name further rel kind)
puts_index_found opened opens name further rel kind puts = puts_if_passes opened (is_index kind) (errors.NotIndex name) (if_closed opens rel (opening rel kind (further rel))) (puts_closed opened opens rel (opening rel kind (further rel)) (λ given. puts))

puts_kind : (of : Kind) (opened : List Opening) (opens : List OpenRelation) (name : List ℕ) (alteration : Alteration) (rel : Oid) (kind : Kind) → PutsOpened opened (altering_kind of opens name (altered opens alteration) rel kind)
puts_kind Table opened opens name alteration rel kind = puts_table opened opens name (altered opens alteration) rel kind (puts_altered (opened ++ record { rel = rel; kind = kind } ∷ []) opens alteration rel (opened_last opened rel kind))
puts_kind Index opened opens name alteration rel kind = puts_index_found opened opens name (altered opens alteration) rel kind (puts_altered (opened ++ record { rel = rel; kind = kind } ∷ []) opens alteration rel (opened_last opened rel kind))

-- a command that finds a relation first
puts_told : (opened : List Opening) (column : List ℕ) (given : List Row) → PutsOpened opened (telling_column column given)
puts_told opened column [] = tt
puts_told opened column (rows.Att rel num own col_type stat live ∷ more) = tt
puts_told opened column (row ∷ more) = tt

puts_finding : (opened : List Opening) (opens : List OpenRelation) (name : List ℕ) (alteration : Alteration) → PutsOpened opened (alteration_plan opens (record { name = name; alteration = alteration }))
puts_finding opened opens name alteration = puts_looking opened name (mode_of alteration) (altering_kind (kind_of alteration) opens name (altered opens alteration)) (λ other. puts_kind (kind_of alteration) other opens name alteration)

-- and a command at its beginning
puts_columns : (opened : List Opening) (columns : List (ℕ × NewColumn)) → AllByRecursion (PutOpened opened 1) (map new_column columns)
puts_columns opened [] = tt
puts_columns opened ((num, column) ∷ columns) = (tt, puts_columns opened columns)

puts_creating : (opened : List Opening) (name : List ℕ) (columns : List NewColumn) (passes : Bool) (twice : Option (List ℕ)) → PutsOpened opened (if_passes passes errors.TooManyColumns (if_no_column twice (writing (new_table name columns))))
puts_creating opened name columns false twice = tt
puts_creating opened name columns true (Some column) = tt
puts_creating opened name columns true None = ((tt, puts_columns opened (enumerate_from 1 columns)), λ given. tt)

puts_peeking : (opened : List Opening) (name : List ℕ) (field : Option Field) (latest : Option OpenRelation) → PutsOpened opened (peeking name field latest)
puts_peeking opened name field None = tt
puts_peeking opened name None (Some o) = tt
puts_peeking opened name (Some field) (Some o) = puts_if_passes opened (has_field o.kind field) (errors.NoField name field) (Done (told_fields (Some field) o.rel o.kind)) tt

puts_closing : (opened : List Opening) (name : List ℕ) (latest : Option OpenRelation) → PutsOpened opened (closing name latest)
puts_closing opened name None = tt
puts_closing opened name (Some o) = tt

puts_plan : (opened : List Opening) (opens : List OpenRelation) (command : Command) → PutsOpened opened (plan_of opens command)
puts_plan opened opens commands.Begin = tt
puts_plan opened opens commands.Commit = tt
puts_plan opened opens commands.Rollback = tt
puts_plan opened opens (commands.Savepoint name) = tt
puts_plan opened opens (commands.Release name) = tt
puts_plan opened opens (commands.RollbackTo name) = tt
puts_plan opened opens (commands.Show name None) = puts_looking opened name AccessShare (showing None) (λ other rel kind. λ given. tt)
puts_plan opened opens (commands.Show name (Some field)) = puts_looking opened name AccessShare (showing_field name field) (λ other rel kind. puts_if_passes other (has_field kind field) (errors.NoField name field) (showing (Some field) rel kind) (λ given. tt))
puts_plan opened opens (commands.Columns name) = puts_looking opened name AccessShare (listing_columns name) (λ other rel kind. puts_if_passes other (is_table kind) (errors.NotTable name) (searching (scans.AttList rel) telling_columns) (λ given asked. tt))
puts_plan opened opens (commands.Column name column) = puts_looking opened name AccessShare (finding_column name column) (λ other rel kind. puts_if_passes other (is_table kind) (errors.NotTable name) (searching (scans.AttName rel column) (telling_column column)) (λ given asked. puts_told other column given))
puts_plan opened opens (commands.Regclass oid) = λ given asked. tt
puts_plan opened opens (commands.LockTable name mode) = puts_looking opened name mode (locking name) (λ other rel kind. puts_if_passes other (is_table kind) (errors.NotTable name) (Done tells.Ok) tt)
puts_plan opened opens (commands.CreateTable name columns) = puts_creating opened name columns (nat_le (length columns) MOST_COLUMNS) (first_twice [] (map (λ c. c.name) columns))
puts_plan opened opens (commands.DropTable name) = puts_looking opened name AccessExclusive (altering opens name (drop_table opens name)) (λ other rel kind. puts_table other opens name (drop_table opens name) rel kind (puts_dropping (other ++ record { rel = rel; kind = kind } ∷ []) opens name rel))
puts_plan opened opens (commands.RenameTable name to) = puts_finding opened opens name (alterations.RenameTable to)
puts_plan opened opens (commands.AddColumn name column col_type) = puts_finding opened opens name (alterations.AddColumn column col_type)
puts_plan opened opens (commands.DropColumn name column) = puts_finding opened opens name (alterations.DropColumn column)
puts_plan opened opens (commands.RenameColumn name column to) = puts_finding opened opens name (alterations.RenameColumn column to)
puts_plan opened opens (commands.SetDefault name column word) = puts_finding opened opens name (alterations.SetDefault column word)
puts_plan opened opens (commands.SetStatistics name column stat) = puts_finding opened opens name (alterations.SetStatistics column stat)
puts_plan opened opens (commands.SetFillfactor name fill) = puts_finding opened opens name (alterations.SetFillfactor fill)
puts_plan opened opens (commands.AddCheck name constraint text valid) = puts_finding opened opens name (alterations.AddCheck constraint text valid)
puts_plan opened opens (commands.AddForeign name constraint column refers ref_column valid) = puts_finding opened opens name (alterations.AddForeign (record { constraint = constraint; column = column; refers = refers; ref_column = ref_column; valid = valid }))
puts_plan opened opens (commands.ValidateConstraint name constraint) = puts_finding opened opens name (alterations.ValidateConstraint constraint)
puts_plan opened opens (commands.DropConstraint name constraint) = puts_finding opened opens name (alterations.DropConstraint constraint)
puts_plan opened opens (commands.SetTrigger name trigger on) = puts_finding opened opens name (alterations.SetTrigger trigger on)
puts_plan opened opens (commands.CreateTrigger name trigger) = puts_finding opened opens name (alterations.CreateTrigger trigger)
puts_plan opened opens (commands.CreateIndex name on_table columns) = puts_looking opened on_table Share (altering opens on_table (create_index name columns)) (λ other rel kind. puts_table other opens on_table (create_index name columns) rel kind (puts_creating_index (other ++ record { rel = rel; kind = kind } ∷ []) name columns rel))
puts_plan opened opens (commands.DropIndex name) = puts_finding opened opens name alterations.DropIndex
puts_plan opened opens (commands.RenameIndex name to) = puts_finding opened opens name (alterations.RenameIndex to)
puts_plan opened opens (commands.OpenRel name) = puts_looking opened name AccessShare keeping (λ other rel kind. λ given. tt)
puts_plan opened opens (commands.Peek name field) = puts_peeking opened name field (latest_open name opens)
puts_plan opened opens (commands.CloseRel name) = puts_closing opened name (latest_open name opens)

pub puts_first : (opened : List Opening) (opens : List OpenRelation) (blocks : Blocks) (o : Option Command) → PutsOpened opened (plan_first blocks opens o)
puts_first opened opens blocks None = tt
puts_first opened opens blocks (Some command) = by_blocks (refused_by blocks command)
  where
    by_blocks : (error : Option CommandError) → PutsOpened opened (plan_admitted opens error command)
    by_blocks None = puts_plan opened opens command
    by_blocks (Some error) = tt
