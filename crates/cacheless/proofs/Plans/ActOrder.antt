-- The plan of each command is one under locks.
use Rattle.std.proofs.Common.{◌≡◌, ◌∙◌, ◌+◌, ℕ, ℤ, Bool, true, false, Option, Some, None, List, [], ◌∷◌, ◌&&◌, inl, inr, Contains, refl, sym, ap, map, length, nat_le, nat_lt, not, int_lt, negsuc, pos, arith}
use Rattle.std.specs.List.{filter_map, cons_option}
use Rattle.base_types.specs.Fields.{has_field}
use Rattle.base_types.specs.declared.change.Change.{Change}
use Rattle.base_types.specs.declared.change.Change.TheVariants.{Insert, Replace}
use Rattle.base_types.specs.declared.col_type.ColType.{ColType}
use Rattle.base_types.specs.declared.command.Command.TheVariants as commands
use Rattle.base_types.specs.declared.command.NewColumn.{NewColumn}
use Rattle.base_types.specs.declared.dropped.TheConstants.{MOST_COLUMNS}
use Rattle.base_types.specs.declared.kind.Kind.TheVariants.{Table, Index}
use Rattle.base_types.specs.declared.mode.Mode.TheVariants.{AccessShare, ShareUpdateExclusive, Share, ShareRowExclusive}
use Rattle.base_types.specs.declared.row.Row.TheVariants as rows
use Rattle.base_types.specs.declared.scan.Purpose.TheVariants as scans
use Rattle.command_answers.specs.declared.error.CommandError.TheVariants as errors
use Rattle.ddl_effect.specs.declared.told.Told.TheVariants as tells
use Rattle.ddl_effect.specs.Plans.{Done}
use Rattle.ddl_effect.specs.Commands.{plan_of, if_passes, if_no_column, first_twice, writing, showing, showing_field, told_fields, keeping, peeking, closing, is_table, locking, new_table, drop_table, renaming_table, rename_table, with_column, changing, reading, adding, add_column, drop_column, with_name, renaming, rename_column, targeting, set_statistics, filling, set_fillfactor, set_default, add_check, add_foreign, validate_constraint, drop_constraint, set_trigger, create_trigger, create_index, drop_index, live_column, listing_columns, telling_column, finding_column}
use Rattle.ddl_effect.specs.Opens.{latest_open}
use Rattle.history_model.proofs.FixedRows.{fixed}
use Rattle.cacheless.specs.Types.{Oid, AccessExclusive, Kind, Field, Row, Command, OpenRelation, Draft, Opening}
use Rattle.cacheless.proofs.Plans.EffectAlong.{GoesByRelation}
use Rattle.cacheless.proofs.Plans.Formers.{on_found, on_opened, of_one, f_passes, f_looking, f_opening, f_writing, f_column, f_no_column, f_reading, f_altering}
use Rattle.cacheless.proofs.Plans.FurtherOrder.{drop_table_follows, drop_column_follows, set_default_follows, add_check_follows, add_foreign_follows, validate_follows, drop_constraint_follows, set_trigger_follows, create_trigger_follows, create_index_follows, drop_index_follows, rename_index_follows, f_altering_index}
use Rattle.cacheless.proofs.Plans.UnderLocks.{at_first, with_rows, Follows, FollowsOrder, goes_order}

-- the draft of `create table`
pub record IsTableDraft (draft : Draft) : Type 0 where
  pub name : List ℕ
  pub columns : List NewColumn
  pub is : draft ≡ new_table name columns

-- the draft of these changes alone, which draws no oid and forces no message
abbrev pub rows_draft : List Change → Draft
rows_draft changes = record { changes = changes; forced = []; new_oids = 0 }

-- a draft of changes alone
pub record IsRowsDraft (draft : Draft) : Type 0 where
  pub changes : List Change
  pub is : draft ≡ rows_draft changes

-- what is told of columns no weak mode may change
live_fixed : (row : Row) → live_column (fixed row) ≡ live_column row
live_fixed (rows.Class rel own kind fill) = refl
live_fixed (rows.Att rel num own col_type stat true) = refl
live_fixed (rows.Att rel num own col_type stat false) = refl
live_fixed row = refl

columns_fixed : (given : List Row) → filter_map live_column given ≡ filter_map live_column (map fixed given)
columns_fixed [] = refl
columns_fixed (row ∷ given) = ap (λ o. cons_option o (filter_map live_column given)) (sym (live_fixed row)) ∙ ap (cons_option (live_column (fixed row))) (columns_fixed given)

column_fixed : (column : List ℕ) (given : List Row) → telling_column column given ≡ telling_column column (map fixed given)
column_fixed column [] = refl
column_fixed column (rows.Att rel num own col_type stat live ∷ more) = refl
column_fixed column (rows.Class rel own kind fill ∷ more) = refl
column_fixed column (row ∷ more) = refl

column_told : (rel : Oid) (column : List ℕ) (given : List Row) → Follows (on_found rel Table AccessShare) (telling_column column given)
column_told rel column [] = tt
column_told rel column (rows.Att of num own col_type stat live ∷ more) = tt
column_told rel column (row ∷ more) = tt

listing_follows : (name : List ℕ) (rel : Oid) (kind : Kind) → Follows (on_found rel kind AccessShare) (listing_columns name rel kind)
listing_follows name rel Table = (inr (inr (inl (inr refl), λ given. ap (λ columns. Done (tells.Columns columns)) (columns_fixed given))), λ given. tt, refl)
listing_follows name rel Index = tt

finding_follows : (name column : List ℕ) (rel : Oid) (kind : Kind) → Follows (on_found rel kind AccessShare) (finding_column name column rel kind)
finding_follows name column rel Table = (inr (inr (inl (inl (column, refl)), column_fixed column)), column_told rel column, refl)
finding_follows name column rel Index = tt

-- what is shown is open
one_open : (o : Opening) → Contains (o ∷ []) o
one_open o = (0, omega arith, refl)

showing_follows : (rel : Oid) (kind : Kind) → Follows (on_found rel kind AccessShare) (showing None rel kind)
showing_follows rel kind = f_opening (on_found rel kind AccessShare) rel kind (Done (tells.Relation rel kind)) (inl refl) (one_open (record { rel = rel; kind = kind }))

field_follows : (name : List ℕ) (field : Field) (rel : Oid) (kind : Kind) → Follows (on_found rel kind AccessShare) (showing_field name field rel kind)
field_follows name field rel kind = by_test (has_field kind field) refl
  where
    by_test : (t : Bool) → has_field kind field ≡ t → Follows (on_found rel kind AccessShare) (if_passes t (errors.NoField name field) (showing (Some field) rel kind))
    by_test true has = f_opening (on_found rel kind AccessShare) rel kind (Done (tells.Field rel kind field)) (inl refl) (one_open (record { rel = rel; kind = kind }), has)
    by_test false has = tt

order_creating : (passes : Bool) (twice : Option (List ℕ)) (draft : Draft) → FollowsOrder (if_passes passes errors.TooManyColumns (if_no_column twice (writing draft)))
order_creating false twice draft = tt
order_creating true None draft = f_writing at_first draft tt
order_creating true (Some column) draft = tt

-- the alterations, once the descriptor is open; that a write follows is so whatever it changes
changing_follows : (rel : Oid) (changes : List Change) → Follows (on_opened rel Table AccessExclusive) (changing changes)
changing_follows rel changes = f_writing (on_opened rel Table AccessExclusive) (rows_draft changes) (inl (refl, refl), tt)

renaming_table_follows : (rel : Oid) (to : List ℕ) (given : List Row) → Follows (with_rows given (on_opened rel Table AccessExclusive)) (renaming_table to given)
renaming_table_follows rel to [] = tt
renaming_table_follows rel to (row ∷ more) = changing_follows rel []

rename_table_follows : (to : List ℕ) (rel : Oid) → Follows (on_opened rel Table AccessExclusive) (rename_table to rel)
rename_table_follows to rel = f_reading (on_opened rel Table AccessExclusive) (scans.Class rel) (renaming_table to) (λ row. refl) (of_one rel Table (scans.Class rel) (0, omega arith, refl)) (inl (refl, refl)) (renaming_table_follows rel to)

adding_follows : (rel : Oid) (column : List ℕ) (col_type : ColType) (columns : List Row) → Follows (with_rows columns (on_opened rel Table AccessExclusive)) (adding rel column col_type columns)
adding_follows rel column col_type columns = f_passes (with_rows columns (on_opened rel Table AccessExclusive)) (nat_lt (length columns) MOST_COLUMNS) errors.TooManyColumns (changing (Insert (rows.Att rel (length columns + 1) column col_type (negsuc 0) true) ∷ [])) (changing_follows rel [])

add_column_follows : (column : List ℕ) (col_type : ColType) (rel : Oid) → Follows (on_opened rel Table AccessExclusive) (add_column column col_type rel)
add_column_follows column col_type rel = f_no_column (on_opened rel Table AccessExclusive) rel column (reading (scans.Attribute rel) (adding rel column col_type)) (inl (refl, refl))
    (f_reading (on_opened rel Table AccessExclusive) (scans.Attribute rel) (adding rel column col_type) (λ row. refl) (of_one rel Table (scans.Attribute rel) (1, omega arith, refl)) (inl (refl, refl)) (adding_follows rel column col_type))

rename_column_follows : (column to : List ℕ) (rel : Oid) → Follows (on_opened rel Table AccessExclusive) (rename_column column to rel)
rename_column_follows column to rel = f_column (on_opened rel Table AccessExclusive) rel column (renaming to rel) (inl (refl, refl))
    (λ row. f_no_column (on_opened rel Table AccessExclusive) rel to (changing (Replace (with_name to row) ∷ [])) (inl (refl, refl)) (changing_follows rel []))

weakly_follows : (rel : Oid) (changes : List Change) → Follows (on_opened rel Table ShareUpdateExclusive) (changing changes)
weakly_follows rel changes = f_writing (on_opened rel Table ShareUpdateExclusive) (rows_draft changes) (inl (refl, refl), tt)

set_statistics_follows : (column : List ℕ) (stat : ℤ) (rel : Oid) → Follows (on_opened rel Table ShareUpdateExclusive) (set_statistics column stat rel)
set_statistics_follows column stat rel = f_passes (on_opened rel Table ShareUpdateExclusive) (not (int_lt stat (negsuc 0))) (errors.OutOfRange stat) (with_column rel column (targeting stat))
    (f_column (on_opened rel Table ShareUpdateExclusive) rel column (targeting stat) (inl (refl, refl)) (λ row. weakly_follows rel []))

filling_follows : (rel : Oid) (fill : ℕ) (given : List Row) → Follows (with_rows given (on_opened rel Table ShareUpdateExclusive)) (filling fill given)
filling_follows rel fill [] = tt
filling_follows rel fill (row ∷ more) = weakly_follows rel []

set_fillfactor_follows : (fill : ℕ) (rel : Oid) → Follows (on_opened rel Table ShareUpdateExclusive) (set_fillfactor fill rel)
set_fillfactor_follows fill rel = f_passes (on_opened rel Table ShareUpdateExclusive) (nat_le 10 fill && nat_le fill 100) (errors.OutOfRange (pos fill)) (reading (scans.Class rel) (filling fill))
    (f_reading (on_opened rel Table ShareUpdateExclusive) (scans.Class rel) (filling fill) (λ row. refl) (of_one rel Table (scans.Class rel) (0, omega arith, refl)) (inl (refl, refl)) (filling_follows rel fill))

order_peeking : (name : List ℕ) (field : Option Field) (latest : Option OpenRelation) → FollowsOrder (peeking name field latest)
order_peeking name field None = tt
order_peeking name None (Some o) = tt
order_peeking name (Some field) (Some o) = by_test (has_field o.kind field)
  where
    by_test : (t : Bool) → FollowsOrder (if_passes t (errors.NoField name field) (Done (told_fields (Some field) o.rel o.kind)))
    by_test true = tt
    by_test false = tt

order_closing : (name : List ℕ) (latest : Option OpenRelation) → FollowsOrder (closing name latest)
order_closing name None = tt
order_closing name (Some o) = tt

-- the plan of each command that has one is such: a line a command
pub follows_order : (opens : List OpenRelation) (command : Command) → FollowsOrder (plan_of opens command)
follows_order opens commands.Begin = tt
follows_order opens commands.Commit = tt
follows_order opens commands.Rollback = tt
follows_order opens (commands.Savepoint name) = tt
follows_order opens (commands.Release name) = tt
follows_order opens (commands.RollbackTo name) = tt
follows_order opens (commands.Show name None) = f_looking at_first name AccessShare (showing None) showing_follows
follows_order opens (commands.Show name (Some field)) = f_looking at_first name AccessShare (showing_field name field) (field_follows name field)
follows_order opens (commands.Columns name) = f_looking at_first name AccessShare (listing_columns name) (listing_follows name)
follows_order opens (commands.Column name column) = f_looking at_first name AccessShare (finding_column name column) (finding_follows name column)
follows_order opens (commands.Regclass oid) = (inl (λ given. refl), λ given. tt, refl)
follows_order opens (commands.LockTable name mode) = f_looking at_first name mode (locking name) (λ rel kind. f_passes (on_found rel kind mode) (is_table kind) (errors.NotTable name) (Done tells.Ok) tt)
follows_order opens (commands.CreateTable name columns) = order_creating (nat_le (length columns) MOST_COLUMNS) (first_twice [] (map (λ (c : NewColumn). c.name) columns)) (new_table name columns)
follows_order opens (commands.DropTable name) = f_altering opens name AccessExclusive (drop_table opens name) (drop_table_follows opens name)
follows_order opens (commands.RenameTable name to) = f_altering opens name AccessExclusive (rename_table to) (rename_table_follows to)
follows_order opens (commands.AddColumn name column col_type) = f_altering opens name AccessExclusive (add_column column col_type) (add_column_follows column col_type)
follows_order opens (commands.DropColumn name column) = f_altering opens name AccessExclusive (drop_column column) (drop_column_follows column)
follows_order opens (commands.RenameColumn name column to) = f_altering opens name AccessExclusive (rename_column column to) (rename_column_follows column to)
follows_order opens (commands.SetStatistics name column stat) = f_altering opens name ShareUpdateExclusive (set_statistics column stat) (set_statistics_follows column stat)
follows_order opens (commands.SetFillfactor name fill) = f_altering opens name ShareUpdateExclusive (set_fillfactor fill) (set_fillfactor_follows fill)
follows_order opens (commands.OpenRel name) = f_looking at_first name AccessShare keeping (λ rel kind. f_opening (on_found rel kind AccessShare) rel kind (Done tells.Ok) (inl refl) tt)
follows_order opens (commands.Peek name field) = order_peeking name field (latest_open name opens)
follows_order opens (commands.CloseRel name) = order_closing name (latest_open name opens)
follows_order opens (commands.SetDefault name column word) = f_altering opens name AccessExclusive (set_default column word) (set_default_follows column word)
follows_order opens (commands.AddCheck name constraint text valid) = f_altering opens name AccessExclusive (add_check constraint text valid) (add_check_follows constraint text valid)
follows_order opens (commands.AddForeign name constraint column refers ref_column valid) = f_altering opens name ShareRowExclusive (add_foreign (record { constraint = constraint; column = column; refers = refers; ref_column = ref_column; valid = valid })) (add_foreign_follows (record { constraint = constraint; column = column; refers = refers; ref_column = ref_column; valid = valid }))
follows_order opens (commands.ValidateConstraint name constraint) = f_altering opens name ShareUpdateExclusive (validate_constraint constraint) (validate_follows constraint)
follows_order opens (commands.DropConstraint name constraint) = f_altering opens name AccessExclusive (drop_constraint opens constraint) (drop_constraint_follows opens constraint)
follows_order opens (commands.SetTrigger name trigger on) = f_altering opens name ShareRowExclusive (set_trigger trigger on) (set_trigger_follows trigger on)
follows_order opens (commands.CreateTrigger name trigger) = f_altering opens name ShareRowExclusive (create_trigger trigger) (create_trigger_follows trigger)
follows_order opens (commands.CreateIndex name table columns) = f_altering opens table Share (create_index name columns) (create_index_follows name columns)
follows_order opens (commands.DropIndex name) = f_altering_index opens name AccessExclusive (drop_index opens) (drop_index_follows opens)
follows_order opens (commands.RenameIndex name to) = f_altering_index opens name ShareUpdateExclusive (rename_table to) (rename_index_follows to)

-- so it goes on by relations alone
pub goes_by_relation : (opens : List OpenRelation) (command : Command) → GoesByRelation (plan_of opens command)
goes_by_relation opens command = goes_order (plan_of opens command) (follows_order opens command)
