-- The plan of each command, one clause a command.
use Rattle.std.specs.Prelude.{ℕ, Some, None, List, ◌==◌, map, filter}
use Rattle.base_types.specs.declared.command.Command.TheVariants as commands
use Rattle.command_answers.specs.declared.error.CommandError.TheVariants as errors
use Rattle.ddl_effect.specs.declared.told.Told.TheVariants as tells
use Rattle.ddl_effect.specs.Types.{AccessShare, ShareUpdateExclusive, Share, ShareRowExclusive, AccessExclusive, Command, CommandError, Scenario, OpenRelation}
use Rattle.ddl_effect.specs.Opens.{latest_open}
use Rattle.ddl_effect.specs.Plans.{Plan, Done}
pub use Rattle.ddl_effect.specs.Parts.{if_passes, found, looking_up, opening, writing, forcing, changing, first_new, is_table, is_index, if_closed, altering, altering_index, locking_further, locking_all, searching, reading, column_there, column_free, with_column, without_column, column_number, deleting, removing}
pub use Rattle.ddl_effect.specs.Reads.{told_fields, showing, showing_field, keeping, peeking, closing, locking, live_column, telling_columns, listing_columns, columns_of, telling_column, finding_column, column_of, regclass_of}
pub use Rattle.ddl_effect.specs.Tables.{first_twice, if_no_column, table_row, new_column, new_table, creating, with_fill, filling, set_fillfactor, with_own_name, renaming_table, rename_table, is_of_other, referred_by, with_relation, referred, index_of, dropped_index, own_oid, oid_before, put_by_oid, by_oid, dropped_table, dropping_table, drop_triggers, drop_defaults, drop_indexes, drop_constraints, drop_table}
pub use Rattle.ddl_effect.specs.Columns.{adding, add_column, name_dropped, as_dropped, is_default_of, dropping, uses_column, if_unused, drop_unindexed, drop_unreferred, drop_found, drop_column, with_name, renaming, rename_column, defaulting, default_found, set_default, most_stat, with_stat, targeting, set_statistics}
pub use Rattle.ddl_effect.specs.Constraints.{is_own_named, if_constraint, if_no_constraint, constraint_there, constraint_free, with_constraint, without_constraint, adding_check, add_check, adding_foreign, referring_to, referring, foreign_named, add_foreign, validating, validate_constraint, dropping_constraint, drop_constraint}
pub use Rattle.ddl_effect.specs.Triggers.{is_trigger, if_trigger, if_no_trigger, trigger_there, trigger_free, same_state, unless_so, switching, set_trigger, adding_trigger, create_trigger}
pub use Rattle.ddl_effect.specs.Indexes.{adding_index, numbered_too, numbering, is_index_width, create_index, dropping_index, drop_index}

-- the commands of a backend, in order
abbrev pub commands_of : Scenario → ℕ → List Command
commands_of scenario b = map (λ p. p.command) (filter (λ p. p.backend == b) scenario.commands)

-- what each command does, by the relations that the session has open
abbrev pub plan_of : List OpenRelation → Command → Plan
plan_of opens commands.Begin = Done tells.Ok
plan_of opens commands.Commit = Done tells.Commit
plan_of opens commands.Rollback = Done tells.Ok
plan_of opens (commands.Savepoint name) = Done tells.Ok
plan_of opens (commands.Release name) = Done tells.Ok
plan_of opens (commands.RollbackTo name) = Done tells.Ok
plan_of opens (commands.Show name None) = looking_up name AccessShare (showing None)
plan_of opens (commands.Show name (Some field)) = looking_up name AccessShare (showing_field name field)
plan_of opens (commands.Columns name) = columns_of name
plan_of opens (commands.Column name column) = column_of name column
plan_of opens (commands.Regclass oid) = regclass_of oid
plan_of opens (commands.LockTable name mode) = looking_up name mode (locking name)
plan_of opens (commands.CreateTable name columns) = creating name columns
plan_of opens (commands.DropTable name) = looking_up name AccessExclusive (altering opens name (drop_table opens name))
plan_of opens (commands.RenameTable name to) = looking_up name AccessExclusive (altering opens name (rename_table to))
plan_of opens (commands.AddColumn name column col_type) = looking_up name AccessExclusive (altering opens name (add_column column col_type))
plan_of opens (commands.DropColumn name column) = looking_up name AccessExclusive (altering opens name (drop_column column))
plan_of opens (commands.RenameColumn name column to) = looking_up name AccessExclusive (altering opens name (rename_column column to))
plan_of opens (commands.SetStatistics name column stat) = looking_up name ShareUpdateExclusive (altering opens name (set_statistics column stat))
plan_of opens (commands.SetFillfactor name fill) = looking_up name ShareUpdateExclusive (altering opens name (set_fillfactor fill))
plan_of opens (commands.OpenRel name) = looking_up name AccessShare keeping
plan_of opens (commands.Peek name field) = peeking name field (latest_open name opens)
plan_of opens (commands.CloseRel name) = closing name (latest_open name opens)
plan_of opens (commands.SetDefault name column word) = looking_up name AccessExclusive (altering opens name (set_default column word))
plan_of opens (commands.AddCheck name constraint text valid) = looking_up name AccessExclusive (altering opens name (add_check constraint text valid))
plan_of opens (commands.AddForeign name constraint column refers ref_column valid) = looking_up name ShareRowExclusive (altering opens name (add_foreign (record { constraint = constraint; column = column; refers = refers; ref_column = ref_column; valid = valid })))
plan_of opens (commands.ValidateConstraint name constraint) = looking_up name ShareUpdateExclusive (altering opens name (validate_constraint constraint))
plan_of opens (commands.DropConstraint name constraint) = looking_up name AccessExclusive (altering opens name (drop_constraint opens constraint))
plan_of opens (commands.SetTrigger name trigger on) = looking_up name ShareRowExclusive (altering opens name (set_trigger trigger on))
plan_of opens (commands.CreateTrigger name trigger) = looking_up name ShareRowExclusive (altering opens name (create_trigger trigger))
plan_of opens (commands.CreateIndex name on_table columns) = looking_up on_table Share (altering opens on_table (create_index name columns))
plan_of opens (commands.DropIndex name) = looking_up name AccessExclusive (altering_index opens name (drop_index opens))
plan_of opens (commands.RenameIndex name to) = looking_up name ShareUpdateExclusive (altering_index opens name (rename_table to))

-- the error of a command where no relation has a name that it looked up, by the entry of the scan that said so: `drop index` misses an index
abbrev pub absent_error : Command → List ℕ → ℕ → CommandError
absent_error (commands.DropIndex own) name at = errors.NoIndex name at
absent_error command name at = errors.NoRelation name at
