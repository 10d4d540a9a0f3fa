-- What a command is about to write by the rows of now, under the locks that it has taken, may be written.
use Rattle.std.proofs.Common.{◌≡◌, ◌∙◌, ℕ, Bool, true, false, Option, Some, None, List, [], ◌∷◌, refl, sym, ap, subst, map, length, nat_le, append-nil}
use Rattle.std.specs.List.{AllByRecursion, enumerate_from}
use Rattle.base_types.specs.Commands.{IsCommand}
use Rattle.base_types.specs.Fields.{has_field}
use Rattle.base_types.specs.Names.{IsName}
use Rattle.base_types.specs.declared.command.Command.TheVariants as commands
use Rattle.base_types.specs.declared.command.NewColumn.{NewColumn}
use Rattle.base_types.specs.declared.dropped.TheConstants.{MOST_COLUMNS}
use Rattle.base_types.specs.declared.mode.Mode.TheVariants.{AccessShare, ShareUpdateExclusive, Share, ShareRowExclusive, AccessExclusive}
use Rattle.base_types.specs.declared.row.Row.TheVariants as rows
use Rattle.base_types.specs.declared.scan.Purpose.TheVariants as scans
use Rattle.command_answers.specs.declared.error.CommandError.TheVariants as errors
use Rattle.ddl_effect.specs.declared.told.Told.TheVariants as tells
use Rattle.ddl_effect.specs.Plans.{Plan, Done, Fails, Absent, Do, Lookup, Open, Search, Read, Lock, Write}
use Rattle.ddl_effect.specs.Effects.{Writes, effect_at, row_found}
use Rattle.ddl_effect.specs.Opens.{latest_open}
use Rattle.ddl_effect.specs.Parts.{if_passes, looking_up, searching, writing, is_table}
use Rattle.ddl_effect.specs.Columns.{add_column, drop_column, rename_column, set_default, set_statistics}
use Rattle.ddl_effect.specs.Constraints.{add_check, add_foreign, validate_constraint, drop_constraint}
use Rattle.ddl_effect.specs.Triggers.{set_trigger, create_trigger}
use Rattle.ddl_effect.specs.Indexes.{create_index, drop_index}
use Rattle.ddl_effect.specs.Tables.{first_twice, if_no_column, new_table, drop_table, rename_table, set_fillfactor}
use Rattle.ddl_effect.specs.Reads.{told_fields, showing, showing_field, keeping, peeking, closing, locking, telling_columns, listing_columns, telling_column, finding_column, regclass_of}
use Rattle.ddl_effect.specs.Commands.{plan_of}
use Rattle.history_model.specs.Drawn.{next_oid}
use Rattle.history_model.specs.Sound.{IsSound}
use Rattle.history_model.specs.Prefixes.{EachEntry}
use Rattle.history_model.specs.Versions.{answer_of}
use Rattle.cacheless.specs.ActsDone.{reached, made_in, opening_by, locks_by, IsHeldOn, WayHolds}
use Rattle.cacheless.specs.Facts.{Facts}
use Rattle.cacheless.specs.Settled.{found_by}
use Rattle.cacheless.specs.TableWrites.{WritesColumns, WritesIndexes}
use Rattle.cacheless.specs.Types.{Oid, Mode, Kind, Field, Row, Purpose, Command, CommandError, OpenRelation, Draft, Entry}
use Rattle.cacheless.proofs.Plans.ActOrder.{goes_by_relation}
use Rattle.cacheless.proofs.Plans.EffectAlong.{GoesByRelation, effect_along}
use Rattle.cacheless.proofs.Plans.MadeAlong.{locks_at, opens_at, locks_of_relations, opens_of_relations, made_before}
use Rattle.cacheless.proofs.Plans.Ways.{NeverWrites}
use Rattle.cacheless.proofs.Written.AlterationsFit.{renamed_column, targeted_column, dropped_column, filled_table, renamed_table, renamed_index, added_column}
use Rattle.cacheless.proofs.Written.ComesTo.{Writer, ComesTo, wrote, passed, table_altered, index_altered}
use Rattle.cacheless.proofs.Written.DraftFits.{WriteFits, Fits, draft_fits}
use Rattle.cacheless.proofs.Written.FurtherFits.{defaulted_column, added_check, added_foreign, validated_constraint, dropped_constraint, switched_trigger, created_trigger, created_index, dropped_index, removed_table}
use Rattle.cacheless.proofs.Written.NewRows.{oid_drawn}
use Rattle.cacheless.proofs.Written.NewTable.{table_alters}
use Rattle.cacheless.proofs.Written.NewTableItems.{table_items, drafted_is}
use Rattle.cacheless.proofs.WholeIndexes.{index_whole}

-- a plan that never writes comes to no write
never_comes : (now : Purpose → List Row) (found : List (Option Oid)) (plan : Plan) (draft : Draft) → NeverWrites plan → effect_at now found plan ≡ Writes draft → ⊥
never_comes now found (Done told) draft never is = cc is
never_comes now found (Fails error) draft never is = cc is
never_comes now found (Absent name) draft never is = cc is
never_comes now found (Do (Write other) rest) draft never is = absurd never
never_comes now [] (Do (Lookup name mode) rest) draft never is = never_comes now [] (rest (now (scans.RelName name))) draft (never (now (scans.RelName name))) is
never_comes now (rel ∷ found) (Do (Lookup name mode) rest) draft never is = never_comes now found (rest (row_found now rel)) draft (never (row_found now rel)) is
never_comes now found (Do (Open rel kind) rest) draft never is = never_comes now found (rest []) draft (never []) is
never_comes now found (Do (Search scan) rest) draft never is = never_comes now found (rest (now scan)) draft (never (now scan)) is
never_comes now found (Do (Read scan) rest) draft never is = never_comes now found (rest (now scan)) draft (never (now scan)) is
never_comes now found (Do (Lock rel mode) rest) draft never is = never_comes now found (rest []) draft (never []) is

-- a lookup after which nothing is written
lookup_never : (name : List ℕ) (mode : Mode) (further : Oid → Kind → Plan) → ((rel : Oid) (kind : Kind) → NeverWrites (further rel kind)) → NeverWrites (looking_up name mode further)
lookup_never name mode further never [] = tt
lookup_never name mode further never (rows.Class rel own kind fill ∷ more) = never rel kind
lookup_never name mode further never (row ∷ more) = tt

passes_never : (passes : Bool) (error : CommandError) (plan : Plan) → NeverWrites plan → NeverWrites (if_passes passes error plan)
passes_never true error plan never = never
passes_never false error plan never = tt

told_never : (column : List ℕ) (given : List Row) → NeverWrites (telling_column column given)
told_never column [] = tt
told_never column (rows.Att rel num own col_type stat live ∷ more) = tt
told_never column (row ∷ more) = tt

peek_never : (name : List ℕ) (field : Option Field) (latest : Option OpenRelation) → NeverWrites (peeking name field latest)
peek_never name field None = tt
peek_never name None (Some o) = tt
peek_never name (Some field) (Some o) = passes_never (has_field o.kind field) (errors.NoField name field) (Done (told_fields (Some field) o.rel o.kind)) tt

close_never : (name : List ℕ) (latest : Option OpenRelation) → NeverWrites (closing name latest)
close_never name None = tt
close_never name (Some o) = tt

show_never : (name : List ℕ) (field : Option Field) (opens : List OpenRelation) → NeverWrites (plan_of opens (commands.Show name field))
show_never name None opens = lookup_never name AccessShare (showing None) (λ rel kind given. tt)
show_never name (Some field) opens = lookup_never name AccessShare (showing_field name field) (λ rel kind. passes_never (has_field kind field) (errors.NoField name field) (showing (Some field) rel kind) (λ given. tt))

-- `create table`
not_twice : (w : Writer) (found : List (Option Oid)) (twice : Option (List ℕ)) (draft : Draft) → ComesTo w found (if_no_column twice (writing draft)) → (twice ≡ None) × ComesTo w found (writing draft)
not_twice w found None draft c = (refl, c)
not_twice w found (Some name) draft c = absurd (cc (c.effect))

created_table : (w : Writer) (c : ℕ) (facts : Facts) (found : List (Option Oid)) (name : List ℕ) (columns : List NewColumn) → IsSound w.history → AllByRecursion (λ column. IsName column.name) columns
    → ComesTo w found (if_passes (nat_le (length columns) MOST_COLUMNS) errors.TooManyColumns (if_no_column (first_twice [] (map (λ column. column.name) columns)) (writing (new_table name columns)))) → Fits w c facts
created_table w c facts found name columns sound spelled comes =
    let few = passed w found (nat_le (length columns) MOST_COLUMNS) errors.TooManyColumns (if_no_column (first_twice [] (map (λ column. column.name) columns)) (writing (new_table name columns))) comes in
    let once = not_twice w found (first_twice [] (map (λ column. column.name) columns)) (new_table name columns) few.1 in
    draft_fits w c facts (new_table name columns) (table_items (oid_drawn w.history) name (enumerate_from 1 columns)) (Some (oid_drawn w.history)) (wrote w found (new_table name columns) once.1) (drafted_is (next_oid w.history) name columns) (λ rel first. λ i. Some (record { 0 = first i }))
    (table_alters w.history w.backend w.opened name columns sound spelled once.0)

-- what is known of the history: it is sound, and its writes keep columns, and indexes whole
record Known (w : Writer) : Type 0 where
  sound : IsSound w.history
  columns : EachEntry WritesColumns w.history
  indexes : EachEntry WritesIndexes w.history

fits_by : (w : Writer) (c : ℕ) (facts : Facts) (opens : List OpenRelation) (command : Command) (found : List (Option Oid)) → Known w → IsCommand command → ComesTo w found (plan_of opens command) → Fits w c facts
fits_by w c facts opens commands.Begin found known spelled comes = absurd (cc (comes.effect))
fits_by w c facts opens commands.Commit found known spelled comes = absurd (cc (comes.effect))
fits_by w c facts opens commands.Rollback found known spelled comes = absurd (cc (comes.effect))
fits_by w c facts opens (commands.Savepoint name) found known spelled comes = absurd (cc (comes.effect))
fits_by w c facts opens (commands.Release name) found known spelled comes = absurd (cc (comes.effect))
fits_by w c facts opens (commands.RollbackTo name) found known spelled comes = absurd (cc (comes.effect))
fits_by w c facts opens (commands.Show name field) found known spelled comes = absurd (never_comes (answer_of w.history w.backend) found (plan_of opens (commands.Show name field)) w.draft (show_never name field opens) comes.effect)
fits_by w c facts opens (commands.Columns name) found known spelled comes = absurd (never_comes (answer_of w.history w.backend) found (plan_of opens (commands.Columns name)) w.draft
    (lookup_never name AccessShare (listing_columns name) (λ rel kind. passes_never (is_table kind) (errors.NotTable name) (searching (scans.AttList rel) telling_columns) (λ given. tt))) comes.effect)
fits_by w c facts opens (commands.Column name column) found known spelled comes = absurd (never_comes (answer_of w.history w.backend) found (plan_of opens (commands.Column name column)) w.draft
    (lookup_never name AccessShare (finding_column name column) (λ rel kind. passes_never (is_table kind) (errors.NotTable name) (searching (scans.AttName rel column) (telling_column column)) (told_never column))) comes.effect)
fits_by w c facts opens (commands.Regclass oid) found known spelled comes = absurd (never_comes (answer_of w.history w.backend) found (regclass_of oid) w.draft (λ given. tt) comes.effect)
fits_by w c facts opens (commands.LockTable name mode) found known spelled comes = absurd (never_comes (answer_of w.history w.backend) found (plan_of opens (commands.LockTable name mode)) w.draft
    (lookup_never name mode (locking name) (λ rel kind. passes_never (is_table kind) (errors.NotTable name) (Done tells.Ok) tt)) comes.effect)
fits_by w c facts opens (commands.OpenRel name) found known spelled comes = absurd (never_comes (answer_of w.history w.backend) found (plan_of opens (commands.OpenRel name)) w.draft (lookup_never name AccessShare keeping (λ rel kind given. tt)) comes.effect)
fits_by w c facts opens (commands.Peek name field) found known spelled comes = absurd (never_comes (answer_of w.history w.backend) found (plan_of opens (commands.Peek name field)) w.draft (peek_never name field (latest_open name opens)) comes.effect)
fits_by w c facts opens (commands.CloseRel name) found known spelled comes = absurd (never_comes (answer_of w.history w.backend) found (plan_of opens (commands.CloseRel name)) w.draft (close_never name (latest_open name opens)) comes.effect)
fits_by w c facts opens (commands.CreateTable name columns) found known spelled comes = created_table w c facts found name columns known.sound spelled.1 comes
fits_by w c facts opens (commands.DropTable name) found known spelled comes = removed_table w c facts opens name known.sound (λ index table state nums there. index_whole w.history w.backend index table state nums known.sound known.indexes there) (table_altered w found name AccessExclusive opens (drop_table opens name) comes)
fits_by w c facts opens (commands.RenameTable name to) found known spelled comes = renamed_table w c facts to known.sound (table_altered w found name AccessExclusive opens (rename_table to) comes)
fits_by w c facts opens (commands.AddColumn name column col_type) found known spelled comes = added_column w c facts column col_type known.sound known.columns spelled.1 (table_altered w found name AccessExclusive opens (add_column column col_type) comes)
fits_by w c facts opens (commands.DropColumn name column) found known spelled comes = dropped_column w c facts column known.sound known.columns (table_altered w found name AccessExclusive opens (drop_column column) comes)
fits_by w c facts opens (commands.RenameColumn name column to) found known spelled comes = renamed_column w c facts column to known.sound spelled.2 (table_altered w found name AccessExclusive opens (rename_column column to) comes)
fits_by w c facts opens (commands.SetDefault name column word) found known spelled comes = defaulted_column w c facts column word known.sound (table_altered w found name AccessExclusive opens (set_default column word) comes)
fits_by w c facts opens (commands.SetStatistics name column stat) found known spelled comes = targeted_column w c facts column stat known.sound known.columns (table_altered w found name ShareUpdateExclusive opens (set_statistics column stat) comes)
fits_by w c facts opens (commands.SetFillfactor name fill) found known spelled comes = filled_table w c facts fill known.sound (table_altered w found name ShareUpdateExclusive opens (set_fillfactor fill) comes)
fits_by w c facts opens (commands.AddCheck name constraint text valid) found known spelled comes = added_check w c facts constraint text valid known.sound (table_altered w found name AccessExclusive opens (add_check constraint text valid) comes)
fits_by w c facts opens (commands.AddForeign name constraint column refers ref_column valid) found known spelled comes =
    added_foreign w c facts (record { constraint = constraint; column = column; refers = refers; ref_column = ref_column; valid = valid }) known.sound
    (table_altered w found name ShareRowExclusive opens (add_foreign (record { constraint = constraint; column = column; refers = refers; ref_column = ref_column; valid = valid })) comes)
fits_by w c facts opens (commands.ValidateConstraint name constraint) found known spelled comes = validated_constraint w c facts constraint known.sound (table_altered w found name ShareUpdateExclusive opens (validate_constraint constraint) comes)
fits_by w c facts opens (commands.DropConstraint name constraint) found known spelled comes = dropped_constraint w c facts opens constraint known.sound (table_altered w found name AccessExclusive opens (drop_constraint opens constraint) comes)
fits_by w c facts opens (commands.SetTrigger name trigger on) found known spelled comes = switched_trigger w c facts trigger on known.sound (table_altered w found name ShareRowExclusive opens (set_trigger trigger on) comes)
fits_by w c facts opens (commands.CreateTrigger name trigger) found known spelled comes = created_trigger w c facts trigger known.sound (table_altered w found name ShareRowExclusive opens (create_trigger trigger) comes)
fits_by w c facts opens (commands.CreateIndex name on_table columns) found known spelled comes = created_index w c facts name columns known.sound (table_altered w found on_table Share opens (create_index name columns) comes)
fits_by w c facts opens (commands.DropIndex name) found known spelled comes = dropped_index w c facts opens known.sound (index_altered w found name AccessExclusive opens (drop_index opens) comes)
fits_by w c facts opens (commands.RenameIndex name to) found known spelled comes = renamed_index w c facts to known.sound (index_altered w found name ShareUpdateExclusive opens (rename_table to) comes)

-- what a command comes to write, by its plan, the rows of now and the locks that it takes
pub fits_at : (history : List Entry) (b c : ℕ) (facts : Facts) (opens : List OpenRelation) (command : Command) (found : List (Option Oid)) (draft : Draft) → IsSound history → EachEntry WritesColumns history → EachEntry WritesIndexes history
    → IsCommand command → effect_at (answer_of history b) found (plan_of opens command) ≡ Writes draft
    → AllByRecursion (IsHeldOn history b) (locks_at (answer_of history b) found (plan_of opens command)) → WriteFits history b c facts (opens_at (answer_of history b) found (plan_of opens command)) draft
fits_at history b c facts opens command found draft sound columns indexes spelled comes held = fits_by w c facts opens command found (record { sound = sound; columns = columns; indexes = indexes }) spelled (record { effect = comes; held = held; read = λ f read. read })
  where
    w : Writer
    w = record { history = history; backend = b; opened = opens_at (answer_of history b) found (plan_of opens command); draft = draft }

-- what a command is about to write, by its way
pub write_fits : (history : List Entry) (b c : ℕ) (facts : Facts) (opens : List OpenRelation) (command : Command) (gave : List (List Row)) (draft : Draft) (rest : List Row → Plan) → IsSound history → EachEntry WritesColumns history → EachEntry WritesIndexes history
    → IsCommand command → WayHolds history b gave (plan_of opens command)
    → reached gave (plan_of opens command) ≡ Do (Write draft) rest → WriteFits history b c facts (made_in opening_by gave (plan_of opens command)) draft
write_fits history b c facts opens command gave draft rest sound columns indexes spelled way on =
    subst (λ opened. WriteFits history b c facts opened draft) (made_before opening_by opens_of_relations now plan gave draft rest goes way.still on)
    (fits_at history b c facts opens command (made_in found_by gave plan) draft sound columns indexes spelled
    (ap (λ l. effect_at now l plan) (sym (append-nil (made_in found_by gave plan))) ∙ effect_along now plan gave [] goes way.still ∙ ap (effect_at now []) on)
    (subst (AllByRecursion (IsHeldOn history b)) (sym (made_before locks_by locks_of_relations now plan gave draft rest goes way.still on)) way.locked))
  where
    plan : Plan
    plan = plan_of opens command

    now : Purpose → List Row
    now = answer_of history b

    goes : GoesByRelation plan
    goes = goes_by_relation opens command
