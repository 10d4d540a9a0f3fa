-- Alterations, what is left of a command, and what that wants.
use Rattle.std.specs.Prelude.{ℕ, Bool, true, false, List, ◌+◌, ◌-◌, ◌*◌, length}
use Rattle.base_types.specs.declared.command.Command.TheVariants as commands
use Rattle.ddl_effect.specs.declared.alteration.Altered.{Altered}
use Rattle.ddl_effect.specs.declared.alteration.Alteration.TheVariants as alterations
use Rattle.ddl_effect.specs.declared.exec.Exec.{Exec}
use Rattle.ddl_effect.specs.declared.exec.Exec.TheVariants as stages
use Rattle.ddl_effect.specs.declared.step.Step.{Step}
use Rattle.ddl_effect.specs.declared.step.Step.TheVariants as steps
use Rattle.ddl_effect.specs.declared.told.Told.TheVariants as tells
use Rattle.ddl_effect.specs.declared.want.Want.TheVariants as wants
use Rattle.ddl_effect.specs.Types.{Oid, Kind, Command, Mode, ShareUpdateExclusive, ShareRowExclusive, AccessExclusive, Table, Index, OpenRelation, Alteration, Told, Want}
use Rattle.ddl_effect.specs.Plans.{Act, Lookup, Open, Search, Read, Lock, Write, Plan, Done, Fails, Absent, Do, told_rests_on}
use Rattle.ddl_effect.specs.Parts.{looking_up, altering, altering_index}
use Rattle.ddl_effect.specs.Tables.{set_fillfactor, rename_table}
use Rattle.ddl_effect.specs.Columns.{add_column, drop_column, rename_column, set_statistics, set_default}
use Rattle.ddl_effect.specs.Constraints.{add_check, add_foreign, validate_constraint, drop_constraint}
use Rattle.ddl_effect.specs.Triggers.{set_trigger, create_trigger}
use Rattle.ddl_effect.specs.Indexes.{drop_index}
use Rattle.ddl_effect.specs.Replays.{step_of}
use Rattle.ddl_effect.specs.Courses.{plan_left, left_again, most_rows, acts_by, acts_at}

-- the command alters a table or an index that it finds first
abbrev pub alters_table : Command → Bool
alters_table (commands.AddColumn name column col_type) = true
alters_table (commands.DropColumn name column) = true
alters_table (commands.RenameColumn name column to) = true
alters_table (commands.SetDefault name column word) = true
alters_table (commands.SetStatistics name column stat) = true
alters_table (commands.SetFillfactor name fill) = true
alters_table (commands.RenameTable name to) = true
alters_table (commands.AddCheck name constraint text valid) = true
alters_table (commands.AddForeign name constraint column refers ref_column valid) = true
alters_table (commands.ValidateConstraint name constraint) = true
alters_table (commands.DropConstraint name constraint) = true
alters_table (commands.SetTrigger name trigger on) = true
alters_table (commands.CreateTrigger name trigger) = true
alters_table (commands.DropIndex name) = true
alters_table (commands.RenameIndex name to) = true
alters_table command = false

-- the mode in which an alteration locks its relation
abbrev pub mode_of : Alteration → Mode
mode_of (alterations.SetStatistics column stat) = ShareUpdateExclusive
mode_of (alterations.SetFillfactor fill) = ShareUpdateExclusive
mode_of (alterations.ValidateConstraint constraint) = ShareUpdateExclusive
mode_of (alterations.RenameIndex to) = ShareUpdateExclusive
mode_of (alterations.AddForeign key) = ShareRowExclusive
mode_of (alterations.SetTrigger trigger on) = ShareRowExclusive
mode_of (alterations.CreateTrigger trigger) = ShareRowExclusive
mode_of alteration = AccessExclusive

-- the kind that its relation has to be of
abbrev pub kind_of : Alteration → Kind
kind_of alterations.DropIndex = Index
kind_of (alterations.RenameIndex to) = Index
kind_of alteration = Table

-- an alteration, once the descriptor is open
abbrev pub altered : List OpenRelation → Alteration → Oid → Plan
altered opens (alterations.AddColumn column col_type) rel = add_column column col_type rel
altered opens (alterations.DropColumn column) rel = drop_column column rel
altered opens (alterations.RenameColumn column to) rel = rename_column column to rel
altered opens (alterations.SetDefault column word) rel = set_default column word rel
altered opens (alterations.SetStatistics column stat) rel = set_statistics column stat rel
altered opens (alterations.SetFillfactor fill) rel = set_fillfactor fill rel
altered opens (alterations.RenameTable to) rel = rename_table to rel
altered opens (alterations.AddCheck constraint text valid) rel = add_check constraint text valid rel
altered opens (alterations.AddForeign key) rel = add_foreign key rel
altered opens (alterations.ValidateConstraint constraint) rel = validate_constraint constraint rel
altered opens (alterations.DropConstraint constraint) rel = drop_constraint opens constraint rel
altered opens (alterations.SetTrigger trigger on) rel = set_trigger trigger on rel
altered opens (alterations.CreateTrigger trigger) rel = create_trigger trigger rel
altered opens alterations.DropIndex rel = drop_index opens rel
altered opens (alterations.RenameIndex to) rel = rename_table to rel

-- an alteration of a relation of this kind, after its lookup
abbrev pub altering_kind : Kind → List OpenRelation → List ℕ → (Oid → Plan) → Oid → Kind → Plan
altering_kind Table = altering
altering_kind Index = altering_index

-- the plan of an alteration
abbrev pub alteration_plan : List OpenRelation → Altered → Plan
alteration_plan opens a = looking_up a.name (mode_of a.alteration) (altering_kind (kind_of a.alteration) opens a.name (altered opens a.alteration))

-- the plan that is left, by whichever relations are open
abbrev pub plan_at : List OpenRelation → Exec → Plan
plan_at opens (stages.Done told) = Done told
plan_at opens (stages.Failing error) = Fails error
plan_at opens (stages.Going taken) = plan_left taken

-- the same, where a lookup that found no relation is made anew
abbrev pub plan_again : List OpenRelation → Exec → Plan
plan_again opens (stages.Going taken) = left_again taken
plan_again opens exec = plan_at opens exec

-- what an act wants
abbrev pub want_of_act : Act → Want
want_of_act (Lookup name mode) = wants.Lookup name mode
want_of_act (Open rel kind) = wants.Open rel kind
want_of_act (Search scan) = wants.Search scan
want_of_act (Read scan) = wants.Read scan
want_of_act (Lock rel mode) = wants.Lock rel mode
want_of_act (Write draft) = wants.Write

-- what a plan wants next
abbrev pub want_of : Plan → Want
want_of (Done told) = wants.Done (told_rests_on told)
want_of (Fails error) = wants.Fails error
want_of (Absent name) = wants.Absent name
want_of (Do act rest) = want_of_act act

-- what a step wants
abbrev pub want_at : Step → Want
want_at (steps.Done told) = wants.Done (told_rests_on told)
want_at (steps.Fails error) = wants.Fails error
want_at (steps.Absent name) = wants.Absent name
want_at (steps.Lookup name mode) = wants.Lookup name mode
want_at (steps.Open rel kind) = wants.Open rel kind
want_at (steps.Search scan) = wants.Search scan
want_at (steps.Read scan) = wants.Read scan
want_at (steps.Lock rel mode) = wants.Lock rel mode
want_at (steps.Write draft) = wants.Write

-- what a plan answers that is done
abbrev pub told_of : Plan → Told
told_of (Done told) = told
told_of plan = tells.Ok

-- at most so many acts are left
abbrev pub acts_left : Exec → ℕ
acts_left (stages.Going taken) = acts_at (step_of (plan_left taken)) (acts_by taken.command taken.given - length taken.given)
acts_left exec = 0

-- at most so many are left of a command that begins
abbrev pub most_acts : ℕ
most_acts = 2 * most_rows + 8
