-- The plans of commands on the triggers of a table.
use Rattle.std.specs.Prelude.{ℕ, Bool, true, false, not, Option, Some, None, List, [], ◌∷◌}
use Rattle.std.specs.List.{find}
use Rattle.std.specs.Str.{bytes_eq}
use Rattle.base_types.specs.declared.scan.Purpose.TheVariants as scans
use Rattle.base_types.specs.declared.row.Row.TheVariants as rows
use Rattle.command_answers.specs.declared.error.CommandError.TheVariants as errors
use Rattle.ddl_effect.specs.declared.told.Told.TheVariants as tells
use Rattle.ddl_effect.specs.Types.{Oid, Row, Insert, Replace}
use Rattle.ddl_effect.specs.Plans.{Plan, Done, Fails}
use Rattle.ddl_effect.specs.Parts.{first_new, reading, forcing}

-- the trigger has this name
abbrev pub is_trigger : List ℕ → Row → Bool
is_trigger name (rows.Trg oid rel own on) = bytes_eq own name
is_trigger name row = false

-- goes on with a trigger, which has to be there
abbrev pub if_trigger : List ℕ → (Row → Plan) → Option Row → Plan
if_trigger name rest None = Fails (errors.NoTrigger name)
if_trigger name rest (Some row) = rest row

-- goes on only where there is no such trigger
abbrev pub if_no_trigger : List ℕ → Plan → Option Row → Plan
if_no_trigger name plan None = plan
if_no_trigger name plan (Some row) = Fails (errors.TriggerExists name)

-- goes on with the trigger of this name, by the rows of the table's triggers
abbrev pub trigger_there : List ℕ → (Row → Plan) → List Row → Plan
trigger_there name rest triggers = if_trigger name rest (find (is_trigger name) triggers)

-- goes on only where the table has no trigger of this name
abbrev pub trigger_free : List ℕ → Plan → List Row → Plan
trigger_free name plan triggers = if_no_trigger name plan (find (is_trigger name) triggers)

-- both are enabled, or neither
abbrev pub same_state : Bool → Bool → Bool
same_state true on = on
same_state false on = not on

-- is done where it is so already
abbrev pub unless_so : Bool → Plan → Plan
unless_so true plan = Done tells.Ok
unless_so false plan = plan

-- `enable trigger` and `disable trigger`, by the row of the trigger
abbrev pub switching : Oid → Bool → Row → Plan
switching rel on (rows.Trg oid of own was) = unless_so (same_state was on) (forcing (Replace (rows.Trg oid of own on) ∷ []) (rel ∷ []) 0)
switching rel on row = Done tells.Ok

-- `enable trigger` and `disable trigger`, once the descriptor is open
abbrev pub set_trigger : List ℕ → Bool → Oid → Plan
set_trigger name on rel = reading (scans.Trigger rel) (trigger_there name (switching rel on))

-- `create trigger`, once its name is free
abbrev pub adding_trigger : List ℕ → Oid → Plan
adding_trigger name rel = forcing (Insert (rows.Trg first_new rel name true) ∷ []) (rel ∷ []) 1

-- `create trigger`, once the descriptor is open
abbrev pub create_trigger : List ℕ → Oid → Plan
create_trigger name rel = reading (scans.Trigger rel) (trigger_free name (adding_trigger name rel))
