-- What is left of a command that is on its way, and what its memory of it keeps to.
use Rattle.std.specs.Prelude.{◌≡◌, ℕ, Bool, true, false, Option, Some, None, List, [], ◌∷◌, ◌+◌, ◌-◌, ◌<◌, ◌^◌, length, take, slice_get}
use Rattle.base_types.specs.declared.command.Command.TheVariants as commands
use Rattle.ddl_effect.specs.declared.step.Step.{Step}
use Rattle.ddl_effect.specs.declared.step.Step.TheVariants as steps
use Rattle.ddl_effect.specs.Types.{Row, Command}
use Rattle.ddl_effect.specs.Plans.{Plan, Absent, after_act}
use Rattle.ddl_effect.specs.Commands.{plan_of}
use Rattle.ddl_effect.specs.Replays.{after_all, step_of}
use Rattle.ddl_effect.specs.Taken.{Taken}

-- the plan that is left
abbrev pub plan_left : Taken → Plan
plan_left taken = after_all taken.given (plan_of taken.opens taken.command)

-- the plan that was left before the last act
abbrev pub plan_before : Taken → Plan
plan_before taken = after_all (take (length taken.given - 1) taken.given) (plan_of taken.opens taken.command)

-- the step is an act
abbrev pub is_act : Step → Bool
is_act (steps.Done told) = false
is_act (steps.Fails error) = false
is_act (steps.Absent name) = false
is_act step = true

-- a plan that has come to that no relation has a name is left as it was before
abbrev pub unless_absent : Plan → Plan → Plan → Plan
unless_absent old new (Absent name) = old
unless_absent old new plan = new

-- the plan after these acts; where the last of them found no relation, the plan before it
abbrev pub after_found : List (List Row) → Plan → Plan
after_found [] plan = plan
after_found (rows ∷ given) plan = unless_absent plan (after_found given (after_act rows plan)) (after_act rows plan)

-- the plan that is left, where a lookup that found no relation is made anew
abbrev pub left_again : Taken → Plan
left_again taken = after_found taken.given (plan_of taken.opens taken.command)

-- the step before the last act, or none: then nothing is to be made anew
abbrev pub CameBy : Option Step → Taken → Type 0
CameBy None taken = left_again taken ≡ plan_left taken
CameBy (Some before) taken = (0 < length taken.given) × ((is_act before ≡ true) × (step_of (plan_before taken) ≡ before))

-- the step that is kept is what comes next, and the one before it what came before
pub record IsCourse (taken : Taken) (now : Step) (last : Option Step) : Type 0 where
  pub step : step_of (plan_left taken) ≡ now
  pub before : CameBy last taken

-- more rows than any act gives
abbrev pub most_rows : ℕ
most_rows = 2 ^ 64

-- as many rows as an act gave, or more than it will
abbrev pub rows_by : Option (List Row) → ℕ
rows_by None = most_rows
rows_by (Some rows) = length rows

-- the acts of `drop table` that read its constraints and its indexes, after its lookup and its open
abbrev pub constraints_read : ℕ
constraints_read = 2

abbrev pub indexes_read : ℕ
indexes_read = 3

-- more acts than any other command does: `create index` looks up its table, opens it, searches for at most 32 columns and writes
abbrev pub most_few : ℕ
most_few = 40

-- a command does at most so many acts, by what they gave so far: `drop table` locks the tables to which its constraints refer, and its indexes, and does eight acts beside
abbrev pub acts_by : Command → List (List Row) → ℕ
acts_by (commands.DropTable name) given = rows_by (slice_get given constraints_read) + rows_by (slice_get given indexes_read) + 8
acts_by command given = most_few

-- none once it has ended
abbrev pub acts_at : Step → ℕ → ℕ
acts_at (steps.Done told) count = 0
acts_at (steps.Fails error) count = 0
acts_at (steps.Absent name) count = 0
acts_at step count = count
