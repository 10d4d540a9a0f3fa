-- What a backend does without an entry, by what the code holds.
use Rattle.std.specs.Prelude.{◌≡◌, ℕ, Bool, true, false, not, Option, Some, None, List, [], ◌∷◌, ◌&&◌, ◌||◌, ◌+◌, ◌-◌, ◌*◌, is_some, slice_get, length}
use Rattle.std.specs.List.{cons_option}
use Rattle.std.specs.Option.{option_map, option_map_or}
use Rattle.ddl_effect.specs.Plans.{Plan, Act}
use Rattle.ddl_effect.specs.Stages.{plan_at, told_of, acts_left, most_acts}
use Rattle.ddl_effect.specs.declared.want.Want.{Want}
use Rattle.ddl_effect.specs.declared.want.Want.TheVariants as wants
use Rattle.cacheless.specs.Types.{Mode, Row, Command, Line, Opening}
use Rattle.cacheless.specs.declared.progress.Progress.{Progress}
use Rattle.cacheless.specs.declared.silent.Silent.{Silent}
use Rattle.cacheless.specs.declared.silent.Silent.TheVariants as silents
use Rattle.cacheless.specs.Ends.{End, Ends}
use Rattle.cacheless.specs.Settled.{gives_left, is_finished_in, has_accepted_in, looked_up_in, gives_in}
use Rattle.cacheless.specs.Owed.{is_free}
use Rattle.cacheless.specs.State.{Kept, kept_at, rows_kept, facts_at, work_at, row_sought, is_out, owes_nothing}
use Rattle.cacheless.specs.May.{has_failed}
use Rattle.cacheless.specs.Answering.{IsToldText}
use Rattle.cacheless.specs.Told.{tells_of_scans}

-- its next act is done without an entry
abbrev pub acts_on : Command → Progress → Bool
acts_on command s = is_free (facts_at s) command (work_at s) && gives_left (facts_at s) (work_at s) (work_at s).left

-- an end without an entry
abbrev pub is_ends : End → Bool
is_ends Ends = true
is_ends end = false

-- the command is finished
abbrev pub is_finished_at : Command → Progress → Bool
is_finished_at command s = is_finished_in (facts_at s) command (work_at s)

-- the command has come out, and nothing more can change what it answers: it has failed, or tells of no scan, or nothing has to come before its end
abbrev pub is_to_answer : Command → Progress → Bool
is_to_answer command s = is_out s && (has_failed s || not (tells_of_scans (told_of (plan_at s.opens s.exec))) || owes_nothing command s)

-- the same of the running command, if there is one
abbrev pub is_to_answer_at : Progress → Bool
is_to_answer_at s = elim (slice_get s.commands s.finished) [ Some command ↦ is_to_answer command s | None ↦ false ]

-- the rows that are given to an act: the row that a lookup found, or those that are kept of its scan
abbrev pub rows_for : Want → Option Row → Kept → List Row
rows_for (wants.Lookup name mode) row kept = cons_option row []
rows_for (wants.Search scan) row kept = rows_kept kept scan
rows_for (wants.Read scan) row kept = rows_kept kept scan
rows_for want row kept = []

-- the rows that the next act is given
abbrev pub rows_given : Progress → Want → List Row
rows_given s (wants.Lookup name mode) = cons_option (row_sought s name) []
rows_given s want = rows_for want None (kept_at s)

-- the descriptor that an act opens
abbrev pub opened_for : Want → List Opening
opened_for (wants.Open rel kind) = record { rel = rel; kind = kind } ∷ []
opened_for want = []

-- nothing is done without an entry
abbrev pub IsAtRest : Progress → Type 0
IsAtRest s = (command : Command) → slice_get s.commands s.finished ≡ Some command → (acts_on command s ≡ false) × (is_finished_at command s ≡ false)

-- a command whose next act is done without an entry
pub record Acts (s : Progress) : Type 0 where
  pub command : Command
  pub at : slice_get s.commands s.finished ≡ Some command
  pub acts : acts_on command s ≡ true

-- a command that is to be answered, and isn't yet
pub record Answers (s : Progress) : Type 0 where
  pub command : Command
  pub at : slice_get s.commands s.finished ≡ Some command
  pub asked : is_to_answer command s ≡ true
  pub none : s.answer ≡ None

-- a command that is finished, and is answered
pub record Finishes (s : Progress) : Type 0 where
  pub command : Command
  pub at : slice_get s.commands s.finished ≡ Some command
  pub finished : is_finished_at command s ≡ true
  pub answered : is_some s.answer ≡ true

-- nothing is done without an entry, and the running command is answered if it is to be
pub record IsSettled (s : Progress) : Type 0 where
  pub still : IsAtRest s
  pub answered : is_to_answer_at s ≡ true → is_some s.answer ≡ true

-- what a backend does without an entry
abbrev pub IsSilentOf : Progress → Silent → Type 0
IsSilentOf s silents.Act = Acts s
IsSilentOf s silents.Answer = Answers s
IsSilentOf s silents.Finish = Finishes s
IsSilentOf s silents.Rest = IsSettled s

-- the running command is answered, and nothing else changes
pub record HasAnswered (was now : Progress) : Type 0 where
  pub command : Command
  pub at : slice_get was.commands was.finished ≡ Some command
  pub text : List ℕ
  pub told : IsToldText command was text
  pub is : now ≡ record was { answer = Some text }

-- the line of the running command is its answer
abbrev pub IsLineOf : Progress → Line → Type 0
IsLineOf s line = option_map (λ text. record { backend = s.id; command = s.finished + 1; text = text }) s.answer ≡ Some line

-- 1 where the running command isn't answered
abbrev pub unanswered : Progress → ℕ
unanswered s = option_map_or (λ text. 0) s.answer 1

-- how much a backend has left to do without an entry, at most
abbrev pub left_of : Progress → ℕ
left_of s = (most_acts + 2) * (length s.commands - s.finished) + acts_left s.exec + unanswered s

abbrev pub has_accepted_at : Progress → Bool
has_accepted_at s = has_accepted_in (facts_at s) (work_at s)

abbrev pub looks_up_at : Progress → Mode → Option Row → Option (List Row)
looks_up_at s mode o = looked_up_in (facts_at s) (work_at s) mode (cons_option o [])

abbrev pub gives_at : Progress → Act → Option (List Row)
gives_at s act = gives_in (facts_at s) (work_at s) act

abbrev pub gives_next : Progress → Plan → Bool
gives_next s plan = gives_left (facts_at s) (work_at s) plan
