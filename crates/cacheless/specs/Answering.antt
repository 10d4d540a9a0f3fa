-- What the running command answers, by what the code holds.
use Rattle.std.specs.Prelude.{◌≡◌, ℕ, true, false, Some, List}
use Rattle.base_types.specs.declared.scan.Purpose.TheVariants as scans
use Rattle.event_kinds.specs.declared.entry.Event.TheVariants as events
use Rattle.command_answers.specs.Answers.{answer_text}
use Rattle.ddl_effect.specs.Plans.{Absent}
use Rattle.ddl_effect.specs.Stages.{plan_at}
use Rattle.history_model.specs.Lives.{last_event_of}
use Rattle.cacheless.specs.Types.{Answer, Command, Entry}
use Rattle.cacheless.specs.declared.progress.Progress.{Progress}
use Rattle.cacheless.specs.State.{kept_at, is_kept, rows_kept, place_kept}
use Rattle.cacheless.specs.Told.{told_left}

-- what the running command answers, once it has come out
abbrev pub told_at : Command → Progress → Answer
told_at command s = told_left (rows_kept (kept_at s)) (place_kept (kept_at s)) s.locks.items s.blocks.block command (plan_at s.opens s.exec)

-- the text is that of what this command answers
abbrev pub IsToldText : Command → Progress → List ℕ → Type 0
IsToldText command s text = text ≡ answer_text (told_at command s)

-- nothing of the running command is taken back or released
pub record IsWhole (seen : List Entry) (s : Progress) : Type 0 where
  pub untaken : (from : ℕ) → last_event_of seen s.id ≡ Some (events.Gone from) → ⊥
  pub going : s.ended ≡ false

-- where a lookup found no relation its scan is kept, until something of the command is taken back or released
abbrev pub KeepsAbsent : List Entry → Progress → Type 0
KeepsAbsent seen s = (name : List ℕ) → plan_at s.opens s.exec ≡ Absent name → IsWhole seen s → is_kept (kept_at s) (scans.RelName name) ≡ true
