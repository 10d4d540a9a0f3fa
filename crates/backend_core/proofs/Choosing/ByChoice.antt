-- The choice, test by test.
use Rattle.std.proofs.Common.{◌≡◌, ◌∙◌, ℕ, Bool, true, false, not, Option, Some, None, List, [], refl, ap, is_some, if◌then◌else◌}
use Rattle.std.specs.Option.{option_map}
use Rattle.base_types.specs.declared.scan.Purpose.TheVariants as scans
use Rattle.ddl_effect.specs.Stages.{plan_at, want_of}
use Rattle.ddl_effect.specs.declared.want.Want.{Want}
use Rattle.ddl_effect.specs.declared.want.Want.TheVariants as wants
use Rattle.history_model.specs.Changing.{is_empty}
use Rattle.cacheless.specs.declared.progress.Due.{Due}
use Rattle.cacheless.specs.declared.progress.Due.TheVariants as dues
use Rattle.cacheless.specs.May.{has_failed, owes_nothing}
use Rattle.cacheless.specs.Owed.{owed_after}
use Rattle.cacheless.specs.Session.{Outcome, Unsettled, Well, Badly, outcome_of}
use Rattle.cacheless.specs.State.{facts_at, work_at, kept_at, owed_first, row_sought}
use Rattle.backend_core.specs.Types.{Oid, Mode, Kind, Purpose, Command, Next, Frame, Backend}
use Rattle.backend_core.specs.declared.next.Next.TheVariants as nexts
use Rattle.backend_core.specs.Choice.{noted_of, first_lacking, look_or_scan, next_by_name, accepts_again, next_by_end, next_by_want, next_on_top, next_if_going, next_if_free, next_of}
use Rattle.backend_core.specs.Frames.{top}
use Rattle.backend_core.specs.Words.{relation_named}

-- by what is due after the last entry
pub choice_free : (s : Backend) (command : Command) → owed_after s.progress.due ≡ [] → next_of (facts_at s.progress) (Some command) (work_at s.progress) (noted_of s) ≡ next_if_free (facts_at s.progress) command (work_at s.progress) (noted_of s)
choice_free s command free = by_due s.progress.due free
  where
    by_due : (due : Due) → owed_after due ≡ [] → elim due as (λ x. Option Next) [ dues.Look ↦ Some nexts.Look | dues.Fetch ↦ Some nexts.Fetch | other ↦ next_if_free (facts_at s.progress) command (work_at s.progress) (noted_of s) ] ≡ next_if_free (facts_at s.progress) command (work_at s.progress) (noted_of s)
    by_due dues.Look none = absurd (cc none)
    by_due dues.Fetch none = absurd (cc none)
    by_due due none = refl

-- where that asks for nothing
module _ (s : Backend) (command : Command) where
  abbrev free : Bool → Bool → Outcome → Option Next
  free first again outcome = if not first then Some nexts.Look else if again then Some nexts.LookBeforeAbsent else elim outcome as (λ x. Option Next) [ Badly ↦ next_by_end (facts_at s.progress) command (work_at s.progress) | other ↦ next_if_going (facts_at s.progress) command (work_at s.progress) (noted_of s) ]

  pub free_look : is_empty (owed_first s.progress command) ≡ false → next_if_free (facts_at s.progress) command (work_at s.progress) (noted_of s) ≡ Some nexts.Look
  free_look owes = λ i. free (owes i) (accepts_again s) (outcome_of (plan_at s.progress.opens s.progress.exec))

  pub free_again : is_empty (owed_first s.progress command) ≡ true → accepts_again s ≡ true → next_if_free (facts_at s.progress) command (work_at s.progress) (noted_of s) ≡ Some nexts.LookBeforeAbsent
  free_again none again = λ i. free (none i) (again i) (outcome_of (plan_at s.progress.opens s.progress.exec))

  pub free_failed : is_empty (owed_first s.progress command) ≡ true → accepts_again s ≡ false → has_failed s.progress ≡ true → next_if_free (facts_at s.progress) command (work_at s.progress) (noted_of s) ≡ next_by_end (facts_at s.progress) command (work_at s.progress)
  free_failed none quiet fails = (λ i. free (none i) (quiet i) (outcome_of (plan_at s.progress.opens s.progress.exec))) ∙ by_outcome (outcome_of (plan_at s.progress.opens s.progress.exec)) fails
    where
      by_outcome : (o : Outcome) → elim o as (λ x. Bool) [ Badly ↦ true | other ↦ false ] ≡ true → free true false o ≡ next_by_end (facts_at s.progress) command (work_at s.progress)
      by_outcome Badly is = refl
      by_outcome Well is = absurd (cc is)
      by_outcome Unsettled is = absurd (cc is)

  pub free_going : is_empty (owed_first s.progress command) ≡ true → accepts_again s ≡ false → has_failed s.progress ≡ false → next_if_free (facts_at s.progress) command (work_at s.progress) (noted_of s) ≡ next_if_going (facts_at s.progress) command (work_at s.progress) (noted_of s)
  free_going none quiet goes = (λ i. free (none i) (quiet i) (outcome_of (plan_at s.progress.opens s.progress.exec))) ∙ by_outcome (outcome_of (plan_at s.progress.opens s.progress.exec)) goes
    where
      by_outcome : (o : Outcome) → elim o as (λ x. Bool) [ Badly ↦ true | other ↦ false ] ≡ false → free true false o ≡ next_if_going (facts_at s.progress) command (work_at s.progress) (noted_of s)
      by_outcome Badly is = absurd (cc is)
      by_outcome Well is = refl
      by_outcome Unsettled is = refl

  -- of the rebuilds
  pub going_top : (f : Frame) → top s.frames ≡ Some f → next_if_going (facts_at s.progress) command (work_at s.progress) (noted_of s) ≡ next_on_top (facts_at s.progress) f
  going_top f on = ap (λ o. elim o as (λ x. Option Next) [ Some g ↦ next_on_top (facts_at s.progress) g | None ↦ next_by_want (facts_at s.progress) command (work_at s.progress) s.looked (want_of (plan_at s.progress.opens s.progress.exec)) ]) on

  pub going_bare : (want : Want) → top s.frames ≡ None → want_of (plan_at s.progress.opens s.progress.exec) ≡ want → next_if_going (facts_at s.progress) command (work_at s.progress) (noted_of s) ≡ next_by_want (facts_at s.progress) command (work_at s.progress) s.looked want
  going_bare want bare is = ap (λ o. elim o as (λ x. Option Next) [ Some g ↦ next_on_top (facts_at s.progress) g | None ↦ next_by_want (facts_at s.progress) command (work_at s.progress) s.looked (want_of (plan_at s.progress.opens s.progress.exec)) ]) bare
      ∙ ap (next_by_want (facts_at s.progress) command (work_at s.progress) s.looked) is

  -- by what is wanted
  pub by_want : (want given : Want) (next : Next) → want ≡ given → next_by_want (facts_at s.progress) command (work_at s.progress) s.looked given ≡ Some next → next_by_want (facts_at s.progress) command (work_at s.progress) s.looked want ≡ Some next
  by_want want given next is comes = ap (next_by_want (facts_at s.progress) command (work_at s.progress) s.looked) is ∙ comes

  pub lookup_lacks : (name : List ℕ) (mode : Mode) → owes_nothing command s.progress ≡ false → next_by_want (facts_at s.progress) command (work_at s.progress) s.looked (wants.Lookup name mode) ≡ Some (look_or_scan false s.looked (scans.RelName name))
  lookup_lacks name mode owes = ap (λ t. Some (if t then next_by_name s.progress.taken (relation_named (row_sought s.progress name)) mode else look_or_scan false s.looked (scans.RelName name))) owes

  pub lookup_serves : (name : List ℕ) (mode : Mode) (found : Option Oid) → owes_nothing command s.progress ≡ true → relation_named (row_sought s.progress name) ≡ found → next_by_want (facts_at s.progress) command (work_at s.progress) s.looked (wants.Lookup name mode) ≡ Some (next_by_name s.progress.taken found mode)
  lookup_serves name mode found free is = ap (λ t. Some (if t then next_by_name s.progress.taken (relation_named (row_sought s.progress name)) mode else look_or_scan false s.looked (scans.RelName name))) free
      ∙ ap (λ o. Some (next_by_name s.progress.taken o mode)) is

  pub open_lacks : (rel : Oid) (kind : Kind) (scan : Purpose) → first_lacking (kept_at s.progress) kind rel ≡ Some scan → next_by_want (facts_at s.progress) command (work_at s.progress) s.looked (wants.Open rel kind) ≡ Some (look_or_scan false s.looked scan)
  open_lacks rel kind scan is = ap (option_map (look_or_scan false s.looked)) is

  pub answer_lacks : (scan : Purpose) → owes_nothing command s.progress ≡ false → next_by_want (facts_at s.progress) command (work_at s.progress) s.looked (wants.Done (Some scan)) ≡ Some (look_or_scan false s.looked scan)
  answer_lacks scan owes = ap (λ t. if t then next_by_end (facts_at s.progress) command (work_at s.progress) else Some (look_or_scan false s.looked scan)) owes

  pub answer_ends : (rests : Option Purpose) → (is_some rests ≡ true → owes_nothing command s.progress ≡ true) → next_by_want (facts_at s.progress) command (work_at s.progress) s.looked (wants.Done rests) ≡ next_by_end (facts_at s.progress) command (work_at s.progress)
  answer_ends None free = refl
  answer_ends (Some scan) free = ap (λ t. if t then next_by_end (facts_at s.progress) command (work_at s.progress) else Some (look_or_scan false s.looked scan)) (free refl)
