-- In a command that waits for an entry, and whose transaction's first look is made, a transaction runs.
use Rattle.std.proofs.Common.{◌≡◌, ◌∙◌, ◌&&◌, true, false, Some, List, [], ◌∷◌, ap, subst, is_none, is_some}
use Rattle.cacheless.specs.Facts.{Facts, facts_of}
use Rattle.cacheless.specs.OnCourse.{AllOnCourse}
use Rattle.cacheless.specs.Owed.{Owes, OwesLook, owed_first_in, begins_in}
use Rattle.cacheless.specs.State.{owed_first}
use Rattle.cacheless.specs.Work.{work_of}
use Rattle.cacheless.proofs.Allowed.TransactionGoesOn.{RunsHere, Goes, Starts}
use Rattle.cacheless.proofs.Allowed.TransactionRuns.{runs_here}
use Rattle.cacheless.proofs.Same.{start_owed}
use Rattle.backend_core.specs.Types.{Command, Scenario, Entry, Backend}
use Rattle.backend_core.specs.Agrees.{RunsFit, command_at, AwaitsEntry}
use Rattle.backend_core.proofs.Own.{waiting, waits_for, follows, tells_alone}

pub entry_runs : (scenario : Scenario) (seen : List Entry) (s : Backend) (waits : AwaitsEntry scenario seen s) → AllOnCourse scenario seen → (command : Command) → command_at s ≡ Some command → owed_first s.progress command ≡ [] → is_some (facts_of seen s.progress.id).running ≡ true
entry_runs scenario seen s waits courses command at free = by_case (runs_here facts command (waiting waits) (subst (λ o. RunsFit facts o (waiting waits)) at waits.runs) (waits_for scenario seen s waits command at).unfinished (follows scenario seen s waits courses command at).plain
    (λ over. let alone = tells_alone scenario seen s waits courses command at over in record { told = alone.told; left = alone.left; alone = alone.alone }))
  where
    facts : Facts
    facts = facts_of seen s.progress.id

    first_free : owed_first_in facts command (work_of (waiting waits)) ≡ []
    first_free = start_owed facts command s.progress waits.rests.holds.rest waits.rests.holds.facts ∙ free

    by_case : RunsHere facts (Some command) (waiting waits) → is_some facts.running ≡ true
    by_case (Goes runs) = runs
    by_case (Starts c here starts outside none) = absurd (let one : command ≡ c = cc here in
        let owes : owed_first_in facts command (work_of (waiting waits)) ≡ OwesLook ∷ [] = (λ i. elim ((ap (λ x. begins_in x (work_of (waiting waits))) one ∙ starts) i && is_none (none i)) as (λ x. List Owes) [ true ↦ OwesLook ∷ [] | false ↦ [] ]) in cc (owes, first_free))
