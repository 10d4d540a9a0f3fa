-- A backend that has taken writes back, and hasn't released their locks yet.
use Rattle.std.proofs.Common.{◌≡◌, ◌∙◌, ℕ, Some, List, [], sym, ap, subst}
use Rattle.cacheless.specs.Ends.{TakesBack, end_in}
use Rattle.cacheless.specs.Facts.{facts_of}
use Rattle.cacheless.specs.Work.{work_of}
use Rattle.cacheless.specs.declared.progress.Due.TheVariants as dues
use Rattle.cacheless.specs.OwnTransaction.{end_by}
use Rattle.ddl_effect.specs.Plans.{left_rests_on}
use Rattle.backend_core.specs.Types.{Command, Scenario, Entry, Backend}
use Rattle.backend_core.specs.Agrees.{RunsFit, command_at, AwaitsEntry}
use Rattle.backend_core.proofs.Fitting.FitsEnds.{back_plain}
use Rattle.backend_core.proofs.Own.{waiting}

module _ (scenario : Scenario) (seen : List Entry) (s : Backend) (waits : AwaitsEntry scenario seen s) (command : Command) (at : command_at s ≡ Some command) (from : ℕ) (gone : (facts_of seen s.progress.id).due ≡ dues.Gone from) where
  -- it was the end of its command
  pub taken_end : end_in (facts_of seen s.progress.id) command (work_of (waiting waits)) ≡ TakesBack from
  taken_end = ap (λ o. end_by (facts_of seen s.progress.id) o (waiting waits)) (sym at) ∙ (waits.runs.taken from gone).end

  -- whose answer rests on no scan
  pub taken_plain : left_rests_on (waiting waits).left ≡ []
  taken_plain = back_plain (facts_of seen s.progress.id) command (waiting waits) from (subst (λ o. RunsFit (facts_of seen s.progress.id) o (waiting waits)) at waits.runs) taken_end
