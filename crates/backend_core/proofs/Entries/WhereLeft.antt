-- Where an entry leaves its backend.
use Rattle.std.proofs.Common.{◌≡◌, ◌+◌, ◌∙◌, List, Some, sym, ap, subst, drop, length}
use Rattle.cacheless.specs.Facts.{facts_of}
use Rattle.cacheless.specs.Holds.{Rests, HasEntered, with_own}
use Rattle.cacheless.specs.Sessions.{session_of, entered as session_after}
use Rattle.cacheless.specs.State.{session_at}
use Rattle.cacheless.proofs.Resting.{settled_at_rest}
use Rattle.backend_core.specs.Types.{Scenario, Entry, Event, Progress}
use Rattle.backend_core.specs.Noted.{IsEntered}

-- by what its progress says of the entry
pub entered_here : (scenario : Scenario) (old new : List Entry) (was now : Progress) (event : Event) (rests : Rests scenario old was) → HasEntered scenario old was event rests now → new ≡ with_own old was event → IsEntered scenario old new was event now
entered_here scenario old new was now event rests goes is = subst (λ h. IsEntered scenario old h was event now) (sym is) (record {
  session = session_at was rests.holds.rest;
  before = rests.holds.is ∙ ap Some (settled_at_rest scenario old was rests);
  holds = goes.holds;
  after = goes.session;
  moves = goes.moves;
})

-- the same of a progress that is as far in the same commands
pub entered_alike : (scenario : Scenario) (old new : List Entry) (was other now : Progress) (event : Event) → other.id ≡ was.id → other.commands ≡ was.commands → other.finished ≡ was.finished → IsEntered scenario old new other event now → IsEntered scenario old new was event now
entered_alike scenario old new was other now event id commands finished goes = record {
  session = goes.session;
  before = sym (ap (session_of scenario old) id) ∙ goes.before;
  holds = goes.holds;
  after = goes.after ∙ (λ i. session_after (facts_of new (id i)) (drop (finished i) (commands i)) (length old + 1) (finished i + 1) event goes.session);
  moves = record { id = goes.moves.id ∙ id; commands = goes.moves.commands ∙ commands; finished = goes.moves.finished ∙ finished };
}
