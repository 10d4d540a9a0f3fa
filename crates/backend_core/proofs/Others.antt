-- Another backend's entry changes nothing of where a backend is.
use Rattle.std.proofs.Common.{◌≡◌, ◌∙◌, ◌==◌, false, List, [], ◌∷◌, ◌++◌, sym, subst}
use Rattle.base_types.specs.Scenario.{Scenario}
use Rattle.history_model.proofs.Reading.{life_of-other}
use Rattle.cacheless.proofs.Entries.Others.{holds-other}
use Rattle.cacheless.proofs.Reading.{facts_of-other}
use Rattle.cacheless.specs.Awaiting.{HasNoEntry, AwaitsEntry as SessionAwaits}
use Rattle.cacheless.proofs.OthersEntries.{awaits-other as session_awaits-other, no_entry-other, lines-other}
use Rattle.backend_core.specs.Types.{Entry, Life, Backend}
use Rattle.backend_core.specs.declared.life.Life.TheVariants as lives
use Rattle.backend_core.specs.Agrees.{RunsFit, command_at, AwaitsEntry, HasNotJoined, HasLeft, Stands}
use Rattle.backend_core.specs.Fits.{Fits}
use Rattle.backend_core.proofs.Cutting.Before.{before-other}
use Rattle.backend_core.proofs.Own.{waiting, session_waits, no_entry}

-- a backend that waits for its next entry still waits for it
awaits-other : (scenario : Scenario) (seen : List Entry) (e : Entry) (s : Backend) → (e.backend == s.progress.id) ≡ false → AwaitsEntry scenario seen s → AwaitsEntry scenario (seen ++ e ∷ []) s
unfolding session_awaits-other
awaits-other scenario seen e s other waits = record {
  keeps = let k = waits.keeps in record {
    alive = k.alive;
    life = record { last = k.life.last; alive = life_of-other seen e s.progress.id other ∙ k.life.alive; most = k.life.most };
    absent = still.absent;
  };
  rests = still.rests;
  runs = subst (λ f. RunsFit f (command_at s) (waiting waits)) (sym (facts_of-other seen e s.progress.id other)) waits.runs;
  fits = subst (λ f. Fits f (command_at s) (waiting waits) s.looked s.frames s.told) (sym (facts_of-other seen e s.progress.id other)) waits.fits;
  lines = still.lines_are;
  tells = still.tells;
  answered = still.answered;
  before = before-other seen e s.progress waits.rests.holds.rest other waits.before;
}
  where
    still : SessionAwaits scenario (seen ++ e ∷ []) s.progress s.lines
    still = session_awaits-other scenario seen e s.progress s.lines other (session_waits waits)

-- a backend that hasn't joined still has no entry
not_joined-other : (scenario : Scenario) (seen : List Entry) (e : Entry) (s : Backend) → (e.backend == s.progress.id) ≡ false → HasNotJoined scenario seen s → HasNotJoined scenario (seen ++ e ∷ []) s
not_joined-other scenario seen e s other before = record {
  waits = none.waits;
  new = before.new;
  last = none.last;
  session = none.session;
  facts = none.facts;
  life = life_of-other seen e s.progress.id other ∙ before.life;
  unwritten = none.unwritten;
}
  where
    none : HasNoEntry scenario (seen ++ e ∷ []) s.progress
    none = no_entry-other scenario seen e s.progress other (no_entry before)

left-other : (scenario : Scenario) (seen : List Entry) (e : Entry) (s : Backend) → (e.backend == s.progress.id) ≡ false → HasLeft scenario seen s → HasLeft scenario (seen ++ e ∷ []) s
left-other scenario seen e s other left = record {
  holds = holds-other scenario seen e s.progress other left.holds;
  life = life_of-other seen e s.progress.id other ∙ left.life;
  lines = left.lines ∙ sym (lines-other scenario seen e s.progress.id other);
  past = left.past;
}

-- where a backend is it stays, with another's entry
pub Stands-other : (scenario : Scenario) (seen : List Entry) (e : Entry) (s : Backend) → (e.backend == s.progress.id) ≡ false → Stands scenario seen s → Stands scenario (seen ++ e ∷ []) s
Stands-other scenario seen e s other stands = by_life s.life stands
  where
    by_life : (l : Life) → elim l as (λ x. Type 0) [ lives.Unstarted ↦ HasNotJoined scenario seen s | lives.Alive ↦ AwaitsEntry scenario seen s | lives.Stopped ↦ HasLeft scenario seen s ]
        → elim l as (λ x. Type 0) [ lives.Unstarted ↦ HasNotJoined scenario (seen ++ e ∷ []) s | lives.Alive ↦ AwaitsEntry scenario (seen ++ e ∷ []) s | lives.Stopped ↦ HasLeft scenario (seen ++ e ∷ []) s ]
    by_life lives.Unstarted before = not_joined-other scenario seen e s other before
    by_life lives.Alive waits = awaits-other scenario seen e s other waits
    by_life lives.Stopped left = left-other scenario seen e s other left
