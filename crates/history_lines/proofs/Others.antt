-- Another backend's entry changes nothing of where a backend is.
use Rattle.std.proofs.Common.{◌≡◌, ◌∙◌, ◌==◌, ◌∷◌, ◌++◌, [], ℕ, Bool, true, false, List, sym, ap}
use Rattle.history_model.proofs.Reading.{life_of-other}
use Rattle.cacheless.proofs.OthersEntries.{awaits-other, no_entry-other, lines-other}
use Rattle.history_lines.specs.Stands.{HasNoEntry, HasStopped, IsGoing, Awaits, Over, Stands, IsSessionOf}
use Rattle.history_lines.specs.Types.{Scenario, Entry, Session as Held}

-- a backend that has stopped has still stopped
stopped-other : (scenario : Scenario) (seen : List Entry) (e : Entry) (s : Held) → (e.backend == s.progress.id) ≡ false → HasStopped scenario seen s → HasStopped scenario (seen ++ e ∷ []) s
stopped-other scenario seen e s other stopped = record {
  life = life_of-other seen e s.progress.id other ∙ stopped.life;
  lines_are = stopped.lines_are ∙ sym (lines-other scenario seen e s.progress.id other);
}

going-other : (scenario : Scenario) (seen : List Entry) (e : Entry) (s : Held) → (e.backend == s.progress.id) ≡ false → IsGoing scenario seen s → IsGoing scenario (seen ++ e ∷ []) s
going-other scenario seen e s other (Awaits waits) = Awaits (awaits-other scenario seen e s.progress s.lines other waits)
going-other scenario seen e s other (Over stopped) = Over (stopped-other scenario seen e s other stopped)

-- where a backend is it stays
pub Stands-other : (scenario : Scenario) (seen : List Entry) (e : Entry) (s : Held) → (e.backend == s.progress.id) ≡ false → Stands scenario seen s → Stands scenario (seen ++ e ∷ []) s
Stands-other scenario seen e s other stands = by_start s.is_started stands
  where
    by_start : (t : Bool) → elim t as (λ x. Type 0) [ true ↦ IsGoing scenario seen s | false ↦ HasNoEntry scenario seen s ] → elim t as (λ x. Type 0) [ true ↦ IsGoing scenario (seen ++ e ∷ []) s | false ↦ HasNoEntry scenario (seen ++ e ∷ []) s ]
    by_start true going = going-other scenario seen e s other going
    by_start false before = record { none = no_entry-other scenario seen e s.progress other before.none; lines_are = before.lines_are }

-- its session is where it was
pub session-other : (scenario : Scenario) (seen : List Entry) (e : Entry) (b : ℕ) (s : Held) → (e.backend == b) ≡ false → IsSessionOf scenario seen b s → IsSessionOf scenario (seen ++ e ∷ []) b s
session-other scenario seen e b s other is = record { id = is.id; stands = Stands-other scenario seen e s (ap (λ n. e.backend == n) is.id ∙ other) is.stands }
