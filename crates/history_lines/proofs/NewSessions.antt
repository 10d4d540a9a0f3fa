-- The sessions before the first entry.
use Rattle.std.proofs.Common.{◌≡◌, ◌≤◌, ◌<◌, ◌+◌, ◌∙◌, ℕ, false, Some, None, List, [], ◌∷◌, ◌++◌, refl, ap, subst, length, slice_get, arith, ◌⊎◌, inl, inr}
use Rattle.std.proofs.lemmas.List.{length_push}
use Rattle.base_types.specs.Scenario.{IsBackend, IsScript}
use Rattle.ddl_effect.specs.Commands.{commands_of}
use Rattle.by_backend.proofs.OwnParts.{few_among}
use Rattle.by_backend.proofs.Places.{last_or_before}
use Rattle.history_ledger.specs.Held.{Reads}
use Rattle.cacheless.specs.Holds.{HasNotStarted}
use Rattle.cacheless.specs.State.{IsNew}
use Rattle.history_lines.specs.Stands.{IsSessionOf, Follows}
use Rattle.history_lines.specs.Types.{Command, Scenario, Progress, Line, Ledger, Session}

-- a new session
pub new_session : (scenario : Scenario) (b : ℕ) (commands : List Command) (progress : Progress) (lines : List Line) → lines ≡ [] → IsNew b commands progress → HasNotStarted scenario [] progress
    → IsSessionOf scenario [] b (record { progress = progress; is_started = false; lines = lines })
new_session scenario b commands progress lines none new waits = record {
  id = new.number;
  stands = record { none = record { waits = waits; last = refl; session = refl; facts = refl; unwritten = λ c. refl }; lines_are = none };
}

-- so many sessions, each of which is that of its backend before the first entry
pub record Begins (scenario : Scenario) (sessions : List Session) (n : ℕ) : Type 0 where
  pub count : length sessions ≡ n
  pub each : (i : ℕ) (s : Session) → slice_get sessions i ≡ Some s → IsSessionOf scenario [] (i + 1) s

-- none yet
pub begins_none : (scenario : Scenario) → Begins scenario [] 0
begins_none scenario = record { count = refl; each = λ i s (at : None ≡ Some s). absurd (cc) }

-- one more
pub begins_more : (scenario : Scenario) (sessions : List Session) (n : ℕ) (s : Session) (commands : List Command) → length scenario.commands ≤ 20000 → commands ≡ commands_of scenario (n + 1) → Begins scenario sessions n → n < scenario.backends
    → ((given : Scenario) → IsBackend given.backends (n + 1) → commands ≡ commands_of given (n + 1) → length commands ≤ 20000 → IsSessionOf given [] (n + 1) s) → Begins scenario (sessions ++ s ∷ []) (n + 1)
begins_more scenario sessions n s commands few copies begins within new = record {
  count = length_push sessions s ∙ ap (λ k. k + 1) begins.count;
  each = λ i x at. by_place i x (last_or_before sessions s x i at);
}
  where
    is_own : IsSessionOf scenario [] (n + 1) s
    is_own = new scenario (omega arith, omega (arith, within)) copies (omega (arith, few, few_among (n + 1) scenario.commands, ap length copies))

    by_place : (i : ℕ) (x : Session) → (slice_get sessions i ≡ Some x) ⊎ ((i ≡ length sessions) × (s ≡ x)) → IsSessionOf scenario [] (i + 1) x
    by_place i x (inl before) = begins.each i x before
    by_place i x (inr last) =
        let here : n + 1 ≡ i + 1 = omega (arith, last.0, begins.count) in
        subst (IsSessionOf scenario [] (i + 1)) last.1 (subst (λ b. IsSessionOf scenario [] b s) here is_own)

-- all of them, with a ledger that nothing was entered into
pub follows_none : (scenario : Scenario) (sessions : List Session) (n : ℕ) (ledger : Ledger) → IsScript scenario → n ≡ scenario.backends → Begins scenario sessions n → Reads [] ledger → Follows scenario [] ledger sessions
follows_none scenario sessions n ledger script all begins reads = record {
  reads = reads;
  legal = tt;
  queue = tt;
  plays = tt;
  spelled = script.spelled;
  sessions = record { count = begins.count ∙ all; each = begins.each };
}
