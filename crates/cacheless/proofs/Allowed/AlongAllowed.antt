-- What holds of the session of a backend holds along an allowed history, where each of its entries keeps it, and so does all that it does without one.
use Rattle.std.proofs.Common.{◌≡◌, ◌+◌, ◌==◌, ℕ, Bool, true, false, Option, None, List, [], ◌∷◌, ◌++◌, refl, sym, subst, length}
use Rattle.std.proofs.lemmas.Bool.{eqb-true}
use Rattle.history_model.specs.MayFollow.{MayFollow}
use Rattle.history_model.proofs.Allows.{legal_follows}
use Rattle.history_model.proofs.Prefixes.{EachFrom-both, each-keeps}
use Rattle.history_model.proofs.Touched.{entry_of}
use Rattle.cacheless.specs.Types.{Scenario, Entry, Event}
use Rattle.cacheless.specs.Facts.{Facts, facts_of}
use Rattle.cacheless.specs.OnCourse.{AllOnCourse, CourseOf}
use Rattle.cacheless.specs.Output.{IsAllowed}
use Rattle.cacheless.specs.Played.{AreSpelled, IsPlayed}
use Rattle.cacheless.specs.Plays.{MayPlayAt, IsNext}
use Rattle.cacheless.specs.Session.{Session}
use Rattle.cacheless.specs.Sessions.{session_by, session_of}
use Rattle.cacheless.proofs.FactsAfter.{facts_by}
use Rattle.cacheless.proofs.Allowed.AllowedHistories.{played_more, played_start}
use Rattle.cacheless.proofs.Reading.{facts_of-own, facts_of-other, session_of-own, session_of-other}

-- a fact of each backend, of its facts and its session
abbrev pub Fact : Type 1
Fact = ℕ → Facts → Option Session → Type 0

-- each own entry keeps it
abbrev pub OwnKeeps : Scenario → Fact → Type 0
OwnKeeps scenario Holds = (history : List Entry) (b c : ℕ) (event : Event) → IsPlayed scenario history → CourseOf scenario history b (session_of scenario history b) → MayFollow history (entry_of b c event) → MayPlayAt scenario history b (session_of scenario history b) c event
    → Holds b (facts_of history b) (session_of scenario history b) → Holds b (facts_by history b c event (facts_of history b)) (session_by scenario (facts_by history b c event (facts_of history b)) b (length history + 1) c event (session_of scenario history b))

record Along (scenario : Scenario) (Holds : Fact) (history : List Entry) : Type 0 where
  played : IsPlayed scenario history
  courses : AllOnCourse scenario history
  each : (b : ℕ) → Holds b (facts_of history b) (session_of scenario history b)

along_more : (scenario : Scenario) (Holds : Fact) → OwnKeeps scenario Holds → (history : List Entry) (e : Entry) → Along scenario Holds history → MayFollow history e × IsNext scenario history e → Along scenario Holds (history ++ e ∷ [])
along_more scenario Holds keeps history e was may = record { played = more.0; courses = more.1; each = λ b. by_owner b (e.backend == b) refl }
  where
    more : IsPlayed scenario (history ++ e ∷ []) × AllOnCourse scenario (history ++ e ∷ [])
    more = played_more scenario history e was.played was.courses may.0 may.1

    by_owner : (b : ℕ) (t : Bool) → (e.backend == b) ≡ t → Holds b (facts_of (history ++ e ∷ []) b) (session_of scenario (history ++ e ∷ []) b)
    by_owner b false other = subst (λ facts. Holds b facts (session_of scenario (history ++ e ∷ []) b)) (sym (facts_of-other history e b other)) (subst (Holds b (facts_of history b)) (sym (session_of-other scenario history e b other)) (was.each b))
    by_owner b true own = subst (λ facts. Holds b facts (session_of scenario (history ++ e ∷ []) b)) (sym (facts_of-own history e b own)) (subst (Holds b (facts_by history b e.command e.event (facts_of history b))) (sym (session_of-own scenario history e b own))
        (keeps history b e.command e.event was.played (was.courses b) (subst (λ x. MayFollow history (entry_of x e.command e.event)) same may.0) (subst (λ x. MayPlayAt scenario history x (session_of scenario history x) e.command e.event) same may.1.1) (was.each b)))
      where
        same : e.backend ≡ b
        same = eqb-true e.backend b own

-- so it holds of each backend of an allowed history
pub holds_along : (scenario : Scenario) (Holds : Fact) → ((b : ℕ) → Holds b (facts_of [] b) None) → OwnKeeps scenario Holds → (history : List Entry) → AreSpelled scenario → IsAllowed scenario history → (b : ℕ) → Holds b (facts_of history b) (session_of scenario history b)
holds_along scenario Holds first keeps history spelled allowed = (each-keeps (λ before e. MayFollow before e × IsNext scenario before e) (Along scenario Holds)
    (let start = played_start scenario spelled in record { played = start.0; courses = start.1; each = first }) (along_more scenario Holds keeps) history
    (EachFrom-both MayFollow (IsNext scenario) [] history (legal_follows history allowed.legal) allowed.plays)).each
