-- What was run, by the script that ends for a backend where it was halted.
use Rattle.std.proofs.Common.{◌≡◌, ◌≢◌, ◌≤◌, ◌<◌, ◌+◌, ◌∙◌, ◌==◌, ◌⊎◌, inl, inr, ℕ, true, false, List, ◌++◌, max, sym, ap, subst, arith}
use Rattle.std.proofs.lemmas.Bool.Decides.{eqb_tells}
use Rattle.base_types.specs.Scenario.{Scenario, IsBackend}
use Rattle.event_kinds.specs.declared.entry.Entry.{Entry}
use Rattle.history_model.specs.Lapped.{FetchesFrom}
use Rattle.history_model.specs.Read.{ScansOnlyIfNeeded}
use Rattle.backend_core.specs.declared.backend.Backend.{Backend}
use Rattle.backend_core.specs.declared.turns.HeldLook.{HeldLook}
use Rattle.backend_core.specs.Agrees.{Stands}
use Rattle.backend_core.specs.Cuts.{cut}
use Rattle.backend_core.specs.Looks.{entries_of}
use Rattle.backend_core.proofs.Cutting.Scripts.{cut_is}
use Rattle.thread_run.specs.Runs.{IsRunSoFar}
use Rattle.thread_run.specs.Turns.{IsHalting}
use Rattle.thread_run.proofs.Played.{each_looked}

-- with the looks that it held back
pub run_halted : (b n : ℕ) (scenario part : Scenario) (history now : List Entry) (held : List HeldLook) (s : Backend) → IsRunSoFar scenario history → IsHalting scenario b n history held s → part ≡ cut b n scenario → now ≡ history ++ entries_of b held → IsRunSoFar part now
run_halted b n scenario part history now held s run halting is later = subst (λ x. IsRunSoFar x now) (sym is) (subst (IsRunSoFar (cut b n scenario)) (sym later) (record {
  played = (halting.after (cut b n scenario) (cut_is b n scenario)).0;
  queue = each_looked (λ before e. FetchesFrom scenario.size before e.backend e.event) history b held (λ before look. tt) run.queue;
  economical = each_looked (λ before e. ScansOnlyIfNeeded before e.backend e.event) history b held (λ before look. tt) run.economical;
}))

-- and it stands there
pub stands_halted : (b n : ℕ) (scenario part : Scenario) (history now : List Entry) (held : List HeldLook) (s : Backend) → IsHalting scenario b n history held s → part ≡ cut b n scenario → now ≡ history ++ entries_of b held → Stands part now s
stands_halted b n scenario part history now held s halting is later = subst (λ x. Stands x now s) (sym is) (subst (λ (h : List Entry). Stands (cut b n scenario) h s) (sym later) (halting.after (cut b n scenario) (cut_is b n scenario)).1)

-- the places of the backends up to this number are promised, and none of those after it
pub record HavePlaces (n : ℕ) (promised : ℕ → ℕ) : Type 0 where
  pub have : (b : ℕ) → IsBackend n b → promised b ≡ 48
  pub none : (b : ℕ) → n < b → promised b ≡ 0

-- and those of the next one
pub places_more : (n b : ℕ) (had has : ℕ → ℕ) → HavePlaces n had → b ≡ n + 1 → has b ≡ max (had b) 48 → ((a : ℕ) → a ≢ b → has a ≡ had a) → HavePlaces (n + 1) has
places_more n b had has before next own others = record {
  have = λ k is. by_number k is (eqb_tells k b);
  none = λ k past. others k (λ same. omega (arith, same, next, past)) ∙ before.none k (omega (arith, past));
}
  where
    by_number : (k : ℕ) → IsBackend (n + 1) k → (((k == b) ≡ true) × (k ≡ b)) ⊎ (((k == b) ≡ false) × (k ≢ b)) → has k ≡ 48
    by_number k is (inl same) = let none = before.none b (omega (arith, next)) in ap has same.1 ∙ omega (arith, own, none)
    by_number k is (inr apart) = others k apart.1 ∙ before.have k (is.0, omega (arith, is.1, next, apart.1))
