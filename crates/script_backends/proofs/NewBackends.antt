-- The backends of a script before the first entry.
use Rattle.std.proofs.Common.{◌≡◌, ◌≤◌, ◌<◌, ◌+◌, ◌∙◌, ℕ, Some, None, List, [], ◌∷◌, ◌++◌, refl, sym, ap, subst, length, slice_get, arith, ◌⊎◌, inl, inr}
use Rattle.std.proofs.lemmas.List.{length_push}
use Rattle.base_types.specs.declared.command.Command.{Command}
use Rattle.base_types.specs.Scenario.{Scenario, IsBackend}
use Rattle.ddl_effect.specs.Commands.{commands_of}
use Rattle.backend_core.specs.declared.backend.Backend.{Backend}
use Rattle.backend_core.specs.Agrees.{IsNew, Stands}
use Rattle.backend_core.proofs.NewFacts.{facts_none}
use Rattle.by_backend.proofs.OwnParts.{few_among}
use Rattle.by_backend.proofs.Places.{last_or_before}
use Rattle.script_backends.specs.Standing.{StandsAt}
use Rattle.script_backends.proofs.Sessions.{StandsAs}

-- so many backends, each of which stands before the first entry
pub record Begins (s : Scenario) (bs : List Backend) (n : ℕ) : Type 0 where
  pub count : length bs ≡ n
  pub each : (i : ℕ) (x : Backend) → slice_get bs i ≡ Some x → StandsAt s [] (i + 1) x

-- none yet
pub begins_none : (s : Scenario) → Begins s [] 0
begins_none s = record { count = refl; each = λ i x (at : None ≡ Some x). absurd (cc) }

-- a new backend stands before the first entry
new_stands : (s : Scenario) (x : Backend) (b : ℕ) → length s.commands ≤ 20000 → IsBackend s.backends b → IsNew x b (commands_of s b) → Stands s [] x
new_stands s x b few number new = subst (StandsAs s [] x) (sym new.life) (record {
  waits = record {
    number = subst (IsBackend s.backends) (sym new.progress.number) number;
    commands = commands;
    few = omega (arith, few, few_among b s.commands, ap length new.progress.commands_are);
    new = own.progress;
    facts = facts_none x.progress.id x.progress.commands x.progress own.progress;
  };
  new = own;
  last = refl;
  session = refl;
  facts = refl;
  life = refl;
  unwritten = λ c. refl;
})
  where
    commands : x.progress.commands ≡ commands_of s x.progress.id
    commands = new.progress.commands_are ∙ ap (commands_of s) (sym new.progress.number)

    own : IsNew x x.progress.id x.progress.commands
    own = subst (IsNew x x.progress.id) (sym new.progress.commands_are) (subst (λ k. IsNew x k (commands_of s b)) (sym new.progress.number) new)

-- one more
pub begins_more : (s : Scenario) (bs : List Backend) (n : ℕ) (y : Backend) (commands : List Command) → length s.commands ≤ 20000 → commands ≡ commands_of s (n + 1) → Begins s bs n → n < s.backends → IsNew y (n + 1) commands
    → Begins s (bs ++ y ∷ []) (n + 1)
begins_more s bs n y commands few copies begins within new = record {
  count = length_push bs y ∙ ap (λ k. k + 1) begins.count;
  each = λ i x at. by_place i x (last_or_before bs y x i at);
}
  where
    by_place : (i : ℕ) (x : Backend) → (slice_get bs i ≡ Some x) ⊎ ((i ≡ length bs) × (y ≡ x)) → StandsAt s [] (i + 1) x
    by_place i x (inl before) = begins.each i x before
    by_place i x (inr last) =
        let here : n + 1 ≡ i + 1 = omega (arith, last.0, begins.count) in
        subst (StandsAt s [] (i + 1)) last.1 (record { id = new.progress.number ∙ here; stands = new_stands s y (n + 1) few (omega arith, omega (arith, within)) (subst (IsNew y (n + 1)) copies new) })
