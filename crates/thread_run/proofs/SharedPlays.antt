-- What goes round, as a turn finds it and as it leaves it.
use Rattle.std.proofs.Common.{◌≡◌, ◌≢◌, ◌≤◌, ◌∙◌, ◌++◌, ◌==◌, ◌⊎◌, inl, inr, ℕ, max, Bool, true, false, List, sym, ap, subst, length, arith, Result, IfOk}
use Rattle.std.proofs.lemmas.Bool.Decides.{eqb_tells}
use Rattle.base_types.specs.Scenario.{Scenario, IsBackend}
use Rattle.event_kinds.specs.declared.entry.Entry.{Entry}
use Rattle.shared_seg.specs.Kept.{places_in}
use Rattle.turn_table.specs.Histories.{Grew}
use Rattle.ddl_effect.specs.Commands.{commands_of}
use Rattle.backend_core.specs.declared.backend.Backend.{Backend}
use Rattle.backend_core.specs.declared.turns.HeldLook.{HeldLook}
use Rattle.backend_core.specs.Agrees.{IsPlayed}
use Rattle.backend_core.specs.Apart.{IsHolding}
use Rattle.backend_core.specs.Cuts.{cut}
use Rattle.backend_core.specs.Looks.{entries_of}
use Rattle.backend_core.proofs.Cutting.Scripts.{cut_is}
use Rattle.backend_core.specs.Places.{PromisesOnly, Always}
use Rattle.thread_run.specs.Runs.{IsRunSoFar}
use Rattle.thread_run.specs.Scripts.{Play, IsLeft, commands_left}
use Rattle.thread_run.specs.Turns.{backend_of, right_before, MakesAll, IsHalting}
use Rattle.backend_core.proofs.PlacesWanted.{only_then}
use Rattle.thread_run.proofs.Scripts.{left_backend}

-- what callers said of the value holds of what is inside
pub backend_inside : (k now : Play) (b : ℕ) → k ≡ now → IsLeft k.whole k.shared.script → IsBackend now.whole.backends b → IsBackend k.shared.script.backends b
backend_inside k now b is left backend = left_backend k.whole k.shared.script b left (subst (λ (x : Play). IsBackend x.whole.backends b) (sym is) backend)

pub holds_inside : (k now : Play) (enters : Bool) (b : ℕ) (held : List HeldLook) (s : Backend) → k ≡ now → IsLeft k.whole k.shared.script → IsRunSoFar k.shared.script k.shared.history
    → (IsLeft now.whole now.shared.script → IsPlayed now.shared.script now.shared.history → IsHolding (right_before enters) now.shared.script b now.shared.history held s) → IsHolding (right_before enters) k.shared.script b k.shared.history held s
holds_inside k now enters b held s is left run holds = subst (λ (x : Play). IsLeft x.whole x.shared.script → IsPlayed x.shared.script x.shared.history → IsHolding (right_before enters) x.shared.script b x.shared.history held s) (sym is) holds left run.played

pub halts_inside : (k now : Play) (b n : ℕ) (held : List HeldLook) (s : Backend) → k ≡ now → IsLeft k.whole k.shared.script → IsRunSoFar k.shared.script k.shared.history
    → (IsLeft now.whole now.shared.script → IsPlayed now.shared.script now.shared.history → IsHalting now.shared.script b n now.shared.history held s) → IsHalting k.shared.script b n k.shared.history held s
halts_inside k now b n held s is left run halts = subst (λ (x : Play). IsLeft x.whole x.shared.script → IsPlayed x.shared.script x.shared.history → IsHalting x.shared.script b n x.shared.history held s) (sym is) halts left run.played

-- and the other way round, of how the history grew
pub grew_outside : (k now : Play) (b : ℕ) (new : List Entry) → k ≡ now → Grew backend_of b k.shared.history new → Grew backend_of b now.shared.history new
grew_outside k now b new is grew = subst (λ (x : Play). Grew backend_of b x.shared.history new) is grew

-- and of what is promised to somebody
pub promises_outside : (k now : Play) (a n : ℕ) → k ≡ now → n ≡ places_in k.shared a → n ≡ places_in now.shared a
promises_outside k now a n is same = same ∙ ap (λ (x : Play). places_in x.shared a) is

-- and to the backend itself
pub only_outside : (k now : Play) (b n : ℕ) (new : List Entry) → k ≡ now → PromisesOnly k.shared.script b k.shared.history new (places_in k.shared b) n → PromisesOnly now.shared.script b now.shared.history new (places_in now.shared b) n
only_outside k now b n new is only = subst (λ (x : Play). PromisesOnly x.shared.script b x.shared.history new (places_in x.shared b) n) is only

pub none_outside : (k now : Play) (b n : ℕ) → k ≡ now → (32 ≤ places_in k.shared b → n ≤ places_in k.shared b) → 32 ≤ places_in now.shared b → n ≤ places_in now.shared b
none_outside k now b n is none = subst (λ (x : Play). 32 ≤ places_in x.shared b → n ≤ places_in x.shared b) is none

pub most_outside : (k now : Play) (script : Scenario) (b n : ℕ) (new : List Entry) → k ≡ now → n ≤ max (places_in k.shared b) 48 → PromisesOnly script b now.shared.history new (places_in now.shared b) n
most_outside k now script b n new is most = Always (subst (λ (x : Play). n ≤ max (places_in x.shared b) 48) is most)

-- after its looks, by a script that was told anew
pub stop_only : (k now : Play) (script later : Scenario) (b handed retold n : ℕ) (held : List HeldLook) (hands new : List Entry) → k ≡ now → handed ≤ max (places_in k.shared b) 48 → retold ≡ handed → later ≡ script → hands ≡ k.shared.history ++ entries_of b held → Grew backend_of b hands new → PromisesOnly script b hands new retold n
    → PromisesOnly later b now.shared.history new (places_in now.shared b) n
stop_only k now script later b handed retold n held hands new is most same then looks grew only =
    only_then (entries_of b held) grew.rest (looks ∙ ap (λ (x : Play). x.shared.history ++ entries_of b held) is) grew.grows (most_outside k now later b retold hands is (omega (arith, most, same))) (subst (λ (s : Scenario). PromisesOnly s b hands new retold n) (sym then) only)

-- a script that is cut has all commands of the others
pub others_keep : (k now : Play) (b n a : ℕ) (part : Scenario) → k ≡ now → part ≡ cut b n k.shared.script → a ≢ b → length (commands_of part a) ≡ commands_left now a
others_keep k now b n a part is less apart = by_number (eqb_tells a b)
  where
    by_number : (((a == b) ≡ true) × (a ≡ b)) ⊎ (((a == b) ≡ false) × (a ≢ b)) → length (commands_of part a) ≡ commands_left now a
    by_number (inl same) = absurd (apart same.1)
    by_number (inr other) = ap (λ s. length (commands_of s a)) less ∙ ap (λ l. length l) ((cut_is b n k.shared.script).others a other.0) ∙ ap (λ (x : Play). commands_left x a) is

-- and the same backends
pub backend_cut : (b n a : ℕ) (scenario part : Scenario) → part ≡ cut b n scenario → IsBackend scenario.backends a → IsBackend part.backends a
backend_cut b n a scenario part is backend = subst (λ m. IsBackend m a) (sym (ap (λ s. s.backends) is)) backend

-- and of how many entries a turn makes
pub full_outside : {E : Type 0} (k now : Play) (s : Backend) (n : ℕ) (new : List Entry) (result : Result Bool E) → k ≡ now → IfOk result (λ over. MakesAll over s n k.shared.history new) → IfOk result (λ over. MakesAll over s n now.shared.history new)
full_outside k now s n new result is full = subst (λ (x : Play). IfOk result (λ over. MakesAll over s n x.shared.history new)) is full
