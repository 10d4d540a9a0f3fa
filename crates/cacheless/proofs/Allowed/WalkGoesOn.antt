-- A walk of a script goes on until all turns have been taken: after an allowed history, whose looks are true and which has followed the schedule, the backend whose turn it is has an entry that keeps all three.
use Rattle.std.proofs.Common.{◌≡◌, ◌≤◌, ◌<◌, ◌+◌, ◌∙◌, ℕ, zero, suc, Bool, true, false, not, Some, List, [], ◌∷◌, ◌++◌, refl, sym, ap, subst, length, drop, slice_get, arith}
use Rattle.std.specs.Prelude.{replicate, if◌then◌else◌}
use Rattle.std.specs.List.{AllByRecursion, flat_map, range_with_len}
use Rattle.base_types.specs.Scenario.{IsBackend, AreTurns, IsScript, turns_of, schedule_of}
use Rattle.base_types.specs.declared.command.Turns.{Turns}
use Rattle.history_model.proofs.Every.{every-append, every-filter, every-weaker}
use Rattle.history_model.proofs.Exclude.{in_range}
use Rattle.history_model.proofs.Prefixes.{EachEntry-more, along-keeps}
use Rattle.history_model.proofs.Touched.{entry_of}
use Rattle.cacheless.specs.Types.{Scenario, Entry}
use Rattle.cacheless.specs.Output.{IsAllowed, IsWalked}
use Rattle.cacheless.specs.Schedule.{has_stopped, pass_stopped, steps_after, turns_by, turns_left, LooksTruly, IsComplete}
use Rattle.cacheless.proofs.Allowed.NextEntries.{HasNext}
use Rattle.cacheless.proofs.Allowed.NeverStuck.{never_stuck}

-- a backend of the script that hasn't stopped
record MayTurn (scenario : Scenario) (history : List Entry) (b : ℕ) : Type 0 where
  number : IsBackend scenario.backends b
  stopped : has_stopped history b ≡ false

-- the steps of a script are of its backends
all_same : (P : ℕ → Type 0) (b n : ℕ) → P b → AllByRecursion P (replicate n b)
all_same P b zero is = tt
all_same P b (suc n) is = (is, all_same P b n is)

all_turns : (scenario : Scenario) (turns : List Turns) → AllByRecursion (AreTurns scenario.backends) turns → AllByRecursion (IsBackend scenario.backends) (turns_of turns)
all_turns scenario [] all = tt
all_turns scenario (t ∷ turns) all = every-append (IsBackend scenario.backends) (replicate t.count t.backend) (turns_of turns) (all_same (IsBackend scenario.backends) t.backend t.count all.0.0) (all_turns scenario turns all.1)

all_steps : (scenario : Scenario) (lines : List (List Turns)) → AllByRecursion (λ line. (1 ≤ length line) × AllByRecursion (AreTurns scenario.backends) line) lines → AllByRecursion (IsBackend scenario.backends) (flat_map turns_of lines)
all_steps scenario [] all = tt
all_steps scenario (line ∷ lines) all = every-append (IsBackend scenario.backends) (turns_of line) (flat_map turns_of lines) (all_turns scenario line all.0.1) (all_steps scenario lines all.1)

-- so are those that are left
all_passed : (P : ℕ → Type 0) (history : List Entry) (steps : List ℕ) → AllByRecursion P steps → AllByRecursion P (pass_stopped history steps)
all_passed P history [] all = tt
all_passed P history (b ∷ steps) all = by_test (has_stopped history b) (all_passed P history steps all.1)
  where
    by_test : (t : Bool) → AllByRecursion P (pass_stopped history steps) → AllByRecursion P (if t then pass_stopped history steps else b ∷ steps)
    by_test true rest = rest
    by_test false rest = all

all_dropped : (P : ℕ → Type 0) (n : ℕ) (steps : List ℕ) → AllByRecursion P steps → AllByRecursion P (drop n steps)
all_dropped P zero steps all = all
all_dropped P (suc n) [] all = tt
all_dropped P (suc n) (b ∷ steps) all = all_dropped P n steps all.1

all_after : (scenario : Scenario) (history : List Entry) → IsScript scenario → AllByRecursion (IsBackend scenario.backends) (steps_after scenario history)
all_after scenario history script = along-keeps (λ before steps. AllByRecursion (IsBackend scenario.backends) steps) (λ before steps e. drop 1 (pass_stopped before steps))
    (λ before steps e all. all_dropped (IsBackend scenario.backends) 1 (pass_stopped before steps) (all_passed (IsBackend scenario.backends) before steps all)) (schedule_of scenario) history (all_steps scenario scenario.steps script.turns)

-- the first of them hasn't stopped
first_passed : (history : List Entry) (steps : List ℕ) (b : ℕ) → slice_get (pass_stopped history steps) 0 ≡ Some b → has_stopped history b ≡ false
first_passed history [] b at = absurd (cc at)
first_passed history (step ∷ steps) b at = by_test (has_stopped history step) refl at (λ more. first_passed history steps b more)
  where
    by_test : (t : Bool) → has_stopped history step ≡ t → slice_get (if t then pass_stopped history steps else step ∷ steps) 0 ≡ Some b → (slice_get (pass_stopped history steps) 0 ≡ Some b → has_stopped history b ≡ false) → has_stopped history b ≡ false
    by_test true is here more = more here
    by_test false is here more = let same : step ≡ b = cc here in ap (has_stopped history) (sym same) ∙ is

first_of_all : {X : Type 0} (P : X → Type 0) (xs : List X) (x : X) → AllByRecursion P xs → slice_get xs 0 ≡ Some x → P x
first_of_all P [] x all at = absurd (cc at)
first_of_all P (y ∷ xs) x all at = let same : y ≡ x = cc at in subst P same all.0

-- the numbers of backends
all_numbers : (most : ℕ) → AllByRecursion (IsBackend most) (range_with_len 1 most)
all_numbers most = every-weaker (λ n. (1 ≤ n) × (n < most + 1)) (IsBackend most) (λ n within. (within.0, omega (arith, within.1))) (range_with_len 1 most) (in_range 1 (most + 1) 1 most (omega arith) (omega arith))

not_is : (t : Bool) → not t ≡ true → t ≡ false
not_is false is = refl
not_is true is = absurd (cc is)

-- the backend whose turn it is hasn't stopped
turn_live : (scenario : Scenario) (history : List Entry) (lines : List (List Turns)) (b : ℕ) → IsScript scenario → slice_get (turns_by scenario history lines) 0 ≡ Some b → MayTurn scenario history b
turn_live scenario history [] b script at = first_of_all (MayTurn scenario history) (turns_by scenario history []) b
    (every-filter (MayTurn scenario history) (λ x. not (has_stopped history x)) (range_with_len 1 scenario.backends) (every-weaker (IsBackend scenario.backends) (λ x. not (has_stopped history x) ≡ true → MayTurn scenario history x) (λ x number live. record { number = number; stopped = not_is (has_stopped history x) live }) (range_with_len 1 scenario.backends) (all_numbers scenario.backends))) at
turn_live scenario history (line ∷ lines) b script at = record {
  number = first_of_all (IsBackend scenario.backends) (pass_stopped history (steps_after scenario history)) b (all_passed (IsBackend scenario.backends) history (steps_after scenario history) (all_after scenario history script)) at;
  stopped = first_passed history (steps_after scenario history) b at;
}

-- one entry more
pub record WalksOn (scenario : Scenario) (history : List Entry) : Type 0 where
  pub entry : Entry
  pub allowed : IsAllowed scenario (history ++ entry ∷ [])
  pub walked : IsWalked scenario (history ++ entry ∷ [])

-- a walk that isn't complete goes on
pub walk_goes_on : (scenario : Scenario) (history : List Entry) → IsScript scenario → IsAllowed scenario history → IsWalked scenario history → (IsComplete scenario history → ⊥) → WalksOn scenario history
walk_goes_on scenario history script allowed walked going = by_turns (turns_left scenario history) refl
  where
    by_turns : (l : List ℕ) → turns_left scenario history ≡ l → WalksOn scenario history
    by_turns [] none = absurd (going none)
    by_turns (b ∷ more) are = record {
      entry = e;
      allowed = next.allowed;
      walked = record {
        follows = EachEntry-more (λ before x. slice_get (turns_left scenario before) 0 ≡ Some x.backend) history e walked.follows turn;
        looks = EachEntry-more (λ before x. LooksTruly before x.backend x.event) history e walked.looks next.truly;
      };
    }
      where
        turn : slice_get (turns_left scenario history) 0 ≡ Some b
        turn = ap (λ l. slice_get l 0) are

        live : MayTurn scenario history b
        live = turn_live scenario history scenario.steps b script turn

        next : HasNext scenario history b
        next = never_stuck scenario history b script.spelled live.number allowed live.stopped

        e : Entry
        e = entry_of b next.command next.event
