-- A walk without a schedule brings each backend to its stop, one after another.
use Rattle.std.proofs.Common.{◌≡◌, ◌≢◌, ◌≤◌, ◌<◌, ◌+◌, ◌-◌, ◌∙◌, ℕ, true, false, not, Some, List, [], ◌∷◌, ◌++◌, ◌==◌, sym, ap, subst, length, filter, slice_get, get_or, arith, ◌⊎◌, inl, inr}
use Rattle.std.specs.List.{range_with_len}
use Rattle.std.proofs.lemmas.Bool.{ne_eqb}
use Rattle.std.proofs.lemmas.Bool.Decides.{eqb_tells}
use Rattle.std.proofs.lemmas.List.{length_push}
use Rattle.base_types.specs.declared.command.Turns.{Turns}
use Rattle.base_types.specs.Scenario.{Scenario, IsBackend}
use Rattle.event_kinds.specs.declared.entry.Entry.{Entry}
use Rattle.history_model.proofs.Prefixes.{EachEntry-more}
use Rattle.history_model.proofs.Reading.{life_of-other}
use Rattle.cacheless.specs.Schedule.{FollowsSchedule, IsComplete, is_stopped, has_stopped, turns_by, turns_left}
use Rattle.by_backend.proofs.PassingNumbers.{first_that_passes, none_passes}
use Rattle.backend_core.specs.declared.backend.Backend.{Backend}
use Rattle.backend_core.specs.Words.{has_left}
use Rattle.walk_run.specs.Walks.{AllStand, InTurn, GoesOn, IsRunning, Makes}
use Rattle.walk_run.proofs.ScheduleSteps.{stand_more, stands_there, stopped_at}

turns_by-none : (s : Scenario) (h : List Entry) (lines : List (List Turns)) → lines ≡ [] → turns_by s h lines ≡ filter (λ b. not (has_stopped h b)) (range_with_len 1 s.backends)
turns_by-none s h lines none = ap (turns_by s h) none

-- a backend that has stopped stays stopped
stays_stopped : (h : List Entry) (e : Entry) (b c : ℕ) → e.backend ≡ c → b ≢ c → has_stopped h b ≡ true → has_stopped (h ++ e ∷ []) b ≡ true
stays_stopped h e b c own apart stopped = ap is_stopped (life_of-other h e b (ne_eqb e.backend b (λ same. apart (sym same ∙ own)))) ∙ stopped

-- it is the turn of the first backend that hasn't stopped
pub first_turn : (s : Scenario) (h : List Entry) (b : ℕ) → s.steps ≡ [] → IsBackend s.backends b → has_stopped h b ≡ false → InTurn s h (b - 1) → slice_get (turns_left s h) 0 ≡ Some b
first_turn s h b none number running turn = ap (λ turns. slice_get turns 0) (turns_by-none s h s.steps none)
    ∙ first_that_passes (λ c. not (has_stopped h c)) 1 s.backends b number.0 (omega (arith, number.1)) (λ c from to. ap not (turn.stopped c from (omega arith))) (ap not running)

-- an entry of that one
turn_more : (s : Scenario) (h : List Entry) (e : Entry) (b : ℕ) → s.steps ≡ [] → IsBackend s.backends b → e.backend ≡ b → has_stopped h b ≡ false → InTurn s h (b - 1) → InTurn s (h ++ e ∷ []) (b - 1)
turn_more s h e b none number own running turn = record {
  follows = EachEntry-more (λ before y. slice_get (turns_left s before) 0 ≡ Some y.backend) h e turn.follows (first_turn s h b none number running turn ∙ ap Some (sym own));
  stopped = λ c from to. stays_stopped h e c b own (λ same. absurd (omega (arith, number.0))) (turn.stopped c from to);
}

-- nothing yet
pub goes_on_none : (s : Scenario) (h : List Entry) (bs : List Backend) (n : ℕ) → AllStand s h bs → GoesOn s h n h bs n
goes_on_none s h bs n stand = record { stand = stand; turn = λ none turn. turn }

-- and then more
pub goes_on_then : (s t : Scenario) (h h' h'' : List Entry) (bs' bs'' : List Backend) (n m k : ℕ) → t ≡ s → GoesOn s h n h' bs' m → GoesOn t h' m h'' bs'' k → GoesOn s h n h'' bs'' k
goes_on_then s t h h' h'' bs' bs'' n m k same first later =
    let second : GoesOn s h' m h'' bs'' k = subst (λ x. GoesOn x h' m h'' bs'' k) same later in
    record { stand = second.stand; turn = λ none turn. second.turn none (first.turn none turn) }

-- a step of the backend whose turn it is
pub goes_on_step : (s t : Scenario) (h h' h'' : List Entry) (bs' bs'' : List Backend) (b : ℕ) → t ≡ s → IsBackend s.backends b → GoesOn s h (b - 1) h' bs' (b - 1) → IsRunning bs' b → Makes t h' h'' bs' bs'' b → GoesOn s h (b - 1) h'' bs'' (b - 1)
goes_on_step s t h h' h'' bs' bs'' b same number goes running made =
    let makes : Makes s h' h'' bs' bs'' b = subst (λ x. Makes x h' h'' bs' bs'' b) same made in
    let n : (b - 1) + 1 ≡ b = omega (arith, number.0) in
    let at = goes.stand.each (b - 1) makes.was makes.is in
    let id : makes.was.progress.id ≡ b = at.id ∙ n in
    let alive : has_stopped h' b ≡ false = ap (has_stopped h') (sym n) ∙ stopped_at s h' ((b - 1) + 1) makes.was at ∙ running makes.was makes.is in
    record {
      stand = subst (AllStand s h'') (sym makes.set) (stand_more s h' h'' makes.had makes.has bs' (b - 1) makes.was makes.now goes.stand makes.is makes.steps makes.notes);
      turn = λ none turn. subst (λ x. InTurn s x (b - 1)) (sym makes.steps.makes.is) (turn_more s h' makes.steps.makes.entry b none number (makes.steps.makes.own ∙ id) alive (goes.turn none turn));
    }

-- and its stop
pub goes_on_stopped : (s : Scenario) (h h' : List Entry) (bs : List Backend) (b : ℕ) (was : Backend) → IsBackend s.backends b → GoesOn s h (b - 1) h' bs (b - 1) → was ≡ get_or bs (b - 1) was → has_left was.life ≡ true → GoesOn s h (b - 1) h' bs b
goes_on_stopped s h h' bs b was number goes same stopped =
    let done : has_stopped h' b ≡ true = stopped_at s h' b was (stands_there s h' bs b was number goes.stand same) ∙ stopped in
    record {
      stand = goes.stand;
      turn = λ none turn. record {
        follows = (goes.turn none turn).follows;
        stopped = λ c from to. by_place c from to ((goes.turn none turn).stopped) done (eqb_tells c b);
      };
    }
  where
    by_place : (c : ℕ) → 1 ≤ c → c ≤ b → ((d : ℕ) → 1 ≤ d → d ≤ b - 1 → has_stopped h' d ≡ true) → has_stopped h' b ≡ true → (((c == b) ≡ true) × (c ≡ b)) ⊎ (((c == b) ≡ false) × (c ≢ b)) → has_stopped h' c ≡ true
    by_place c from to before done (inl same) = ap (has_stopped h') same.1 ∙ done
    by_place c from to before done (inr apart) = let ne = apart.1 in before c from (omega arith)

-- a step leaves less room for entries
pub makes_less : (s : Scenario) (h h' : List Entry) (bs bs' : List Backend) (b most : ℕ) → Makes s h h' bs bs' b → length h' ≤ most → most - length h' < most - length h
makes_less s h h' bs bs' b most makes short =
    let longer : length h' ≡ length h + 1 = ap length makes.steps.makes.is ∙ length_push h makes.steps.makes.entry in
    omega (arith, longer, short)

-- a walk without a schedule follows it, and is complete
pub unscheduled_end : (s : Scenario) (h : List Entry) (bs : List Backend) → s.steps ≡ [] → GoesOn s [] 0 h bs s.backends → FollowsSchedule s h × IsComplete s h
unscheduled_end s h bs none goes =
    let turn = goes.turn none (record { follows = tt; stopped = λ b from to. absurd (omega arith) }) in
    (turn.follows, turns_by-none s h s.steps none ∙ none_passes (λ b. not (has_stopped h b)) 1 s.backends (λ c from to. ap not (turn.stopped c from (omega arith))))
