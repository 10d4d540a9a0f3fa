-- A walk that is refused memory has followed the schedule so far.
use Rattle.std.proofs.Common.{◌≡◌, ◌<◌, ◌+◌, ◌-◌, ◌∙◌, ◌++◌, ◌∷◌, ℕ, false, List, [], refl, sym, ap, subst, length, take, drop, replicate, slice_get, get_or, Result, Ok, Err, OnErr, append_assoc, append-nil, arith}
use Rattle.std.specs.List.{flat_map}
use Rattle.std.proofs.lemmas.Grind.{flat_map-append}
use Rattle.std.proofs.lemmas.List.{take-append-drop, replicate_more, replicate-append-replicate}
use Rattle.base_types.specs.Scenario.{Scenario, IsBackend, schedule_of}
use Rattle.event_kinds.specs.declared.entry.Entry.{Entry}
use Rattle.history_model.proofs.ListSteps.{flat_map_next}
use Rattle.cacheless.specs.Schedule.{FollowsSchedule, has_stopped, pass_stopped}
use Rattle.backend_core.specs.declared.backend.Backend.{Backend}
use Rattle.backend_core.specs.Words.{has_left}
use Rattle.walk_run.specs.Walks.{AllStand, HasSchedule, IsDue, Goes, GoesOn, FollowsTurn, FollowsSteps, FollowsStops}
use Rattle.walk_run.proofs.ScheduleSteps.{stands_there, stopped_at, turns_by-schedule}
use Rattle.walk_run.proofs.OneAfterAnother.{first_turn, goes_on_then}

-- a backend that is read as running hasn't stopped
runs_there : (s : Scenario) (h : List Entry) (bs : List Backend) (b : ℕ) (was : Backend) → IsBackend s.backends b → AllStand s h bs → was ≡ get_or bs (b - 1) was → has_left was.life ≡ false → has_stopped h b ≡ false
runs_there s h bs b was number stand same running = stopped_at s h b was (stands_there s h bs b was number stand same) ∙ running

-- a step of the schedule is its backend's turn
turn_follows : (s : Scenario) (h h' : List Entry) (b : ℕ) → has_stopped h b ≡ false → FollowsTurn s h h' b → FollowsSteps s h h' (b ∷ [])
turn_follows s h h' b running turn = record {
  follows = λ has rest due.
      let first : pass_stopped h (b ∷ rest) ≡ b ∷ rest = rw running refl in
      turn.follows due.follows (ap (λ turns. slice_get turns 0) (turns_by-schedule s h s.steps has ∙ due.left ∙ first));
}

pub step_follows : {T E : Type 0} (s : Scenario) (h h' : List Entry) (bs : List Backend) (b : ℕ) (was : Backend) (result : Result T E) → IsBackend s.backends b → AllStand s h bs → was ≡ get_or bs (b - 1) was → has_left was.life ≡ false
    → OnErr result (FollowsTurn s h h' b) → OnErr result (FollowsSteps s h h' (b ∷ []))
step_follows s h h' bs b was (Ok x) number stand same running turn = tt
step_follows s h h' bs b was (Err e) number stand same running turn = turn_follows s h h' b (runs_there s h bs b was number stand same running) turn

-- some of the steps after others, before further ones
steps_follow : (s t : Scenario) (h h' h'' : List Entry) (bs' : List Backend) (xs ys zs : List ℕ) → t ≡ s → Goes s h h' bs' xs → FollowsSteps t h' h'' ys → FollowsSteps s h h'' ((xs ++ ys) ++ zs)
steps_follow s t h h' h'' bs' xs ys zs same goes later =
    let second : FollowsSteps s h' h'' ys = subst (λ x. FollowsSteps x h' h'' ys) same later in
    record { follows = λ has rest due. second.follows has (zs ++ rest) (goes.due has (ys ++ (zs ++ rest)) (subst (IsDue s h) (apart rest) due)) }
  where
    apart : (rest : List ℕ) → ((xs ++ ys) ++ zs) ++ rest ≡ xs ++ (ys ++ (zs ++ rest))
    apart rest = append_assoc (xs ++ ys) zs rest ∙ append_assoc xs ys (zs ++ rest)

-- of an item
pub turns_follow : (s t : Scenario) (h h' h'' : List Entry) (bs' : List Backend) (i n b : ℕ) → i < n → t ≡ s → Goes s h h' bs' (replicate i b) → FollowsSteps t h' h'' (b ∷ []) → FollowsSteps s h h'' (replicate n b)
turns_follow s t h h' h'' bs' i n b within same goes later = subst (FollowsSteps s h h'') all (steps_follow s t h h' h'' bs' (replicate i b) (b ∷ []) (replicate (n - (i + 1)) b) same goes later)
  where
    all : (replicate i b ++ b ∷ []) ++ replicate (n - (i + 1)) b ≡ replicate n b
    all = ap (λ l. l ++ replicate (n - (i + 1)) b) (replicate_more i b) ∙ replicate-append-replicate (i + 1) (n - (i + 1)) b ∙ ap (λ k. replicate k b) (let k : (i + 1) + (n - (i + 1)) ≡ n = omega (arith, within) in k)

-- of a line, or of all lines
pub items_follow : {X : Type 0} (f : X → List ℕ) (s t : Scenario) (h h' h'' : List Entry) (bs' : List Backend) (xs : List X) (i : ℕ) (x : X) → i < length xs → x ≡ get_or xs i x → t ≡ s → Goes s h h' bs' (flat_map f (take i xs)) → FollowsSteps t h' h'' (f x) → FollowsSteps s h h'' (flat_map f xs)
items_follow f s t h h' h'' bs' xs i x within is same goes later = subst (FollowsSteps s h h'') all (steps_follow s t h h' h'' bs' (flat_map f (take i xs)) (f x) (flat_map f (drop (i + 1) xs)) same goes later)
  where
    all : (flat_map f (take i xs) ++ f x) ++ flat_map f (drop (i + 1) xs) ≡ flat_map f xs
    all = ap (λ l. l ++ flat_map f (drop (i + 1) xs)) (flat_map_next f [] xs i x x (flat_map f (take i xs)) within is refl) ∙ sym (flat_map-append f (take (i + 1) xs) (drop (i + 1) xs)) ∙ ap (flat_map f) (take-append-drop (i + 1) xs)

-- by the whole schedule
pub schedule_follows : (s : Scenario) (start h : List Entry) → HasSchedule s → start ≡ [] → FollowsSteps s start h (schedule_of s) → FollowsSchedule s h
schedule_follows s start h has first steps =
    (subst (λ x. FollowsSteps s x h (schedule_of s)) first steps).follows has [] (record { follows = tt; left = ap (pass_stopped []) (sym (append-nil (schedule_of s))) })

-- without a schedule: an entry of the first backend that hasn't stopped
pub stops_follow : (s t : Scenario) (h h' h'' : List Entry) (bs' : List Backend) (b : ℕ) (was : Backend) → t ≡ s → IsBackend s.backends b → GoesOn s h (b - 1) h' bs' (b - 1) → was ≡ get_or bs' (b - 1) was → has_left was.life ≡ false → FollowsTurn t h' h'' b → FollowsStops s h (b - 1) h''
stops_follow s t h h' h'' bs' b was same number goes at running later =
    let turn : FollowsTurn s h' h'' b = subst (λ x. FollowsTurn x h' h'' b) same later in
    record { follows = λ none before. let now = goes.turn none before in turn.follows now.follows (first_turn s h' b none number (runs_there s h' bs' b was number goes.stand at running) now) }

-- the next backend after those that have stopped
pub next_follows : (s t : Scenario) (h h' h'' : List Entry) (bs' : List Backend) (n m k : ℕ) → t ≡ s → k ≡ m → GoesOn s h n h' bs' m → FollowsStops t h' k h'' → FollowsStops s h n h''
next_follows s t h h' h'' bs' n m k same is goes later =
    let second : FollowsStops s h' m h'' = subst (λ x. FollowsStops s h' x h'') is (subst (λ x. FollowsStops x h' k h'') same later) in
    record { follows = λ none before. second.follows none (goes.turn none before) }

pub next_goes : (s t : Scenario) (h h' h'' : List Entry) (bs' bs'' : List Backend) (n m k last : ℕ) → t ≡ s → k ≡ m → GoesOn s h n h' bs' m → GoesOn t h' k h'' bs'' last → GoesOn s h n h'' bs'' last
next_goes s t h h' h'' bs' bs'' n m k last same is goes later = goes_on_then s t h h' h'' bs' bs'' n m last same goes (subst (λ x. GoesOn t h' x h'' bs'' last) is later)

-- from the beginning
pub all_follow : (s : Scenario) (start h : List Entry) → s.steps ≡ [] → start ≡ [] → FollowsStops s start 0 h → FollowsSchedule s h
all_follow s start h none first stops = (subst (λ x. FollowsStops s x 0 h) first stops).follows none (record { follows = tt; stopped = λ b from to. absurd (omega arith) })
