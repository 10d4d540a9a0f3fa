-- Whose turn comes, over one entry more.
use Rattle.std.proofs.Common.{◌≡◌, ◌≢◌, ◌≤◌, ◌<◌, ◌+◌, ◌-◌, ◌∙◌, ◌⊎◌, inl, inr, ℕ, zero, suc, Bool, true, false, not, Option, Some, None, List, [], ◌∷◌, ◌++◌, ◌==◌, refl, sym, ap, subst, length, take, drop, filter, get_or, slice_get, slice_set, replicate, arith}
use Rattle.std.specs.List.{AllByRecursion, range_with_len, flat_map}
use Rattle.std.proofs.lemmas.Bool.{ne_eqb, eq-eqb}
use Rattle.std.proofs.lemmas.Bool.Decides.{eqb_tells}
use Rattle.std.proofs.lemmas.List.Elements.{All-get_or, All-from_recursion}
use Rattle.std.proofs.lemmas.List.{drop-drop, drop_more, drop_all, take_all, get_or_default, length-replicate}
use Rattle.std.proofs.lemmas.Option.{slice_get_read}
use Rattle.base_types.specs.declared.command.Turns.{Turns}
use Rattle.base_types.specs.Scenario.{IsBackend, IsScript, AreTurns, schedule_of, turns_of}
use Rattle.event_kinds.specs.declared.entry.Event.TheVariants.{Stop}
use Rattle.history_model.specs.Lives.{life_by}
use Rattle.history_model.proofs.Prefixes.{along-more}
use Rattle.history_model.proofs.Reading.{life_of-own, life_of-other}
use Rattle.history_model.proofs.ListSteps.{prefix_more}
use Rattle.cacheless.specs.Schedule.{FollowsSchedule, is_stopped, has_stopped, pass_stopped, steps_after, turns_by, turns_left}
use Rattle.by_backend.proofs.Places.{get_of_set, get_beside_set}
use Rattle.check_tool.specs.Types.{Scenario, Entry, Event}
use Rattle.check_tool.specs.Turning.{TellStopped, stopped_after}
use Rattle.check_tool.specs.Reached.{HaveFollowed}
use Rattle.check_tool.proofs.Longest.{each_next, longest_here, longest_all}
use Rattle.check_tool.proofs.Places.{of_replicate}

-- ---- who has stopped

stopped_by : (command : ℕ) (event : Event) → is_stopped (life_by command event) ≡ stopped_after event
stopped_by command Stop = refl
stopped_by command event = refl

-- one that is read
told : (seen : List Entry) (stopped : List Bool) (b : ℕ) (d : Bool) → TellStopped seen stopped → IsBackend (length stopped) b → get_or stopped (b - 1) d ≡ has_stopped seen b
told seen stopped b d tell number =
    let has = get_or stopped (b - 1) d in
    let n : (b - 1) + 1 ≡ b = omega (arith, number.0) in
    let within : b - 1 < length stopped = omega (arith, number.0, number.1) in
    subst (λ k. has ≡ has_stopped seen k) n (tell (b - 1) has (slice_get_read stopped (length stopped) (b - 1) has refl within (get_or_default stopped (b - 1) d has within)))

-- after one entry more
pub stopped_more : (seen : List Entry) (e : Entry) (stopped : List Bool) (now : Bool) → TellStopped seen stopped → IsBackend (length stopped) e.backend → now ≡ stopped_after e.event → TellStopped (seen ++ e ∷ []) (slice_set stopped (e.backend - 1) now)
stopped_more seen e stopped now tell number is i has at = by_place i has at (eqb_tells (e.backend - 1) i)
  where
    was : Bool
    was = get_or stopped (e.backend - 1) false

    there : slice_get stopped (e.backend - 1) ≡ Some was
    there = slice_get_read stopped (length stopped) (e.backend - 1) was refl (omega (arith, number.0, number.1)) (get_or_default stopped (e.backend - 1) false was (omega (arith, number.0, number.1)))

    by_place : (i : ℕ) (has : Bool) → slice_get (slice_set stopped (e.backend - 1) now) i ≡ Some has → ((((e.backend - 1) == i) ≡ true) × ((e.backend - 1) ≡ i)) ⊎ ((((e.backend - 1) == i) ≡ false) × ((e.backend - 1) ≢ i))
        → has ≡ has_stopped (seen ++ e ∷ []) (i + 1)
    by_place i has at (inl same) =
        let here : slice_get (slice_set stopped (e.backend - 1) now) (e.backend - 1) ≡ Some has = ap (slice_get (slice_set stopped (e.backend - 1) now)) same.1 ∙ at in
        let own : e.backend ≡ i + 1 = omega (arith, number.0, same.1) in
        get_of_set stopped (e.backend - 1) now was has there here ∙ is ∙ sym (ap is_stopped (life_of-own seen e (i + 1) (eq-eqb e.backend (i + 1) own)) ∙ stopped_by e.command e.event)
    by_place i has at (inr apart) =
        let other : (e.backend == i + 1) ≡ false = ne_eqb e.backend (i + 1) (λ same. apart.1 (omega (arith, same))) in
        tell i has (sym (get_beside_set stopped (e.backend - 1) i now apart.1) ∙ at) ∙ sym (ap is_stopped (life_of-other seen e (i + 1) other))

-- before the first entry
pub stopped_none : (n : ℕ) (stopped : List Bool) → stopped ≡ replicate n false → TellStopped [] stopped
stopped_none n stopped same i has at = of_replicate n false has i (ap (λ all. slice_get all i) (sym same) ∙ at)

-- ---- steps of backends that have stopped

step_of : (stopped : List Bool) (steps : List ℕ) (at : ℕ) → AllByRecursion (IsBackend (length stopped)) steps → at < length steps → IsBackend (length stopped) (get_or steps at 0)
step_of stopped steps at all within = All-get_or (IsBackend (length stopped)) steps at 0 within (All-from_recursion (IsBackend (length stopped)) steps all)

-- the step of one that has
pub pass_one : (stopped : List Bool) (steps : List ℕ) (at : ℕ) (d : Bool) → AllByRecursion (IsBackend (length stopped)) steps → at < length steps → get_or stopped (get_or steps at 0 - 1) d ≡ true
    → (seen : List Entry) → TellStopped seen stopped → pass_stopped seen (drop at steps) ≡ pass_stopped seen (drop (at + 1) steps)
pass_one stopped steps at d all within has seen tell =
    let stops : has_stopped seen (get_or steps at 0) ≡ true = sym (told seen stopped (get_or steps at 0) d tell (step_of stopped steps at all within)) ∙ has in
    ap (pass_stopped seen) (drop_more steps at 0 within) ∙ rw stops refl

-- that of one that hasn't
pub pass_here : (stopped : List Bool) (steps : List ℕ) (at : ℕ) (d : Bool) → AllByRecursion (IsBackend (length stopped)) steps → at < length steps → get_or stopped (get_or steps at 0 - 1) d ≡ false
    → (seen : List Entry) → TellStopped seen stopped → pass_stopped seen (drop at steps) ≡ drop at steps
pass_here stopped steps at d all within has seen tell =
    let runs : has_stopped seen (get_or steps at 0) ≡ false = sym (told seen stopped (get_or steps at 0) d tell (step_of stopped steps at all within)) ∙ has in
    ap (pass_stopped seen) (drop_more steps at 0 within) ∙ rw runs (sym (drop_more steps at 0 within))

-- no step is left
pub pass_end : (seen : List Entry) (steps : List ℕ) (at : ℕ) → length steps ≤ at → pass_stopped seen (drop at steps) ≡ drop at steps
pass_end seen steps at past = ap (pass_stopped seen) (drop_all at steps past) ∙ sym (drop_all at steps past)

-- ---- the first that hasn't stopped

abbrev runs_in : List Entry → ℕ → Bool
runs_in seen b = not (has_stopped seen b)

-- all before this one have
abbrev pub IsFirstOf : List Bool → ℕ → Type 0
IsFirstOf stopped i = (seen : List Entry) → TellStopped seen stopped → slice_get (filter (runs_in seen) (range_with_len 1 (length stopped))) 0 ≡ slice_get (filter (runs_in seen) (range_with_len (i + 1) (length stopped - i))) 0

range_more : (a n m : ℕ) → n ≡ suc m → range_with_len a n ≡ a ∷ range_with_len (a + 1) m
range_more a n m same = ap (range_with_len a) same

-- there are none before the first
pub first_start : (stopped : List Bool) → IsFirstOf stopped 0
first_start stopped seen tell = ap (λ n. slice_get (filter (runs_in seen) (range_with_len 1 n)) 0) (omega arith)

-- so has this one
pub first_next : (stopped : List Bool) (i : ℕ) (has d : Bool) → i < length stopped → has ≡ get_or stopped i d → has ≡ true → IsFirstOf stopped i → IsFirstOf stopped (i + 1)
first_next stopped i has d within is stops first seen tell =
    let stop : has_stopped seen (i + 1) ≡ true = sym (tell i has (slice_get_read stopped (length stopped) i has refl within (is ∙ get_or_default stopped i d has within))) ∙ stops in
    first seen tell ∙ ap (λ all. slice_get (filter (runs_in seen) all) 0) (range_more (i + 1) (length stopped - i) (length stopped - (i + 1)) (omega (arith, within))) ∙ rw stop refl

-- this one hasn't
pub first_here : (stopped : List Bool) (i : ℕ) (has d : Bool) → i < length stopped → has ≡ get_or stopped i d → has ≡ false → IsFirstOf stopped i
    → (seen : List Entry) → TellStopped seen stopped → Some (i + 1) ≡ slice_get (filter (runs_in seen) (range_with_len 1 (length stopped))) 0
first_here stopped i has d within is runs first seen tell =
    let run : has_stopped seen (i + 1) ≡ false = sym (tell i has (slice_get_read stopped (length stopped) i has refl within (is ∙ get_or_default stopped i d has within))) ∙ runs in
    sym (first seen tell ∙ ap (λ all. slice_get (filter (runs_in seen) all) 0) (range_more (i + 1) (length stopped - i) (length stopped - (i + 1)) (omega (arith, within))) ∙ rw run refl)

-- all have
pub first_never : (stopped : List Bool) (i : ℕ) → length stopped ≤ i → IsFirstOf stopped i → (seen : List Entry) → TellStopped seen stopped → None ≡ slice_get (filter (runs_in seen) (range_with_len 1 (length stopped))) 0
first_never stopped i past first seen tell =
    let none : length stopped - i ≡ 0 = omega (arith, past) in
    sym (first seen tell ∙ ap (λ n. slice_get (filter (runs_in seen) (range_with_len (i + 1) n)) 0) none)

-- ---- the steps of a script are of its backends

replicate_all : (n b backends : ℕ) → IsBackend backends b → AllByRecursion (IsBackend backends) (replicate n b)
replicate_all zero b backends number = tt
replicate_all (suc n) b backends number = (number, replicate_all n b backends number)

append_all : (backends : ℕ) (xs ys : List ℕ) → AllByRecursion (IsBackend backends) xs → AllByRecursion (IsBackend backends) ys → AllByRecursion (IsBackend backends) (xs ++ ys)
append_all backends [] ys all more = more
append_all backends (x ∷ xs) ys all more = (all.0, append_all backends xs ys all.1 more)

turns_all : (backends : ℕ) (line : List Turns) → AllByRecursion (AreTurns backends) line → AllByRecursion (IsBackend backends) (turns_of line)
turns_all backends [] all = tt
turns_all backends (t ∷ line) all = append_all backends (replicate t.count t.backend) (turns_of line) (replicate_all t.count t.backend backends all.0.0) (turns_all backends line all.1)

lines_all : (backends : ℕ) (lines : List (List Turns)) → AllByRecursion (λ line. (1 ≤ length line) × AllByRecursion (AreTurns backends) line) lines → AllByRecursion (IsBackend backends) (flat_map turns_of lines)
lines_all backends [] all = tt
lines_all backends (line ∷ lines) all = append_all backends (turns_of line) (flat_map turns_of lines) (turns_all backends line all.0.1) (lines_all backends lines all.1)

-- each step is of a backend of the script
pub schedule_all : (scenario : Scenario) → IsScript scenario → AllByRecursion (IsBackend scenario.backends) (schedule_of scenario)
schedule_all scenario script = lines_all scenario.backends scenario.steps script.turns

-- ---- how far entries follow

abbrev TakesTurn : Scenario → List Entry → Entry → Type 0
TakesTurn scenario before e = slice_get (turns_left scenario before) 0 ≡ Some e.backend

turns_by-none : (scenario : Scenario) (seen : List Entry) (lines : List (List Turns)) → lines ≡ [] → turns_by scenario seen lines ≡ filter (runs_in seen) (range_with_len 1 scenario.backends)
turns_by-none scenario seen lines none = ap (turns_by scenario seen) none

turns_by-some : (scenario : Scenario) (seen : List Entry) (lines : List (List Turns)) → 0 < length lines → turns_by scenario seen lines ≡ pass_stopped seen (steps_after scenario seen)
turns_by-some scenario seen [] some = absurd (omega (arith, some))
turns_by-some scenario seen (line ∷ lines) some = refl

-- entries that follow, with who has stopped by them
pub record Follows (scenario : Scenario) (seen : List Entry) (stopped : List Bool) : Type 0 where
  pub follows : FollowsSchedule scenario seen
  pub tell : TellStopped seen stopped
  pub count : length stopped ≡ scenario.backends

-- none yet
pub follows_none : (scenario : Scenario) (stopped : List Bool) → stopped ≡ replicate scenario.backends false → Follows scenario [] stopped
follows_none scenario stopped same = record { follows = tt; tell = stopped_none scenario.backends stopped same; count = ap length same ∙ length-replicate scenario.backends false }

-- one more, of the backend whose turn it is
pub follows_more : (scenario : Scenario) (entries : List Entry) (at : ℕ) (e d : Entry) (stopped later : List Bool) (turn : Option ℕ) → at < length entries → e ≡ get_or entries at d → Follows scenario (take at entries) stopped
    → slice_get (turns_left scenario (take at entries)) 0 ≡ turn → turn ≡ Some e.backend → ((seen : List Entry) → TellStopped seen stopped → TellStopped (seen ++ e ∷ []) later) → length later ≡ length stopped → Follows scenario (take (at + 1) entries) later
follows_more scenario entries at e d stopped later turn within is held first own noted count = record {
  follows = each_next (TakesTurn scenario) entries at e d within is held.follows (first ∙ own);
  tell = subst (λ seen. TellStopped seen later) (sym (prefix_more entries at e d within is)) (noted (take at entries) held.tell);
  count = count ∙ held.count;
}

-- the next entry isn't of that backend
pub follows_here : (scenario : Scenario) (entries : List Entry) (at : ℕ) (e d : Entry) (turn : Option ℕ) → at < length entries → e ≡ get_or entries at d → FollowsSchedule scenario (take at entries)
    → slice_get (turns_left scenario (take at entries)) 0 ≡ turn → (turn ≡ Some e.backend → ⊥) → HaveFollowed scenario entries at turn
follows_here scenario entries at e d turn within is follows first never = record {
  longest = longest_here (TakesTurn scenario) entries at e d within is follows (λ takes. never (sym first ∙ takes));
  turn_is = first;
}

-- all entries follow
pub follows_whole : (scenario : Scenario) (entries : List Entry) (at : ℕ) (turn : Option ℕ) → length entries ≤ at → FollowsSchedule scenario (take at entries) → slice_get (turns_left scenario (take at entries)) 0 ≡ turn → HaveFollowed scenario entries (length entries) turn
follows_whole scenario entries at turn past follows first = record {
  longest = longest_all (FollowsSchedule scenario) entries at past follows;
  turn_is = ap (λ seen. slice_get (turns_left scenario seen) 0) (take_all (length entries) entries (omega arith) ∙ sym (take_all at entries past)) ∙ first;
}

-- ---- without lines of steps

-- the next turn is that of the first backend that hasn't stopped
pub turn_in_order : (scenario : Scenario) (seen : List Entry) (stopped given : List Bool) (turn : Option ℕ) → scenario.steps ≡ [] → Follows scenario seen stopped → given ≡ stopped
    → ((history : List Entry) → TellStopped history given → turn ≡ slice_get (filter (runs_in history) (range_with_len 1 (length given))) 0) → slice_get (turns_left scenario seen) 0 ≡ turn
turn_in_order scenario seen stopped given turn none held same first =
    ap (λ turns. slice_get turns 0) (turns_by-none scenario seen scenario.steps none) ∙ ap (λ n. slice_get (filter (runs_in seen) (range_with_len 1 n)) 0) (sym (ap length same ∙ held.count)) ∙ sym (first seen (subst (TellStopped seen) (sym same) held.tell))

-- ---- by lines of steps

-- all steps are of backends of which it is told whether they have stopped
pub steps_in_range : (scenario : Scenario) (seen : List Entry) (stopped given : List Bool) (steps all : List ℕ) → IsScript scenario → Follows scenario seen stopped → given ≡ stopped → all ≡ steps → steps ≡ schedule_of scenario → AllByRecursion (IsBackend (length given)) all
steps_in_range scenario seen stopped given steps all script held same listed scheduled =
    subst (λ n. AllByRecursion (IsBackend n) all) (sym (ap length same ∙ held.count)) (subst (AllByRecursion (IsBackend scenario.backends)) (sym (listed ∙ scheduled)) (schedule_all scenario script))

-- those of stopped backends are passed over
pub passed_over : (scenario : Scenario) (seen : List Entry) (stopped given : List Bool) (steps all : List ℕ) (taken next : ℕ) → Follows scenario seen stopped → given ≡ stopped → all ≡ steps
    → ((history : List Entry) → TellStopped history given → pass_stopped history (drop taken all) ≡ drop next all) → pass_stopped seen (drop taken steps) ≡ drop next steps
passed_over scenario seen stopped given steps all taken next held same listed passed =
    subst (λ xs. pass_stopped seen (drop taken xs) ≡ drop next xs) listed (passed seen (subst (TellStopped seen) (sym same) held.tell))

-- so many steps are taken
pub record HasTaken (scenario : Scenario) (seen : List Entry) (steps : List ℕ) (taken : ℕ) : Type 0 where
  pub within : taken ≤ length steps
  pub left : turns_left scenario seen ≡ pass_stopped seen (drop taken steps)

-- none yet
pub taken_none : (scenario : Scenario) (steps : List ℕ) → 0 < length scenario.steps → steps ≡ schedule_of scenario → HasTaken scenario [] steps 0
taken_none scenario steps some same = record { within = omega arith; left = turns_by-some scenario [] scenario.steps some ∙ ap (pass_stopped []) (sym same) }

-- the next turn is that of the step at the place to which it was passed
pub turn_by_steps : (scenario : Scenario) (seen : List Entry) (steps : List ℕ) (taken next : ℕ) (turn : Option ℕ) → HasTaken scenario seen steps taken → pass_stopped seen (drop taken steps) ≡ drop next steps → turn ≡ slice_get steps next
    → slice_get (turns_left scenario seen) 0 ≡ turn
turn_by_steps scenario seen steps taken next turn held passed is = ap (λ turns. slice_get turns 0) (held.left ∙ passed) ∙ first_left steps next ∙ sym is
  where
    first_left : (xs : List ℕ) (n : ℕ) → slice_get (drop n xs) 0 ≡ slice_get xs n
    first_left xs zero = refl
    first_left [] (suc n) = refl
    first_left (x ∷ xs) (suc n) = first_left xs n

-- one step more
pub taken_more : (scenario : Scenario) (seen : List Entry) (e : Entry) (steps : List ℕ) (taken next : ℕ) → 0 < length scenario.steps → HasTaken scenario seen steps taken → pass_stopped seen (drop taken steps) ≡ drop next steps → next < length steps
    → HasTaken scenario (seen ++ e ∷ []) steps (next + 1)
taken_more scenario seen e steps taken next some held passed within = record {
  within = omega (arith, within);
  left = turns_by-some scenario (seen ++ e ∷ []) scenario.steps some ∙ ap (pass_stopped (seen ++ e ∷ []))
      (along-more (λ before left y. drop 1 (pass_stopped before left)) (schedule_of scenario) seen e ∙ ap (drop 1) (sym (turns_by-some scenario seen scenario.steps some) ∙ held.left ∙ passed) ∙ drop-drop 1 next steps);
}

-- there is a step where a turn comes
pub step_within : (steps : List ℕ) (at b : ℕ) (turn : Option ℕ) → turn ≡ slice_get steps at → turn ≡ Some b → at < length steps
step_within steps at b turn is some = of steps at (sym is ∙ some)
  where
    of : (xs : List ℕ) (n : ℕ) → slice_get xs n ≡ Some b → n < length xs
    of [] n there = absurd cc
    of (x ∷ xs) zero there = omega arith
    of (x ∷ xs) (suc n) there = let less = of xs n there in omega (arith, less)

-- and it is of a backend
pub step_number : (stopped : List Bool) (steps : List ℕ) (at b : ℕ) (turn : Option ℕ) → AllByRecursion (IsBackend (length stopped)) steps → turn ≡ slice_get steps at → turn ≡ Some b → IsBackend (length stopped) b
step_number stopped steps at b turn all is some = of steps at all (sym is ∙ some)
  where
    of : (xs : List ℕ) (n : ℕ) → AllByRecursion (IsBackend (length stopped)) xs → slice_get xs n ≡ Some b → IsBackend (length stopped) b
    of [] n each there = absurd cc
    of (x ∷ xs) zero each there = subst (IsBackend (length stopped)) (the_same x b there) each.0
      where
        the_same : (x y : ℕ) → Some x ≡ Some y → x ≡ y
        the_same x y same = cc
    of (x ∷ xs) (suc n) each there = of xs n each.1 there
