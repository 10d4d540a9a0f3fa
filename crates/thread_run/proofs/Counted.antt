-- How many commands a backend has finished, by its lines.
use Rattle.std.proofs.Common.{◌≡◌, ◌≤◌, ◌+◌, ◌<◌, ◌∙◌, ◌⊎◌, inl, inr, ℕ, Bool, true, Option, Some, None, List, [], ◌∷◌, length, slice_get, get_or, take, refl, sym, ap, subst, arith, Result, Ok, Err, OnOk}
use Rattle.std.proofs.lemmas.Option.{slice_get_cases}
use Rattle.base_types.specs.Scenario.{Scenario}
use Rattle.base_types.specs.declared.command.Command.{Command}
use Rattle.event_kinds.specs.declared.entry.Entry.{Entry}
use Rattle.cacheless.specs.Lines.{lines_from}
use Rattle.cacheless.specs.Session.{Finished}
use Rattle.backend_core.specs.declared.backend.Backend.{Backend}
use Rattle.backend_core.specs.declared.life.Life.{Life}
use Rattle.backend_core.specs.declared.life.Life.TheVariants as lives
use Rattle.backend_core.specs.Agrees.{AgreesNow, AwaitsEntry, HasNotJoined, HasLeft, Stands}
use Rattle.backend_core.specs.Cuts.{cut}
use Rattle.backend_core.specs.Looks.{IsOnItsWay}
use Rattle.backend_core.specs.Words.{has_left}
use Rattle.backend_core.proofs.Cutting.Scripts.{cut_is}
use Rattle.ddl_effect.specs.Commands.{commands_of}
use Rattle.thread_run.specs.Turns.{HasEnded, ComesWherever, IsAtCommand}
use Rattle.thread_run.proofs.Scripts.{take_most}

-- a line for each of them
count_from : (scenario : Scenario) (seen : List Entry) (b c : ℕ) (finished : List Finished) (commands : List Command) → length finished ≤ length commands → length (lines_from scenario seen b c finished commands) ≡ length finished
count_from scenario seen b c [] commands few = refl
count_from scenario seen b c (f ∷ finished) [] few = absurd (omega (arith, few))
count_from scenario seen b c (f ∷ finished) (command ∷ commands) few = let rest = count_from scenario seen b (c + 1) finished commands (omega (arith, few)) in omega (arith, rest)

-- as many as it says itself
pub lines_counted : (scenario : Scenario) (seen : List Entry) (s : Backend) → AgreesNow scenario seen s → length s.lines ≡ s.progress.finished
lines_counted scenario seen s agrees = let held = agrees.holds in
    ap length agrees.lines ∙ count_from scenario seen s.progress.id 1 held.rest.finished s.progress.commands (omega (arith, held.count, held.most)) ∙ held.count

-- the same on its way, and there are few
pub way_counted : (s : Backend) → IsOnItsWay s → length s.lines ≡ s.progress.finished
way_counted s way = lines_counted way.scenario way.seen s way.agrees

pub way_few : (s : Backend) → IsOnItsWay s → length s.lines ≤ 20000
way_few s way = let held = way.agrees.holds in let count = way_counted s way in omega (arith, count, held.few, held.most)

-- the same where it has come to a command
pub command_counted : (over : Bool) (was at : Backend) → IsOnItsWay was → IsAtCommand over was at → length at.lines ≡ at.progress.finished
command_counted over was at way (inl here) = subst (λ (s : Backend). length s.lines ≡ s.progress.finished) (sym here.1) (way_counted was way)
command_counted over was at way (inr comes) = lines_counted way.scenario way.seen at (comes way.scenario way.seen way.agrees).0.agrees

not_some : {X : Type 0} (x : X) → None ≡ Some x → ⊥
not_some x e = cc

-- past its end a list has nothing
past_all : {X : Type 0} (xs : List X) (n : ℕ) → slice_get xs n ≡ None → length xs ≤ n
past_all {X} xs n none = of (slice_get_cases xs n).1
  where
    of : ((x : X) × (n < length xs) × (slice_get xs n ≡ Some x) × (get_or xs n x ≡ x)) ⊎ ((length xs ≤ n) × (slice_get xs n ≡ None)) → length xs ≤ n
    of (inl at) = absurd (not_some at.0 (sym none ∙ at.2))
    of (inr past) = past.0

-- one that has left has finished all its commands
left_stands : (scenario : Scenario) (seen : List Entry) (s : Backend) → has_left s.life ≡ true → Stands scenario seen s → HasLeft scenario seen s
left_stands scenario seen s left stands = by_life s.life left stands
  where
    by_life : (l : Life) → has_left l ≡ true → elim l as (λ x. Type 0) [ lives.Unstarted ↦ HasNotJoined scenario seen s | lives.Alive ↦ AwaitsEntry scenario seen s | lives.Stopped ↦ HasLeft scenario seen s ] → HasLeft scenario seen s
    by_life lives.Unstarted left stands = absurd (cc left)
    by_life lives.Alive left stands = absurd (cc left)
    by_life lives.Stopped left stands = stands

left_all : (scenario : Scenario) (seen : List Entry) (s : Backend) → HasLeft scenario seen s → s.progress.finished ≡ length (commands_of scenario s.progress.id)
left_all scenario seen s left = let past = past_all s.progress.commands s.progress.finished left.past in let most = left.holds.most in let same = ap length left.holds.commands in omega (arith, past, most, same)

pub ended_all : (whole : Scenario) (b : ℕ) (seen : List Entry) (s : Backend) → HasEnded whole b seen s → s.progress.finished ≡ length (commands_of whole b)
ended_all whole b seen s ended = left_all whole seen s (left_stands whole seen s (ap has_left ended.life) ended.stands) ∙ ap (λ n. length (commands_of whole n)) ended.id

-- and those of a script that was cut, no more than were left of it
pub cut_all : (b n : ℕ) (scenario part : Scenario) (seen : List Entry) (s : Backend) → part ≡ cut b n scenario → s.progress.id ≡ b → has_left s.life ≡ true → Stands part seen s → s.progress.finished ≤ n
cut_all b n scenario part seen s is id left stands =
    let all = left_all part seen s (left_stands part seen s left stands) in
    let same = ap (λ (k : Scenario). length (commands_of k s.progress.id)) is ∙ ap (λ a. length (commands_of (cut b n scenario) a)) id ∙ ap length (cut_is b n scenario).own in
    let most = take_most n (commands_of scenario b) in
    omega (arith, all, same, most)

pub stopped_few : {E : Type 0} (b n : ℕ) (scenario part : Scenario) (seen : List Entry) (s : Backend) (result : Result (Unit {0}) E) → part ≡ cut b n scenario → OnOk result (s.progress.id ≡ b) → OnOk result (has_left s.life ≡ true) → OnOk result (Stands part seen s) → OnOk result (s.progress.finished ≤ n)
stopped_few b n scenario part seen s (Ok x) is id left stands = cut_all b n scenario part seen s is id left stands
stopped_few b n scenario part seen s (Err e) is id left stands = tt
