-- A walk that has come to its end.
use Rattle.std.proofs.Common.{◌≡◌, ◌∙◌, ℕ, true, false, suc, List, [], ◌∷◌, ◌==◌, sym, ap, subst, length, arith}
use Rattle.std.specs.List.{All}
use Rattle.std.proofs.lemmas.Bool.{ne_eqb}
use Rattle.base_types.specs.declared.command.Turns.{Turns}
use Rattle.base_types.specs.Scenario.{Scenario, schedule_of}
use Rattle.event_kinds.specs.declared.entry.Entry.{Entry}
use Rattle.history_model.proofs.Sound.{sound_is_legal}
use Rattle.history_model.specs.Lapped.{FetchesFrom}
use Rattle.history_model.specs.Read.{ScansOnlyIfNeeded}
use Rattle.history_model.proofs.Prefixes.{EachEntry-weaker}
use Rattle.cacheless.specs.MayEnter.{MayEnter}
use Rattle.cacheless.specs.Schedule.{FollowsSchedule, LooksTruly, IsComplete}
use Rattle.backend_core.specs.Agrees.{IsPlayed, Stands}
use Rattle.backend_core.specs.Coherent.{IsCoherent}
use Rattle.backend_core.proofs.Played.{entered_played}
use Rattle.backend_core.specs.declared.backend.Backend.{Backend}
use Rattle.script_backends.specs.Sessions.{transcripts_of, AreSessions}
use Rattle.script_backends.proofs.Sessions.{transcripts_are, stand_sessions, stand_each, stand_coherent}
use Rattle.walk_run.specs.Walks.{AllStand, Goes, GoesOn, HasSchedule, IsWalk}
use Rattle.walk_run.proofs.NotedWalks.{walked_whole}
use Rattle.walk_run.proofs.ScheduleSteps.{together, scheduled_end}
use Rattle.walk_run.proofs.OneAfterAnother.{unscheduled_end}

not_true : false ≡ true → ⊥
not_true e = cc

pub no_steps : (s : Scenario) (steps : List (List Turns)) → steps ≡ s.steps → (length steps == 0) ≡ true → s.steps ≡ []
no_steps s [] same none = sym same
no_steps s (line ∷ lines) same none = absurd (not_true (sym (of (length lines)) ∙ none))
  where
    of : (n : ℕ) → (suc n == 0) ≡ false
    of n = ne_eqb (suc n) 0 (λ same. absurd (omega arith))

pub some_steps : (s : Scenario) (steps : List (List Turns)) → steps ≡ s.steps → (length steps == 0) ≡ false → HasSchedule s
some_steps s [] same some = absurd (not_true (sym some))
some_steps s (line ∷ lines) same some = omega (arith, ap length same)

ended_walk : (s : Scenario) (h : List Entry) (bs : List Backend) → AllStand s h bs → FollowsSchedule s h × IsComplete s h → IsWalk s h (transcripts_of bs)
ended_walk s h bs stand end = record {
  allowed = record {
    legal = sound_is_legal h played.sound;
    queue = EachEntry-weaker (MayEnter s) (λ before e. FetchesFrom s.size before e.backend e.event) (λ before e may. may.suits.queue) h stand.entered;
    plays = played.plays;
    economical = EachEntry-weaker (MayEnter s) (λ before e. ScansOnlyIfNeeded before e.backend e.event) (λ before e may. may.suits.needed) h stand.entered;
  };
  sound = played.sound;
  spelled = stand.spelled;
  follows = end.0;
  looks = EachEntry-weaker (MayEnter s) (λ before e. LooksTruly before e.backend e.event) (λ before e may. may.suits.truly) h stand.entered;
  noted = walked_whole s h bs stand.walked;
  complete = end.1;
  lines_are = transcripts_are s h bs (together s h bs stand);
}
  where
    played : IsPlayed s h
    played = entered_played s h stand.spelled stand.entered

-- by the schedule
pub scheduled_walk : (s : Scenario) (start h : List Entry) (bs : List Backend) (steps : List (List Turns)) → steps ≡ s.steps → (length steps == 0) ≡ false → start ≡ [] → Goes s start h bs (schedule_of s) → IsWalk s h (transcripts_of bs)
scheduled_walk s start h bs steps same some first goes =
    ended_walk s h bs goes.stand (scheduled_end s h bs (some_steps s steps same some) (subst (λ x. Goes s x h bs (schedule_of s)) first goes))

-- and without one
pub unscheduled_walk : (s : Scenario) (start h : List Entry) (bs : List Backend) (steps : List (List Turns)) → steps ≡ s.steps → (length steps == 0) ≡ true → start ≡ [] → GoesOn s start 0 h bs s.backends → IsWalk s h (transcripts_of bs)
unscheduled_walk s start h bs steps same none first goes =
    ended_walk s h bs goes.stand (unscheduled_end s h bs (no_steps s steps same none) (subst (λ x. GoesOn s x 0 h bs s.backends) first goes))

-- the backends of a walk are the sessions of its lines
pub walk_sessions : (s : Scenario) (h : List Entry) (bs : List Backend) → AllStand s h bs → AreSessions s h (transcripts_of bs) bs
walk_sessions s h bs stand = stand_sessions s h bs (together s h bs stand)

-- each of them stands in its history
pub walk_stands : (s : Scenario) (h : List Entry) (bs : List Backend) → AllStand s h bs → All (Stands s h) bs
walk_stands s h bs stand = stand_each s h bs (together s h bs stand)

-- and is coherent with it
pub walk_coherent : (s : Scenario) (h : List Entry) (bs : List Backend) → AllStand s h bs → All (IsCoherent s h) bs
walk_coherent s h bs stand = stand_coherent s h bs (entered_played s h stand.spelled stand.entered).sound (together s h bs stand)
