-- A backend leaves.
use Rattle.std.proofs.Common.{◌≡◌, ◌+◌, ◌∙◌, ◌∷◌, ◌++◌, ℕ, Option, Some, None, List, [], refl, sym, ap, subst, length, slice_get, is_some, arith}
use Rattle.std.proofs.lemmas.Bool.{eq-eqb, both_ways}
use Rattle.event_kinds.specs.declared.entry.Event.TheVariants as events
use Rattle.history_model.specs.Drawn.{next_oid}
use Rattle.history_model.specs.MayFollow.{FollowsVisible, FollowsGone}
use Rattle.history_model.specs.MayFollow.{FollowsLife}
use Rattle.history_model.specs.Lives.{life_of, last_event_of}
use Rattle.history_model.specs.Sound.{MayComeNext}
use Rattle.history_model.specs.Transactions.{is_visible}
use Rattle.history_model.proofs.Prefixes.{EachEntry-more}
use Rattle.history_model.proofs.Reading.{life_of-own}
use Rattle.seg_calls.specs.Calls.{entry_of, MayCall, Appends}
use Rattle.cacheless.specs.Facts.{due_last, facts_of}
use Rattle.cacheless.specs.Holds.{HasEntered}
use Rattle.cacheless.specs.OnCourse.{AllOnCourse}
use Rattle.cacheless.specs.Plays.{MayPlayIn}
use Rattle.cacheless.proofs.OwnAnswers.{stop_lines}
use Rattle.backend_core.specs.Types.{Event, Scenario, Entry, Progress, Backend}
use Rattle.backend_core.specs.declared.life.Life.TheVariants as lives
use Rattle.backend_core.specs.Agrees.{IsPlayed, command_at, AwaitsEntry, HasLeft}
use Rattle.backend_core.specs.Coherent.{IsCoherent}
use Rattle.backend_core.specs.Steps.{Steps}
use Rattle.backend_core.proofs.Coherent.{stands_coherent}
use Rattle.backend_core.proofs.Own.{waiting, session_waits, own_makes}

-- it runs no transaction then
none_runs : (scenario : Scenario) (seen : List Entry) (s : Backend) → AwaitsEntry scenario seen s → s.progress.running ≡ None → (facts_of seen s.progress.id).running ≡ None
none_runs scenario seen s waits none = ap (λ f. f.running) waits.rests.holds.facts ∙ none

-- it may be entered
pub leave_call : (scenario : Scenario) (seen : List Entry) (s : Backend) → AwaitsEntry scenario seen s → s.progress.running ≡ None → MayCall scenario seen (entry_of s.progress.id (s.progress.finished + 1) events.Stop)
leave_call scenario seen s waits none = record {
  backend = waits.rests.holds.number;
  number = omega (arith, waits.rests.holds.most, ap length waits.rests.holds.commands);
  follows = record {
    life = subst (λ l. FollowsLife l (s.progress.finished + 1) events.Stop) (sym waits.keeps.life.alive) waits.keeps.life.most;
    visible = subst (λ o. FollowsVisible (is_visible o) events.Stop) (sym runs_none) tt;
    gone = by_last (last_event_of seen s.progress.id) refl;
    event = runs_none;
  };
}
  where
    runs_none : (facts_of seen s.progress.id).running ≡ None
    runs_none = none_runs scenario seen s waits none

    by_last : (last : Option Event) → last_event_of seen s.progress.id ≡ last → FollowsGone last events.Stop
    by_last (Some (events.Gone from)) is = absurd (both_ways _ (ap (λ r. is_some r) runs_none) (waits.runs.taken from (ap due_last is)).runs)
    by_last last is = tt

-- the state after it
pub leave_steps : (scenario : Scenario) (old new : List Entry) (had has : ℕ → ℕ) (was : Backend) (p : Progress) (waits : AwaitsEntry scenario old was) → IsPlayed scenario old → AllOnCourse scenario old → command_at was ≡ None → was.progress.running ≡ None
    → HasEntered scenario old was.progress events.Stop waits.rests p → Appends old new had has (entry_of was.progress.id (was.progress.finished + 1) events.Stop) → Steps scenario old new had has was (record was { progress = p; life = lives.Stopped })
leave_steps scenario old new had has was p waits played courses past none goes appends = record {
  makes = own_makes scenario old new had has was events.Stop waits played courses (record { plays = plays; truly = tt; queue = tt }) appends;
  id = goes.moves.id;
  stands = subst (λ h. HasLeft scenario h left) (sym appends.entries) has_left;
  coherent = subst (λ h. IsCoherent scenario h left) (sym appends.entries) (stands_coherent scenario (old ++ e ∷ []) left (EachEntry-more MayComeNext old e played.sound appends.comes) has_left);
}
  where
    b : ℕ
    b = was.progress.id

    e : Entry
    e = entry_of was.progress.id (was.progress.finished + 1) events.Stop

    left : Backend
    left = record was { progress = p; life = lives.Stopped }

    plays : MayPlayIn (next_oid old) (facts_of old b) (command_at was) (waiting waits) events.Stop
    plays = subst (λ o. MayPlayIn (next_oid old) (facts_of old b) o (waiting waits) events.Stop) (sym past) (none_runs scenario old was waits none)

    has_left : HasLeft scenario (old ++ e ∷ []) left
    has_left = record {
      holds = goes.holds;
      life = ap (life_of (old ++ e ∷ [])) goes.moves.id ∙ life_of-own old e b (eq-eqb b b refl);
      lines = stop_lines scenario old was.progress p was.lines (session_waits waits) plays goes;
      past = (λ i. slice_get (goes.moves.commands i) (goes.moves.finished i)) ∙ past;
    }
