-- What a session lets come next decides what its backend plays next.
use Rattle.std.proofs.Common.{◌≡◌, ◌+◌, ◌∙◌, ◌==◌, ◌&&◌, if◌then◌else◌, ℕ, Bool, true, false, Some, List, refl, sym, ap, subst, length, slice_get}
use Rattle.std.specs.Bool.{Decides}
use Rattle.std.proofs.lemmas.Bool.Decides.{Decides-eqb}
use Rattle.base_types.specs.Scenario.{IsBackend}
use Rattle.ddl_effect.specs.Commands.{commands_of}
use Rattle.history_model.specs.Drawn.{next_oid}
use Rattle.history_model.specs.MayFollow.{MayFollow}
use Rattle.history_model.specs.MayFollow.{FollowsLife}
use Rattle.history_model.specs.Lives.{life_of}
use Rattle.history_model.specs.declared.life.Life.{Life}
use Rattle.history_model.specs.declared.life.Life.TheVariants.{Stopped}
use Rattle.history_model.proofs.Decided.{both_decide, decided_by}
use Rattle.cacheless.specs.Facts.{facts_of}
use Rattle.cacheless.specs.May.{may_play_now}
use Rattle.cacheless.specs.Plays.{MayPlayIn, MayPlayAt, IsNext}
use Rattle.cacheless.specs.Session.{Session as Course, number_of}
use Rattle.cacheless.specs.Sessions.{session_of}
use Rattle.cacheless.specs.State.{session_at}
use Rattle.cacheless.specs.Nexts.{is_start}
use Rattle.cacheless.proofs.Deciding.{holds_decides, start_decides}
use Rattle.cacheless.proofs.Resting.{settled_at_rest}
use Rattle.cacheless.specs.Awaiting.{AwaitsEntry}
use Rattle.history_lines.specs.Comes.{comes_at}
use Rattle.history_lines.specs.Stands.{HasNoEntry, IsGoing, Awaits, Over, IsSessionOf}
use Rattle.history_lines.specs.Types.{Scenario, Entry, Event, Line, Progress, Session}

-- the session of a backend that waits is that of the history
pub waiting_is : (scenario : Scenario) (seen : List Entry) (s : Progress) (lines : List Line) (waits : AwaitsEntry scenario seen s lines) → session_of scenario seen s.id ≡ Some (session_at s waits.rests.holds.rest)
waiting_is scenario seen s lines waits = waits.rests.holds.is ∙ ap Some (settled_at_rest scenario seen s waits.rests)

-- the running command is that of the session
pub at_session : (scenario : Scenario) (seen : List Entry) (s : Progress) (lines : List Line) (waits : AwaitsEntry scenario seen s lines)
    → slice_get (commands_of scenario s.id) (length waits.rests.holds.rest.finished) ≡ slice_get s.commands s.finished
at_session scenario seen s lines waits = ap (slice_get (commands_of scenario s.id)) waits.rests.holds.count ∙ ap (λ l. slice_get l s.finished) (sym waits.rests.holds.commands)

-- of a backend that waits
waiting_decides : (scenario : Scenario) (seen : List Entry) (next c : ℕ) (event : Event) (s : Progress) (lines : List Line) (waits : AwaitsEntry scenario seen s lines) → next ≡ next_oid seen
    → Decides ((c == s.finished + 1) && may_play_now next s event) (MayPlayAt scenario seen s.id (session_of scenario seen s.id) c event)
waiting_decides scenario seen next c event s lines waits same =
    subst (λ o. Decides ((c == s.finished + 1) && may_play_now next s event) (MayPlayAt scenario seen s.id o c event)) (sym (waiting_is scenario seen s lines waits)) (both_decide (c == s.finished + 1) (may_play_now next s event) number plays)
  where
    course : Course
    course = session_at s waits.rests.holds.rest

    number : Decides (c == s.finished + 1) (c ≡ number_of course)
    number = subst (λ n. Decides (c == s.finished + 1) (c ≡ n)) (ap (λ n. n + 1) (sym waits.rests.holds.count)) (Decides-eqb c (s.finished + 1))

    plays : Decides (may_play_now next s event) (MayPlayIn (next_oid seen) (facts_of seen s.id) (slice_get (commands_of scenario s.id) (length course.finished)) course event)
    plays = subst (λ n. Decides (may_play_now next s event) (MayPlayIn n (facts_of seen s.id) (slice_get (commands_of scenario s.id) (length course.finished)) course event)) same
        (subst (λ o. Decides (may_play_now next s event) (MayPlayIn next (facts_of seen s.id) o course event)) (sym (at_session scenario seen s lines waits)) (holds_decides s next event (may_play_now next s event) refl scenario seen waits.rests.holds))

-- one that has stopped does nothing more
stopped_refuses : (seen : List Entry) (b c : ℕ) (event : Event) → life_of seen b ≡ Stopped → FollowsLife (life_of seen b) c event → ⊥
stopped_refuses seen b c event stopped follows = subst (λ (life : Life). FollowsLife life c event) stopped follows

-- of an entry that may follow
pub comes_decides : (scenario : Scenario) (seen : List Entry) (next : ℕ) (e : Entry) (s : Session) → next ≡ next_oid seen → IsBackend scenario.backends e.backend → IsSessionOf scenario seen e.backend s → MayFollow seen e
    → Decides (comes_at next s e.command e.event) (IsNext scenario seen e)
comes_decides scenario seen next e s same number stands follows = decided_by (comes_at next s e.command e.event) at (λ plays. (number, plays)) (λ next_one. next_one.1)
  where
    going : IsGoing scenario seen s → Decides ((e.command == s.progress.finished + 1) && may_play_now next s.progress e.event) (MayPlayAt scenario seen s.progress.id (session_of scenario seen s.progress.id) e.command e.event)
    going (Awaits waits) = waiting_decides scenario seen next e.command e.event s.progress s.lines waits same
    going (Over stopped) = absurd (stopped_refuses seen s.progress.id e.command e.event stopped.life (subst (λ b. FollowsLife (life_of seen b) e.command e.event) (sym stands.id) follows.life))

    by_started : (started : Bool) → elim started as (λ t. Type 0) [ true ↦ IsGoing scenario seen s | false ↦ HasNoEntry scenario seen s ]
        → Decides (if started then (e.command == s.progress.finished + 1) && may_play_now next s.progress e.event else is_start e.event) (MayPlayAt scenario seen s.progress.id (session_of scenario seen s.progress.id) e.command e.event)
    by_started true is_going = going is_going
    by_started false none = subst (λ o. Decides (is_start e.event) (MayPlayAt scenario seen s.progress.id o e.command e.event)) (sym none.none.session) (start_decides e.event)

    at : Decides (comes_at next s e.command e.event) (MayPlayAt scenario seen e.backend (session_of scenario seen e.backend) e.command e.event)
    at = subst (λ b. Decides (comes_at next s e.command e.event) (MayPlayAt scenario seen b (session_of scenario seen b) e.command e.event)) stands.id (by_started s.is_started stands.stands)
