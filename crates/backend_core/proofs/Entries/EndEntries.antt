-- The entries of an end of a backend that waits.
use Rattle.std.proofs.Common.{◌≡◌, ◌≤◌, ◌+◌, ◌∙◌, ℕ, true, List, refl, sym, ap, subst, length, drop, arith}
use Rattle.history_model.specs.Drawn.{next_oid}
use Rattle.history_model.specs.MayFollow.{FollowsLife, MayFollow}
use Rattle.history_model.specs.declared.life.Life.TheVariants.{Alive}
use Rattle.seg_calls.specs.Calls.{entry_of, MayCall, Appends}
use Rattle.cacheless.specs.Facts.{facts_of}
use Rattle.cacheless.specs.Holds.{HasEntered, with_own}
use Rattle.cacheless.specs.OnCourse.{AllOnCourse}
use Rattle.cacheless.specs.Plays.{MayPlayIn}
use Rattle.cacheless.specs.Sessions.{ends_command, entered}
use Rattle.cacheless.proofs.FactsAfter.{facts_by}
use Rattle.cacheless.proofs.Deciding.{holds_decides}
use Rattle.backend_core.specs.Types.{Scenario, Entry, Event, Progress, Frame, Backend}
use Rattle.backend_core.specs.Agrees.{IsPlayed, command_at, AwaitsEntry}
use Rattle.backend_core.specs.Fits.{Fits}
use Rattle.backend_core.specs.Steps.{IsEndNext, Enters}
use Rattle.cacheless.specs.Session.{number_of}
use Rattle.cacheless.proofs.Allowed.EndsNext.{end_follows, IsEndEvent, end_event}
use Rattle.cacheless.proofs.Allowed.EndsReleased.{EndsBy, ends_by}
use Rattle.cacheless.proofs.Allowed.NextEntries.{later_lives}
use Rattle.backend_core.proofs.Fitting.Entered.{fits_at}
use Rattle.backend_core.proofs.Own.{waiting, OwnEntry, own_enters}

module _ (scenario : Scenario) (seen : List Entry) (s : Backend) (waits : AwaitsEntry scenario seen s) (event : Event) (ends : ends_command event ≡ true) (next : IsEndNext s event) where
  -- it may come next by the script
  pub end_plays : MayPlayIn (next_oid seen) (facts_of seen s.progress.id) (command_at s) (waiting waits) event
  end_plays = (holds_decides s.progress (next_oid seen) event true (sym (next.may (next_oid seen))) scenario seen waits.rests.holds).0 refl

  pub end_now : EndsBy (facts_of seen s.progress.id) (command_at s) (waiting waits) event
  end_now = ends_by (next_oid seen) (facts_of seen s.progress.id) (command_at s) (waiting waits) event ends waits.runs end_plays

  -- it may be called for
  pub end_call : MayCall scenario seen (entry_of s.progress.id (s.progress.finished + 1) event)
  end_call = record {
    backend = waits.rests.holds.number;
    number = omega (arith, waits.rests.holds.most, ap length waits.rests.holds.commands);
    follows = subst (λ n. MayFollow seen (entry_of s.progress.id (n + 1) event)) waits.rests.holds.count
        (end_follows seen s.progress.id (command_at s) (waiting waits) waits.runs event (subst (λ l. FollowsLife l (number_of (waiting waits)) event) (sym waits.keeps.life.alive) alive) end_now);
  }
    where
      alive : FollowsLife (Alive waits.keeps.life.last) (number_of (waiting waits)) event
      alive = later_lives waits.keeps.life.last (number_of (waiting waits)) event (end_event scenario.size seen s.progress.id (s.progress.finished + 1) event ends).later
          (subst (λ n. waits.keeps.life.last ≤ n + 1) (sym waits.rests.holds.count) waits.keeps.life.most)

-- what the script and the segment ask of it
pub end_own : (scenario : Scenario) (old : List Entry) (was : Backend) (waits : AwaitsEntry scenario old was) (event : Event) → ends_command event ≡ true → IsEndNext was event → OwnEntry scenario old was event waits
end_own scenario old was waits event ends next = let plain = end_event scenario.size old was.progress.id (was.progress.finished + 1) event ends in
    record { plays = end_plays scenario old was waits event ends next; truly = plain.truly; queue = plain.queue }

-- after an entry of an end the backend agrees
pub end_enters : (scenario : Scenario) (old new : List Entry) (had has : ℕ → ℕ) (was : Backend) (event : Event) (p : Progress) (frames : List Frame) (waits : AwaitsEntry scenario old was) → ends_command event ≡ true → IsPlayed scenario old → AllOnCourse scenario old → IsEndNext was event
    → HasEntered scenario old was.progress event waits.rests p → p.answer ≡ was.progress.answer
    → Fits (facts_by old was.progress.id (was.progress.finished + 1) event (facts_of old was.progress.id)) (command_at was)
    (entered (facts_of (with_own old was.progress event) was.progress.id) (drop was.progress.finished was.progress.commands) (length old + 1) (was.progress.finished + 1) event (waiting waits)) was.looked frames was.told
    → Appends old new had has (entry_of was.progress.id (was.progress.finished + 1) event) → Enters scenario old new had has was (record was { progress = p; frames = frames })
end_enters scenario old new had has was event p frames waits ends played courses next goes same fits appends =
    own_enters scenario old new had has was (record was { progress = p; frames = frames }) event waits played courses (end_own scenario old was waits event ends next) goes
    (fits_at scenario old was event waits p goes was.looked frames was.told fits) refl plain.lives refl plain.on (same ∙ sym (plain.answers was.progress.answer)) appends
  where
    plain : IsEndEvent scenario.size old was.progress.id (was.progress.finished + 1) event
    plain = end_event scenario.size old was.progress.id (was.progress.finished + 1) event ends
