-- An entry that shows an error, which ends its command: a lock or a write that is refused.
use Rattle.std.proofs.Common.{inl, ◌≡◌, ◌≢◌, ◌+◌, ◌∙◌, ℕ, true, false, Some, None, List, [], refl, sym, ap, subst, length, drop, is_some, arith, Option, not, ◌&&◌}
use Rattle.std.proofs.lemmas.Bool.{both_ways}
use Rattle.event_kinds.specs.declared.entry.Event.TheVariants as events
use Rattle.row_visibility.specs.declared.clash.Clash.{Clash}
use Rattle.row_visibility.specs.declared.clash.Clash.TheVariants as clashes
use Rattle.command_answers.specs.declared.error.CommandError.TheVariants as errors
use Rattle.ddl_effect.specs.Plans.{Fails}
use Rattle.ddl_effect.specs.Stages.{plan_at}
use Rattle.history_model.specs.Drawn.{next_oid}
use Rattle.history_model.specs.Lapped.{FetchesFrom}
use Rattle.history_model.specs.Lives.{life_by}
use Rattle.history_model.specs.declared.life.Life.TheVariants.{Alive}
use Rattle.history_model.specs.Transactions.{begun}
use Rattle.seg_calls.specs.Calls.{entry_of, Appends}
use Rattle.cacheless.specs.Facts.{Facts, due_after, facts_of}
use Rattle.cacheless.specs.Holds.{HasEntered, with_own}
use Rattle.cacheless.specs.OnCourse.{AllOnCourse}
use Rattle.cacheless.specs.Owed.{owed_after, started_in}
use Rattle.cacheless.specs.Plays.{MayPlayIn}
use Rattle.cacheless.specs.Schedule.{LooksTruly}
use Rattle.cacheless.specs.Session.{Session, Tally, number_of, outcome_of, is_settled}
use Rattle.cacheless.specs.Sessions.{entered}
use Rattle.cacheless.specs.State.{clash_event, error_of, one_if}
use Rattle.cacheless.specs.Awaiting.{answer_after}
use Rattle.backend_core.specs.Types.{Oid, Mode, Command, CommandError, Scenario, Entry, Event, Progress, Backend}
use Rattle.backend_core.specs.Agrees.{IsPlayed, command_at, AwaitsEntry}
use Rattle.backend_core.specs.Fits.{looks_due, LooksFit, TakesFit, FramesFit, is_lost, is_gone_due}
use Rattle.backend_core.specs.Steps.{Enters}
use Rattle.backend_core.proofs.Fitting.Entered.{fits_at}
use Rattle.backend_core.proofs.Entries.Inside.{runs_on, inside_fits}
use Rattle.backend_core.proofs.Own.{waiting, own_enters}
use Rattle.cacheless.specs.Types.{Oid}
use Rattle.backend_core.proofs.Fitting.Sought.{well_settled}
use Rattle.backend_core.proofs.Fitting.Rebuilding.{bare_fits}
use Rattle.backend_core.specs.Words.{has_error}
use Rattle.std.proofs.Math.Bool.{and-false}
use Rattle.cacheless.proofs.FactsAfter.{facts_by}

-- the facts and the session after such an entry
abbrev later_of : List Entry → Backend → Event → Facts
later_of old was event = facts_by old was.progress.id (was.progress.finished + 1) event (facts_of old was.progress.id)

abbrev now_of : List Entry → Backend → Event → Session → Session
now_of old was event s = entered (facts_of (with_own old was.progress event) was.progress.id) (drop was.progress.finished was.progress.commands) (length old + 1) (was.progress.finished + 1) event s

-- its transaction runs on, and its plan has failed with the error
pub record ShowsError (scenario : Scenario) (old : List Entry) (was : Backend) (s : Session) (event : Event) (error : CommandError) : Type 0 where
  truly : LooksTruly old was.progress.id event
  queue : FetchesFrom scenario.size old was.progress.id event
  lives : life_by (was.progress.finished + 1) event ≡ Alive (was.progress.finished + 1)
  on : event ≢ events.Stop
  unanswered : (answer : Option (List ℕ)) → answer_after event answer ≡ None
  running : (later_of old was event).running ≡ Some (begun (was.progress.finished + 1) (facts_of old was.progress.id).running)
  owes : owed_after (due_after event) ≡ []
  blocks : (now_of old was event s).blocks ≡ s.blocks
  opened : (now_of old was event s).opened ≡ s.opened
  opens : (now_of old was event s).opens ≡ s.opens
  finished : (now_of old was event s).finished ≡ s.finished
  blocked : (now_of old was event s).blocked ≡ s.blocked
  ended : (now_of old was event s).ended ≡ s.ended
  left : (now_of old was event s).left ≡ Fails error
  tally : (now_of old was event s).tally ≡ s.tally

pub held_shows : (scenario : Scenario) (old : List Entry) (was : Backend) (s : Session) (rel : Oid) (mode : Mode) (holder : ℕ) (held : Mode) → ShowsError scenario old was s (events.LockHeld rel mode holder held) (errors.Locked rel holder held)
held_shows scenario old was s rel mode holder held = record { truly = tt; queue = tt; lives = refl; on = λ stop. cc stop; unanswered = λ answer. refl; running = refl; owes = refl; blocks = refl; opens = refl; opened = refl; finished = refl; blocked = refl; ended = refl; left = refl; tally = refl }

pub clash_shows : (scenario : Scenario) (old : List Entry) (was : Backend) (s : Session) (name : List ℕ) (clash : Clash) → ShowsError scenario old was s (clash_event name clash) (error_of name clash)
clash_shows scenario old was s name (clashes.Row rel) = record { truly = tt; queue = tt; lives = refl; on = λ stop. cc stop; unanswered = λ answer. refl; running = refl; owes = refl; blocks = refl; opens = refl; opened = refl; finished = refl; blocked = refl; ended = refl; left = refl; tally = refl }
clash_shows scenario old was s name (clashes.Running xid) = record { truly = tt; queue = tt; lives = refl; on = λ stop. cc stop; unanswered = λ answer. refl; running = refl; owes = refl; blocks = refl; opens = refl; opened = refl; finished = refl; blocked = refl; ended = refl; left = refl; tally = refl }

-- a backend before such an entry: an act of its command comes next
pub record IsActing (scenario : Scenario) (old : List Entry) (was : Backend) (command : Command) : Type 0 where
  pub at : command_at was ≡ Some command
  pub unsettled : is_settled (outcome_of (plan_at was.progress.opens was.progress.exec)) ≡ false
  pub runs : is_some (facts_of old was.progress.id).running ≡ true
  pub owed : owed_after (facts_of old was.progress.id).due ≡ []
  pub bare : was.frames ≡ []

-- after it the backend agrees
pub failed_enters : (scenario : Scenario) (old new : List Entry) (had has : ℕ → ℕ) (was : Backend) (p : Progress) (event : Event) (error : CommandError) (command : Command) (waits : AwaitsEntry scenario old was) → IsPlayed scenario old → AllOnCourse scenario old → IsActing scenario old was command
    → (was.looked ≡ true → ⊥) → ShowsError scenario old was (waiting waits) event error → MayPlayIn (next_oid old) (facts_of old was.progress.id) (command_at was) (waiting waits) event → HasEntered scenario old was.progress event waits.rests p → p.answer ≡ None
    → Appends old new had has (entry_of was.progress.id (was.progress.finished + 1) event) → Enters scenario old new had has was (record was { progress = p })
failed_enters scenario old new had has was p event error command waits played courses acting unlooked shows plays goes none appends =
    own_enters scenario old new had has was (record was { progress = p }) event waits played courses (record { plays = plays; truly = shows.truly; queue = shows.queue }) goes
    (fits_at scenario old was event waits p goes was.looked was.frames was.told
    (inside_fits scenario old was waits courses command acting.at later now was.looked was.frames was.told
    (record { blocks = shows.blocks; opens = shows.opens; held = inl shows.opened; finished = ap length shows.finished; blocked = shows.blocked; ended = shows.ended; left = λ is there. absurd (both_ways _ acting.unsettled is) }) looks rebuilds (λ made. absurd (unlooked made)) (subst (TakesFit (number_of now) now.locks now.taken) (sym shows.left) (takes_none now.taken))))
    refl shows.lives refl shows.on (none ∙ sym (shows.unanswered was.progress.answer)) appends
  where
    takes_none : (o : Option Oid) → TakesFit (number_of (now_of old was event (waiting waits))) (now_of old was event (waiting waits)).locks o (Fails error)
    takes_none None = tt
    takes_none (Some rel) = tt

    later : Facts
    later = later_of old was event

    now : Session
    now = now_of old was event (waiting waits)

    same : later.running ≡ (facts_of old was.progress.id).running
    same = shows.running ∙ runs_on (was.progress.finished + 1) (facts_of old was.progress.id).running acting.runs

    rebuilds : FramesFit later (command_at was) now was.frames
    rebuilds = subst (FramesFit later (command_at was) now) (sym acting.bare) (bare_fits later (command_at was) now (λ keeps. absurd (both_ways _ (ap (λ p. not (is_gone_due later.due) && not (is_lost now) && not (has_error p)) shows.left ∙ and-false (not (is_gone_due later.due) && not (is_lost now))) keeps)))

    before : LooksFit (facts_of old was.progress.id) (waiting waits) was.looked was.frames was.told
    before = waits.fits.looks

    started : started_in (number_of now) later ≡ started_in (number_of (waiting waits)) (facts_of old was.progress.id)
    started = (λ i. started_in (length (shows.finished i) + 1) (record (facts_of old was.progress.id) { running = same i }))

    looks : LooksFit later now was.looked was.frames was.told
    looks = record {
      enough = omega (arith, before.enough, ap looks_due acting.owed, ap looks_due shows.owes, started, ap (λ (t : Tally). t.looks) shows.tally, ap (λ (t : Tally). t.scans) shows.tally, ap (λ (t : Tally). t.grants) shows.tally, ap (λ (t : Tally). t.full) shows.tally);
      within = omega (arith, before.within, well_settled (plan_at was.progress.opens was.progress.exec) acting.unsettled, ap looks_due acting.owed, ap looks_due shows.owes, started, ap (λ (t : Tally). t.looks) shows.tally, ap (λ (t : Tally). t.scans) shows.tally, ap (λ (t : Tally). t.grants) shows.tally, ap (λ (t : Tally). t.fetches) shows.tally, ap one_if shows.ended);
      once = omega (arith, before.once, started, ap one_if shows.ended);
    }
