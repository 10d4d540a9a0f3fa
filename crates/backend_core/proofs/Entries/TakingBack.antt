-- What was written is taken back.
use Rattle.std.proofs.Common.{◌≡◌, ◌+◌, ◌∙◌, ℕ, true, List, refl, sym, ap, subst, length, ◌&&◌}
use Rattle.event_kinds.specs.declared.entry.Event.TheVariants as events
use Rattle.inval_messages.specs.Lists.{has_write_from, lists_from, sent_in}
use Rattle.seg_calls.specs.Calls.{entry_of, Appends}
use Rattle.cacheless.specs.Ends.{TakesBack}
use Rattle.cacheless.specs.Facts.{Facts, facts_of}
use Rattle.cacheless.proofs.FactsAfter.{facts_by}
use Rattle.cacheless.proofs.Entries.EnteredFetches.{is_kept-spared}
use Rattle.cacheless.specs.Holds.{HasEntered}
use Rattle.cacheless.specs.OnCourse.{AllOnCourse}
use Rattle.cacheless.specs.Session.{Session, number_of}
use Rattle.cacheless.specs.OwnTransaction.{end_by}
use Rattle.backend_core.specs.Types.{Scenario, Entry, OwnLock, Progress, Backend}
use Rattle.backend_core.specs.Agrees.{IsPlayed, command_at, AwaitsEntry}
use Rattle.backend_core.specs.Fits.{Fits, FramesFit}
use Rattle.backend_core.specs.Steps.{IsEndNext, Enters}
use Rattle.backend_core.proofs.Entries.EndEntries.{end_now, end_enters}
use Rattle.cacheless.proofs.Allowed.EndsReleased.{EndsBy, comes_now}
use Rattle.cacheless.proofs.Allowed.TransactionEnds.{later_at, write_from_first, written_runs}
use Rattle.backend_core.proofs.Choosing.Chosen.{started_still}
use Rattle.backend_core.proofs.Fitting.FitsEnds.{fits_ending}
use Rattle.backend_core.proofs.Own.{waiting}
use Rattle.std.proofs.Math.Bool.{and-false}
use Rattle.inval_messages.specs.Messages.{is_spared}
use Rattle.backend_core.proofs.Fitting.Rebuilding.{bare_fits}

module _ (scenario : Scenario) (old : List Entry) (was : Backend) (from : ℕ) (waits : AwaitsEntry scenario old was) (next : IsEndNext was (events.Gone from)) where
  abbrev facts : Facts
  facts = facts_of old was.progress.id

  abbrev s : Session
  s = waiting waits

  now : EndsBy facts (command_at was) s (events.Gone from)
  now = end_now scenario old was waits (events.Gone from) refl next

  takes : (end_by facts (command_at was) s ≡ TakesBack from) × (has_write_from from facts.lists ≡ true)
  takes = comes_now facts (end_by facts (command_at was) s) (events.Gone from) now.comes

  abbrev later : Facts
  later = facts_by old was.progress.id (was.progress.finished + 1) (events.Gone from) facts

  take_back_fits : (locks : List OwnLock) (at : ℕ) → Fits later (command_at was) (later_at s locks at) was.looked was.frames was.told
  take_back_fits locks at = fits_ending facts later (command_at was) s was.looked was.frames was.told (events.Gone from) locks at waits.fits now
      (started_still (number_of s) (was.progress.finished + 1) facts.running (written_runs facts.running (waits.runs.written (write_from_first from facts.lists takes.1)))) refl
      (subst (FramesFit later (command_at was) (later_at s locks at)) (sym next.bare) (bare_fits later (command_at was) (later_at s locks at) (λ keeps. absurd (cc keeps))))
      (λ scan none. is_kept-spared (sent_in (lists_from from facts.lists)) facts.kept scan ∙ ap (λ t. is_spared scan (sent_in (lists_from from facts.lists)) && t) none ∙ and-false (is_spared scan (sent_in (lists_from from facts.lists))))

-- the state after it
pub take_back_enters : (scenario : Scenario) (old new : List Entry) (had has : ℕ → ℕ) (was : Backend) (from : ℕ) (p : Progress) (waits : AwaitsEntry scenario old was) → IsPlayed scenario old → AllOnCourse scenario old → IsEndNext was (events.Gone from)
    → HasEntered scenario old was.progress (events.Gone from) waits.rests p → p.answer ≡ was.progress.answer
    → Appends old new had has (entry_of was.progress.id (was.progress.finished + 1) (events.Gone from)) → Enters scenario old new had has was (record was { progress = p })
take_back_enters scenario old new had has was from p waits played courses next goes same appends =
    end_enters scenario old new had has was (events.Gone from) p was.frames waits refl played courses next goes same
    (take_back_fits scenario old was from waits next _ (length old + 1)) appends
