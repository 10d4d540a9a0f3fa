-- What a backend keeps with its own entry.
use Rattle.std.proofs.Common.{◌≤◌, ◌+◌, Bool, List, length, drop, slice_get, arith}
use Rattle.std.proofs.lemmas.Bool.{lt-ltb}
use Rattle.cacheless.specs.Facts.{facts_of}
use Rattle.cacheless.specs.Holds.{CountsFit, HasEntered, with_own}
use Rattle.cacheless.specs.May.{HasRoom}
use Rattle.cacheless.specs.Sessions.{entered}
use Rattle.cacheless.specs.State.{session_at}
use Rattle.cacheless.proofs.FactsAfter.{facts_by}
use Rattle.backend_core.specs.Types.{Scenario, Entry, Event, Progress, Backend, Frame}
use Rattle.backend_core.specs.Agrees.{command_at, AwaitsEntry}
use Rattle.backend_core.specs.Fits.{Fits}
use Rattle.backend_core.proofs.Own.{waiting, entered_holds}

-- its counts have room for one more, where the history is short
pub has_room : (scenario : Scenario) (seen : List Entry) (s : Backend) → AwaitsEntry scenario seen s → length seen ≤ 72057594037927936 → HasRoom s.progress
has_room scenario seen s waits short = let c : CountsFit s.progress.tally (length seen) = waits.rests.holds.counts in (
  lt-ltb s.progress.tally.looks 1152921504606846976 (omega (arith, c.looks, short)),
  lt-ltb s.progress.tally.scans 1152921504606846976 (omega (arith, c.scans, short)),
  lt-ltb s.progress.tally.grants 1152921504606846976 (omega (arith, c.grants, short)),
  lt-ltb s.progress.tally.unlocks 1152921504606846976 (omega (arith, c.unlocks, short)),
  lt-ltb s.progress.tally.fetches 1152921504606846976 (omega (arith, c.fetches, short)),
  lt-ltb s.progress.tally.full 1152921504606846976 (omega (arith, c.full, c.fetches, short)),
)

pub is_few : (scenario : Scenario) (seen : List Entry) (s : Backend) → AwaitsEntry scenario seen s → s.progress.finished ≤ 20000
is_few scenario seen s waits = omega (arith, waits.rests.holds.few, waits.rests.holds.most)

module _ (scenario : Scenario) (old : List Entry) (was : Backend) (event : Event) (waits : AwaitsEntry scenario old was) (p : Progress) (goes : HasEntered scenario old was.progress event waits.rests p) where
  -- what the choice keeps of the session that the entry left, it keeps of what the code holds then
  pub fits_at : (looked : Bool) (frames : List Frame) (told : Bool) → Fits (facts_by old was.progress.id (was.progress.finished + 1) event (facts_of old was.progress.id)) (command_at was)
      (entered (facts_of (with_own old was.progress event) was.progress.id) (drop was.progress.finished was.progress.commands) (length old + 1) (was.progress.finished + 1) event (waiting waits)) looked frames told
      → Fits (facts_of (with_own old was.progress event) p.id) (slice_get p.commands p.finished) (session_at p goes.holds.rest) looked frames told
  fits_at looked frames told = entered_holds scenario old was event waits p goes (λ facts o s. Fits facts o s looked frames told)
