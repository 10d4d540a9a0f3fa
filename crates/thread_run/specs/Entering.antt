-- What a backend makes in its turn, entry by entry.
use Rattle.std.specs.Prelude.{◌≡◌, ◌≢◌, ◌≤◌, ◌+◌, ℕ, Bool, true, false, List, max}
use Rattle.base_types.specs.Scenario.{Scenario, IsBackend}
use Rattle.event_kinds.specs.declared.entry.Entry.{Entry}
use Rattle.turn_table.specs.Histories.{Grew}
use Rattle.cacheless.specs.State.{one_if}
use Rattle.backend_core.specs.declared.backend.Backend.{Backend}
use Rattle.backend_core.specs.Agrees.{Stands}
use Rattle.backend_core.specs.Places.{WantsPlaces, PromisesOnly}
use Rattle.backend_core.specs.Words.{has_joined, has_left}
use Rattle.thread_run.specs.AskedBefore.{asked_before}
use Rattle.thread_run.specs.Runs.{IsRunSoFar}
use Rattle.thread_run.specs.Turns.{backend_of, HasTakenTurn}

-- a backend of the script that may make its next entry: it stands in a history that was run so far, and hasn't left
pub record MayEnterNext (scenario : Scenario) (b : ℕ) (history : List Entry) (s : Backend) : Type 0 where
  pub backend : IsBackend scenario.backends b
  pub id : s.progress.id ≡ b
  pub run : IsRunSoFar scenario history
  pub stands : Stands scenario history s
  pub alive : has_left s.life ≡ false

-- the script is as it was; the history was run so far, and grew by own entries alone; promises to others are as they were, and to itself no more than it wanted
pub record PlaysOn (b : ℕ) (scenario later : Scenario) (old new : List Entry) (had has : ℕ → ℕ) : Type 0 where
  pub script : later ≡ scenario
  pub run : IsRunSoFar later new
  pub grew : Grew backend_of b old new
  pub others : (a : ℕ) → a ≢ b → has a ≡ had a
  pub own : PromisesOnly scenario b old new (had b) (has b)

-- before its entry, which takes one at most, it was promised the places that it wants, and no more than these, those that are promised always or those that it had, and none more where it wants none and has enough
pub record PromisesWanted (was : Backend) (had has : ℕ) : Type 0 where
  pub places : ℕ
  pub wants : WantsPlaces was places
  pub enough : places ≤ has + 1
  pub most : has ≤ max had (max places 48)
  pub none : places ≡ 0 → 17 ≤ had → has ≤ had

-- what its entries leave in a turn, where it went on to its next command at most, and says whether it did; one that joins is at its first command
pub record ComesTo (scenario : Scenario) (b : ℕ) (history : List Entry) (over : Bool) (was now : Backend) : Type 0 where
  pub taken : HasTakenTurn scenario b history over now
  pub number : has_joined was.life ≡ true → now.progress.finished ≡ was.progress.finished + one_if over
  pub first : has_joined was.life ≡ false → asked_before over now ≡ 0
