-- A turn of a backend, and where the backend is between two of them.
use Rattle.std.specs.Prelude.{◌≡◌, ◌≤◌, ◌<◌, ◌+◌, ◌++◌, ◌^◌, ◌⊎◌, ℕ, Bool, true, false, List, [], ◌∷◌, length}
use Rattle.std.specs.List.{AllByRecursion}
use Rattle.base_types.specs.Scenario.{Scenario}
use Rattle.event_kinds.specs.declared.entry.Entry.{Entry}
use Rattle.history_model.specs.Log.{is_waiting}
use Rattle.turn_table.specs.Histories.{Follows, NoneOf, OnlyOf}
use Rattle.backend_core.specs.declared.backend.Backend.{Backend}
use Rattle.backend_core.specs.declared.life.Life.TheVariants as lives
use Rattle.backend_core.specs.declared.turns.HeldLook.{HeldLook}
use Rattle.backend_core.specs.Agrees.{IsPlayed, AgreesNow, AwaitsEntry, Stands}
use Rattle.backend_core.specs.Apart.{AllowsHeld, IsHolding, StandsApart}
use Rattle.backend_core.specs.Coherent.{IsCoherent}
use Rattle.backend_core.specs.Cuts.{IsCut, IsAlike}
use Rattle.backend_core.specs.Halts.{AwaitsCommand, HaltsWherever}
use Rattle.backend_core.specs.Looks.{IsOnItsWay, entries_of, MayCallAll}
use Rattle.backend_core.specs.Words.{has_left}
use Rattle.thread_run.specs.Runs.{IsRunSoFar}

-- whose entry it is
abbrev pub backend_of : Entry → ℕ
backend_of e = e.backend

-- how a backend is that takes a turn: waiting for its next entry, where it makes one in it; else it may have gone on to a look alone
abbrev pub right_before : Bool → Scenario → List Entry → Backend → Type 0
right_before true = Stands
right_before false = AgreesNow

-- own entries more, at least one
pub record HasMore (b : ℕ) (before now : List Entry) : Type 0 where
  pub entry : Entry
  pub own : entry.backend ≡ b
  pub rest : List Entry
  pub others : OnlyOf backend_of b rest
  pub is : now ≡ before ++ entry ∷ rest

-- what a backend enters in a turn: exactly the looks that it held back, in order, and where it makes its next entry that one besides, and maybe some that come after it
abbrev pub EntersInTurn : Bool → ℕ → List HeldLook → List Entry → List Entry → Type 0
EntersInTurn false b held old new = new ≡ old ++ entries_of b held
EntersInTurn true b held old new = HasMore b (old ++ entries_of b held) new

-- entries so many at least, where it is at no command and hasn't left
abbrev pub MakesAll : Bool → Backend → ℕ → List Entry → List Entry → Type 0
MakesAll over s count old new = over ≡ false → has_left s.life ≡ false → length old + count ≤ length new

-- what a turn leaves: a history that was run so far, with room for the looks until the next, with which the backend agrees before it goes on without entries, or is at its next command already; or the backend has left, and stands in it
pub record HasTakenTurn (scenario : Scenario) (b : ℕ) (history : List Entry) (over : Bool) (s : Backend) : Type 0 where
  pub id : s.progress.id ≡ b
  pub run : IsRunSoFar scenario history
  pub short : length history + 16 ≤ 2 ^ 56
  pub agrees : has_left s.life ≡ false → AgreesNow scenario history s
  pub left : has_left s.life ≡ true → Stands scenario history s
  pub command : over ≡ true → AwaitsCommand scenario history s

-- a backend that has seen a history may take a turn, whatever others have entered since and before which of their commands they stop: its looks may be handed over, and it is right after them
pub record MayTakeTurn (whole : Scenario) (enters : Bool) (b : ℕ) (seen : List Entry) (told : Bool) (held : List HeldLook) (s : Backend) : Type 0 where
  pub few : length held ≤ 16
  pub alive : enters ≡ true → has_left s.life ≡ false
  pub holds : (later : Scenario) → IsAlike b whole later → (history : List Entry) → Follows backend_of b seen history → IsPlayed later history → (told ≡ true → is_waiting history b ≡ true) → IsHolding (right_before enters) later b history held s

-- the looks that a halted backend holds back may come after a history, in order, and in each script that has so many commands of it, which it has finished, it stands after them
pub record IsHalting (scenario : Scenario) (b commands : ℕ) (history : List Entry) (held : List HeldLook) (s : Backend) : Type 0 where
  pub id : s.progress.id ≡ b
  pub calls : MayCallAll scenario history (entries_of b held)
  pub after : (part : Scenario) → IsCut b commands scenario part → IsPlayed part (history ++ entries_of b held) × Stands part (history ++ entries_of b held) s

-- a backend that was halted may take its last turn, whatever others have entered since and before which of their commands they stop
pub record MayHalt (whole : Scenario) (b commands : ℕ) (seen : List Entry) (held : List HeldLook) (s : Backend) : Type 0 where
  pub few : length held ≤ 16
  pub halts : (later : Scenario) → IsAlike b whole later → (history : List Entry) → Follows backend_of b seen history → IsPlayed later history → IsHalting later b commands history held s

-- between two turns: the history as the last one left it, which was run by a script that says the same of the backend, and no look since that said yes; the backend stands after these looks, whatever others have entered, and each such history allows them
pub record IsBetween (whole : Scenario) (b : ℕ) (seen : List Entry) (held : List HeldLook) (s : Backend) : Type 0 where
  pub id : s.progress.id ≡ b
  pub script : Scenario
  pub alike : IsAlike b whole script
  pub last : List Entry
  pub follows : Follows backend_of b last seen
  pub run : IsRunSoFar script last
  pub short : length last + 16 ≤ 2 ^ 56
  pub few : length held < 16
  pub stands : StandsApart whole b last held s
  pub denied : AllByRecursion (λ l. l.some_wait ≡ false) held
  pub allowed : (more : List Entry) → NoneOf backend_of b more → AllowsHeld (last ++ more) b held
  pub ended : has_left s.life ≡ true → (held ≡ []) × (seen ≡ last)

-- it has gone on without an entry until it waits for one, in whichever history it agreed
abbrev pub WaitsWherever : Backend → Backend → Type 0
WaitsWherever was now = (scenario : Scenario) (seen : List Entry) → AgreesNow scenario seen was → AwaitsEntry scenario seen now × (now.progress.id ≡ was.progress.id)

-- it has gone on without an entry until it is at a command, in whichever history it agreed
abbrev pub ComesWherever : Backend → Backend → Type 0
ComesWherever was now = (scenario : Scenario) (seen : List Entry) → AgreesNow scenario seen was → AwaitsCommand scenario seen now × (now.progress.id ≡ was.progress.id)

-- it is at a command: it was, or has gone on to one
abbrev pub IsAtCommand : Bool → Backend → Backend → Type 0
IsAtCommand over was now = ((over ≡ true) × (now ≡ was)) ⊎ ComesWherever was now

-- after its entry or a look: once it has gone on without an entry it is between two turns, or it has left and is so already; stopped at a command, and halted, it may take its last turn
pub record IsUnderway (whole : Scenario) (b : ℕ) (seen : List Entry) (held : List HeldLook) (over : Bool) (s : Backend) : Type 0 where
  pub right : has_left s.life ≡ false → IsOnItsWay s
  pub waits : has_left s.life ≡ false → (now : Backend) → WaitsWherever s now → IsBetween whole b seen held now
  pub halts : has_left s.life ≡ false → (at now : Backend) → IsAtCommand over s at → HaltsWherever at now → MayHalt whole b (length at.lines) seen held now
  pub left : has_left s.life ≡ true → IsBetween whole b seen held s

-- it has left; what it has seen was run so far, by a script that says of it what the whole one says, and it stands in it and is coherent with it
pub record HasEnded (whole : Scenario) (b : ℕ) (seen : List Entry) (s : Backend) : Type 0 where
  pub id : s.progress.id ≡ b
  pub life : s.life ≡ lives.Stopped
  pub script : Scenario
  pub alike : IsAlike b whole script
  pub run : IsRunSoFar script seen
  pub stands : Stands whole seen s
  pub coherent : IsCoherent whole seen s
