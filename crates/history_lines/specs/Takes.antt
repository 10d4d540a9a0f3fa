-- What an entry that comes next relies on, and what its session makes of it.
use Rattle.std.specs.Prelude.{◌≡◌, ◌<◌, ◌+◌, ⊤, ℕ, Bool, true, false, Option, List, length, take}
use Rattle.std.specs.List.{AllByRecursion, flat_map}
use Rattle.std.specs.Option.{IfSome}
use Rattle.base_types.specs.declared.ids.Oid.{Oid}
use Rattle.base_types.specs.declared.mode.Mode.TheVariants.{AccessExclusive}
use Rattle.event_kinds.specs.declared.entry.Event.TheVariants.{Look, FetchReset, LockOk, LockHeld, Unlock, Scan, Write, ClashRow, ClashRunning, Visible, Publish, Release, Gone, Stop}
use Rattle.event_kinds.specs.declared.entry.Item.{Item}
use Rattle.lock_modes.specs.Own.{has_lock}
use Rattle.ddl_effect.specs.Stages.{plan_at, want_of}
use Rattle.ddl_effect.specs.declared.want.Want.TheVariants as wants
use Rattle.history_model.specs.Legal.{IsLegal}
use Rattle.history_model.specs.MayFollow.{MayFollow}
use Rattle.history_ledger.specs.Held.{Reads}
use Rattle.cacheless.specs.Holds.{Rests, entry_of}
use Rattle.cacheless.specs.Locks.{locked_by}
use Rattle.cacheless.specs.Played.{AreSpelled}
use Rattle.cacheless.specs.Plays.{IsNext, Plays}
use Rattle.cacheless.specs.State.{lists_at, unsent_at, locks_made}
use Rattle.cacheless.specs.Awaiting.{AwaitsEntry}
use Rattle.history_lines.specs.Stands.{AreCounted, IsSessionOf}
use Rattle.history_lines.specs.Types.{Scenario, Entry, Event, Ledger, Progress, Session}

-- the script's commands are spelled, the history is legal and played, and the entry may come next
pub record ComesNext (scenario : Scenario) (seen : List Entry) (e : Entry) : Type 0 where
  pub spelled : AreSpelled scenario
  pub legal : IsLegal seen
  pub plays : Plays scenario seen
  pub follows : MayFollow seen e
  pub next : IsNext scenario seen e

-- an entry comes next of this session, after some history that the ledger reads
pub record ComesTo (ledger : Ledger) (s : Session) (e : Entry) : Type 0 where
  pub scenario : Scenario
  pub seen : List Entry
  pub reads : Reads seen ledger
  pub counted : AreCounted seen
  pub session : IsSessionOf scenario seen e.backend s
  pub comes : ComesNext scenario seen e

-- an event comes next of a backend that waits for one, after some history that the ledger reads
pub record MayTake (ledger : Ledger) (s : Progress) (event : Event) : Type 0 where
  pub scenario : Scenario
  pub seen : List Entry
  pub reads : Reads seen ledger
  pub counted : AreCounted seen
  pub rests : Rests scenario seen s
  pub comes : ComesNext scenario seen (entry_of s.id (s.finished + 1) event)

-- what an event that takes no memory and nothing of the ledger needs: to be granted a lock, not to hold it; to give one back, to hold it; to publish, that this is what comes next
abbrev pub SuitsAlone : Progress → Event → Type 0
SuitsAlone s (Look some_wait) = ⊤
SuitsAlone s FetchReset = ⊤
SuitsAlone s (LockOk rel mode) = has_lock s.locks.items rel mode ≡ false
SuitsAlone s (LockHeld rel mode holder held) = ⊤
SuitsAlone s (Unlock rel mode) = has_lock s.locks.items rel mode ≡ true
SuitsAlone s (ClashRow name rel) = ⊤
SuitsAlone s (ClashRunning name xid) = ⊤
SuitsAlone s (Visible xid) = ⊤
SuitsAlone s (Publish count) = count ≡ length (take 64 (unsent_at s))
SuitsAlone s (Gone from) = ⊤
SuitsAlone s event = ⊥

-- items make one relation at most: they take the lock of it alone
pub record MakesOne (items : List Item) : Type 0 where
  pub made : Option Oid
  pub locks : (command : ℕ) → flat_map (locked_by command) items ≡ locks_made command made

-- the command writes next, the lists of its messages are of commands before, and the relation that the items make, if they make one, isn't locked
pub record MayWrite (s : Progress) (items : List Item) : Type 0 where
  pub wants : want_of (plan_at s.opens s.exec) ≡ wants.Write
  pub order : AllByRecursion (λ list. list.command < s.finished + 1) (lists_at s)
  pub one : MakesOne items
  pub new : IfSome one.made (λ rel. has_lock s.locks.items rel AccessExclusive ≡ false)

-- to enter the event takes memory, where there is room for a lock
abbrev pub enters_in_memory : Event → Bool
enters_in_memory (Scan purpose rows) = true
enters_in_memory (Write xid items) = true
enters_in_memory (Release from) = true
enters_in_memory event = false

-- the event is a stop
abbrev pub is_stop : Event → Bool
is_stop Stop = true
is_stop event = false

-- a session has gone on as far as it can without an entry
pub record HasSettled (scenario : Scenario) (seen : List Entry) (was now : Session) : Type 0 where
  pub waits : AwaitsEntry scenario seen now.progress now.lines
  pub id : now.progress.id ≡ was.progress.id
