-- Steps and walks that are noted, of which two are one: where two backends are as far, and which entry comes of what comes next.
use Rattle.std.specs.Prelude.{◌≡◌, ◌==◌, ◌++◌, ◌∷◌, ℕ, Bool, true, false, Option, Some, None, IfSome, List, [], ⊤, min, length}
use Rattle.event_kinds.specs.declared.entry.Event.TheVariants as events
use Rattle.ddl_effect.specs.Commands.{commands_of}
use Rattle.ddl_effect.specs.Plans.{Plan}
use Rattle.lock_modes.specs.Grants.{first_conflict}
use Rattle.history_model.specs.Drawn.{next_oid}
use Rattle.history_model.specs.Held.{held_of}
use Rattle.history_model.specs.Lapped.{is_lapped}
use Rattle.history_model.specs.Log.{is_waiting}
use Rattle.history_model.specs.Sent.{unsent_of}
use Rattle.history_model.specs.Transactions.{xid_for}
use Rattle.history_model.specs.Types.{Grant}
use Rattle.history_model.specs.Versions.{answer_of}
use Rattle.seg_calls.specs.Calls.{due_to}
use Rattle.cacheless.specs.State.{facts_at, work_at}
use Rattle.backend_core.specs.Types.{Oid, Mode, Item, Scenario, Entry, Event, Next, Progress, Backend}
use Rattle.backend_core.specs.declared.next.Next.TheVariants as nexts
use Rattle.backend_core.specs.Agrees.{IsNew, Stands}
use Rattle.backend_core.specs.Noted.{NotesAtStep, items_left, refusal_left}
use Rattle.backend_core.specs.Steps.{Steps}

-- two backends of one number are as far in one history
pub record IsAsFar (one two : Progress) : Type 0 where
  pub id : one.id ≡ two.id
  pub commands : one.commands ≡ two.commands
  pub finished : one.finished ≡ two.finished
  pub facts : facts_at one ≡ facts_at two
  pub work : work_at one ≡ work_at two
  pub opens : one.opens ≡ two.opens

-- a lock is granted, or refused for the first grant that conflicts with it
abbrev pub lock_made : Oid → Mode → Option Grant → Event
lock_made rel mode None = events.LockOk rel mode
lock_made rel mode (Some g) = events.LockHeld rel mode g.backend g.mode

-- a fetch is a reset of a backend that was lapped
abbrev pub fetch_made : Bool → ℕ → Event
fetch_made true count = events.FetchReset
fetch_made false count = events.Fetch count

-- a write is made, or refused
abbrev pub write_made : ℕ → List Item → Option Event → Event
write_made xid items None = events.Write (record { 0 = xid }) items
write_made xid items (Some refusal) = refusal

-- the entry that comes of what comes next, in a history with a queue of this size, by what is left of the backend's plan
abbrev pub event_made : ℕ → List Entry → ℕ → Plan → Next → Event
event_made size before b left nexts.Look = events.Look (is_waiting before b)
event_made size before b left (nexts.LookBeforeScan rebuilds) = events.Look (is_waiting before b)
event_made size before b left nexts.LookBeforeAbsent = events.Look (is_waiting before b)
event_made size before b left (nexts.Scan scan rebuilds) = events.Scan scan (length (answer_of before b scan))
event_made size before b left (nexts.Lock rel mode) = lock_made rel mode (first_conflict (held_of before) b rel mode)
event_made size before b left (nexts.Unlock rel mode) = events.Unlock rel mode
event_made size before b left nexts.Fetch = fetch_made (is_lapped size before b) (due_to before b)
event_made size before b left nexts.Write = write_made (xid_for before b) (items_left (next_oid before) left) (refusal_left before b left)
event_made size before b left (nexts.Commit xid) = events.Visible xid
event_made size before b left nexts.Publish = events.Publish (min 64 (length (unsent_of before b)))
event_made size before b left (nexts.TakeBack from) = events.Gone from
event_made size before b left (nexts.Release from) = events.Release from
event_made size before b left nexts.Leave = events.Stop

-- a backend's step with this entry, and what it notes
pub record MakesStep (scenario : Scenario) (before : List Entry) (was : Backend) (e : Entry) (now : Backend) : Type 0 where
  pub stands : Stands scenario before was
  pub had : ℕ → ℕ
  pub has : ℕ → ℕ
  pub steps : Steps scenario before (before ++ e ∷ []) had has was now
  pub notes : NotesAtStep scenario before (before ++ e ∷ []) was now

-- the next entry of a walk: a step of its backend, while the others stay, after which the walk goes on so
pub record WalksOn (scenario : Scenario) (before : List Entry) (were : ℕ → Option Backend) (e : Entry) (Further : (ℕ → Option Backend) → Type 0) : Type 0 where
  pub was : Backend
  pub is : were e.backend ≡ Some was
  pub now : Backend
  pub step : MakesStep scenario before was e now
  pub are : ℕ → Option Backend
  pub here : are e.backend ≡ Some now
  pub beside : (b : ℕ) → (b == e.backend) ≡ false → are b ≡ were b
  pub further : Further are

-- a walk from these backends on, the one of each number: each entry is such a step
abbrev pub Walks : Scenario → List Entry → (ℕ → Option Backend) → List Entry → Type 0
Walks scenario before were [] = ⊤
Walks scenario before were (e ∷ rest) = WalksOn scenario before were e (λ are. Walks scenario (before ++ e ∷ []) are rest)

-- a new backend of a script with its number
abbrev pub IsNewOf : Scenario → ℕ → Backend → Type 0
IsNewOf scenario b s = IsNew s b (commands_of scenario b)

-- a walk of new backends
pub record IsNotedWalk (scenario : Scenario) (history : List Entry) : Type 0 where
  pub first : ℕ → Option Backend
  pub new : (b : ℕ) → IfSome (first b) (IsNewOf scenario b)
  pub walks : Walks scenario [] first history
