-- What a step of a backend does, and what it does next.
use Rattle.std.specs.Prelude.{◌≡◌, ◌≢◌, ◌≤◌, ◌+◌, ◌⊎◌, ◌++◌, ◌∷◌, ℕ, Bool, true, false, Some, None, List, [], slice_get, length, take}
use Rattle.event_kinds.specs.declared.entry.Event.TheVariants as events
use Rattle.ddl_effect.specs.Stages.{plan_at, want_of}
use Rattle.ddl_effect.specs.declared.want.Want.TheVariants as wants
use Rattle.seg_calls.specs.Calls.{IsUnchanged}
use Rattle.cacheless.specs.declared.progress.Due.TheVariants as dues
use Rattle.cacheless.specs.May.{is_next_at, is_next_of_act, has_failed, lacks_opened, lacks_any, owes_nothing, may_play_now, may_lock_at, may_unlock_at}
use Rattle.cacheless.specs.MayEnter.{MayEnter}
use Rattle.cacheless.specs.Silently.{has_accepted_at}
use Rattle.cacheless.specs.State.{owed_after, is_quiet, is_absent, is_kept, kept_at, owed_first, unsent_at, end_at}
use Rattle.cacheless.specs.Ends.{TakesBack}
use Rattle.backend_core.specs.Types.{Oid, Mode, Purpose, Command, Scenario, Entry, Event, Next, Frame, Progress, Backend}
use Rattle.backend_core.specs.declared.life.Life.TheVariants as lives
use Rattle.backend_core.specs.declared.next.Next.TheVariants as nexts
use Rattle.backend_core.specs.Agrees.{AgreesNow, Stands}
use Rattle.backend_core.specs.Coherent.{IsCoherent}
use Rattle.backend_core.specs.Fits.{TakesFit}
use Rattle.backend_core.specs.Frames.{top, IsRebuilt}
use Rattle.backend_core.specs.Choice.{accepts_again}
use Rattle.backend_core.specs.Words.{is_unfound, scan_on_top, is_looked_for}

-- one entry of the backend is appended, which the history and the script allow; of the places that are promised it takes at most one, of its own, and none is promised
pub record MakesEntry (scenario : Scenario) (old new : List Entry) (had has : ℕ → ℕ) (b : ℕ) : Type 0 where
  pub entry : Entry
  pub is : new ≡ old ++ entry ∷ []
  pub own : entry.backend ≡ b
  pub may : MayEnter scenario old entry
  pub place : had b ≤ has b + 1
  pub most : has b ≤ had b
  pub others : (a : ℕ) → a ≢ b → has a ≡ had a

-- a step: one entry, after which the backend is right, and coherent with the history
pub record Steps (scenario : Scenario) (old new : List Entry) (had has : ℕ → ℕ) (was now : Backend) : Type 0 where
  pub makes : MakesEntry scenario old new had has was.progress.id
  pub id : now.progress.id ≡ was.progress.id
  pub stands : Stands scenario new now
  pub coherent : IsCoherent scenario new now

-- a step that was refused memory: nothing has changed, or its entry is made
pub data IsRefused (scenario : Scenario) (old new : List Entry) (had has : ℕ → ℕ) (b : ℕ) : Type 0 where
  Before : IsUnchanged old new had has → IsRefused scenario old new had has b
  After : MakesEntry scenario old new had has b → IsRefused scenario old new had has b

-- one entry, after which the backend agrees, before it goes on without entries
pub record Enters (scenario : Scenario) (old new : List Entry) (had has : ℕ → ℕ) (was now : Backend) : Type 0 where
  pub makes : MakesEntry scenario old new had has was.progress.id
  pub id : now.progress.id ≡ was.progress.id
  pub agrees : AgreesNow scenario new now

-- its next entry, after which the backend agrees, before it goes on without entries, or has left
pub data MakesNext (scenario : Scenario) (old new : List Entry) (had has : ℕ → ℕ) (was now : Backend) : Type 0 where
  Remains : Enters scenario old new had has was now → MakesNext scenario old new had has was now
  Left : now.life ≡ lives.Stopped → Steps scenario old new had has was now → MakesNext scenario old new had has was now

-- in a command whose transaction's first look is made, where the last entry asks for nothing
pub record IsFree (s : Progress) (command : Command) : Type 0 where
  pub at : slice_get s.commands s.finished ≡ Some command
  pub due : owed_after s.due ≡ []
  pub first : owed_first s command ≡ []

-- a look is owed: in an accept of messages, or at the start of a transaction
pub record OwesLookNow (s : Progress) : Type 0 where
  pub command : Command
  pub at : slice_get s.commands s.finished ≡ Some command
  pub owes : (s.due ≡ dues.Look) ⊎ ((owed_after s.due ≡ []) × (owed_first s command ≢ []))

-- a scan is the first of the rebuild on top, or the first that the next act lacks, where nothing is rebuilt
abbrev pub IsInTurn : Bool → Backend → Purpose → Type 0
IsInTurn true s scan = scan_on_top s ≡ Some scan
IsInTurn false s scan = (s.frames ≡ []) × (is_next_of_act scan (kept_at s.progress) (plan_at s.progress.opens s.progress.exec) ≡ true)

-- this scan comes next, of the rebuild on top or of the next act
pub record IsScanNext (s : Backend) (scan : Purpose) (rebuilds : Bool) : Type 0 where
  pub command : Command
  pub free : IsFree s.progress command
  pub lacks : lacks_any s.progress ≡ true
  pub next : is_next_at scan s.progress ≡ true
  pub turn : IsInTurn rebuilds s scan

-- this lock comes next
pub record IsLockNext (s : Progress) (rel : Oid) (mode : Mode) : Type 0 where
  pub command : Command
  pub free : IsFree s command
  pub may : may_lock_at command rel mode s ≡ true

-- giving this lock back comes next
pub record IsUnlockNext (s : Progress) (rel : Oid) (mode : Mode) : Type 0 where
  pub command : Command
  pub free : IsFree s command
  pub may : may_unlock_at command rel mode s ≡ true

-- a lookup has found no relation, and looks before it says so; where it says so already, its last entry was a look
pub data FindsNone (s : Progress) (command : Command) : Type 0 where
  Looks : is_unfound s (plan_at s.opens s.exec) ≡ true → owes_nothing command s ≡ true → FindsNone s command
  Says : is_absent (plan_at s.opens s.exec) ≡ true → is_quiet s.due ≡ true → FindsNone s command

-- such a look comes next: it wasn't made, or messages came since the lookup began
pub record IsAcceptNext (s : Backend) : Type 0 where
  pub command : Command
  pub free : IsFree s.progress command
  pub finds : FindsNone s.progress command
  pub unlooked : (s.looked ≡ false) ⊎ (s.told ≡ true)

-- a write comes next
pub record IsWriteNext (s : Progress) : Type 0 where
  pub command : Command
  pub free : IsFree s command
  pub owes : owes_nothing command s ≡ true
  pub wants : want_of (plan_at s.opens s.exec) ≡ wants.Write

-- this entry of an end comes next: no look comes before it, the rule lets it come, and nothing is rebuilt
pub record IsEndNext (s : Backend) (event : Event) : Type 0 where
  pub free : (command : Command) → slice_get s.progress.commands s.progress.finished ≡ Some command → IsFree s.progress command × (accepts_again s ≡ false)
  pub may : (oid : ℕ) → may_play_now oid s.progress event ≡ true
  pub bare : s.frames ≡ []

-- its writes were taken back: the release comes next, and no scan, though what is held may lack some
pub record IsGone (s : Backend) (command : Command) : Type 0 where
  pub bare : s.frames ≡ []
  pub wants : want_of (plan_at s.progress.opens s.progress.exec) ≡ wants.Done None
  pub from : ℕ
  pub end : end_at s.progress command ≡ TakesBack from
  pub going : s.progress.ended ≡ false

-- nothing that is held lacks a scan, unless its writes were taken back
abbrev pub IsWhole : Backend → Command → Type 0
IsWhole s command = (lacks_opened (kept_at s.progress) s.progress.opened ≡ false) ⊎ IsGone s command

-- its end waits for no scan
abbrev pub WaitsForNone : Backend → Command → Type 0
WaitsForNone s command = (lacks_any s.progress ≡ false) ⊎ IsGone s command

-- such a scan comes next, for which no look was made
pub record IsLookNext (rebuilds : Bool) (s : Backend) : Type 0 where
  pub scan : Purpose
  pub next : IsScanNext s scan rebuilds
  pub unlooked : is_looked_for rebuilds s ≡ false

-- what the choice rests on: a lock that the running lookup took is held by a grant of its command, where a look was made for a lookup that has found no relation, the lookup ends, the rebuild on top is of a held descriptor that lacks a scan, and where nothing is rebuilt none does, unless the command's writes were taken back; a command that has failed rebuilds nothing, and after the last one nothing is owed or rebuilt
pub record IsChoiceSound (s : Backend) : Type 0 where
  pub takes : TakesFit (s.progress.finished + 1) s.progress.locks.items s.progress.taken (plan_at s.progress.opens s.progress.exec)
  pub accepts : s.looked ≡ true → is_unfound s.progress (plan_at s.progress.opens s.progress.exec) ≡ true → owed_after s.progress.due ≡ [] → has_accepted_at s.progress ≡ true
  pub builds : (f : Frame) → top s.frames ≡ Some f → IsRebuilt (is_kept (kept_at s.progress)) s.progress.opened f
  pub whole : (command : Command) → slice_get s.progress.commands s.progress.finished ≡ Some command → s.frames ≡ [] → has_failed s.progress ≡ false → IsWhole s command
  pub bare : has_failed s.progress ≡ true → s.frames ≡ []
  pub past : slice_get s.progress.commands s.progress.finished ≡ None → owed_after s.progress.due ≡ []
  pub over : slice_get s.progress.commands s.progress.finished ≡ None → s.frames ≡ []

-- what comes next, with all that it needs
abbrev pub IsNextOf : Backend → Next → Type 0
IsNextOf s nexts.Look = OwesLookNow s.progress
IsNextOf s (nexts.LookBeforeScan rebuilds) = IsLookNext rebuilds s
IsNextOf s nexts.LookBeforeAbsent = IsAcceptNext s
IsNextOf s nexts.Fetch = s.progress.due ≡ dues.Fetch
IsNextOf s (nexts.Scan scan rebuilds) = IsScanNext s scan rebuilds × (is_looked_for rebuilds s ≡ true)
IsNextOf s (nexts.Lock rel mode) = IsLockNext s.progress rel mode
IsNextOf s (nexts.Unlock rel mode) = IsUnlockNext s.progress rel mode
IsNextOf s nexts.Write = IsWriteNext s.progress
IsNextOf s nexts.Leave = (slice_get s.progress.commands s.progress.finished ≡ None) × (s.progress.running ≡ None)
IsNextOf s (nexts.Commit xid) = IsEndNext s (events.Visible xid)
IsNextOf s nexts.Publish = IsEndNext s (events.Publish (length (take 64 (unsent_at s.progress))))
IsNextOf s (nexts.TakeBack from) = IsEndNext s (events.Gone from)
IsNextOf s (nexts.Release from) = IsEndNext s (events.Release from)
