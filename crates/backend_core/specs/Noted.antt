-- What a backend notes beside how far it is: whether the look for the next scan of its act is made, the rebuilds that are on their way, and whether messages came since its lookup began; and what each entry makes of that.
use Rattle.std.specs.Prelude.{◌≡◌, ◌<◌, ◌+◌, ◌++◌, ◌∷◌, ◌&&◌, ◌||◌, ℕ, true, false, not, Option, Some, List, [], drop, length, map, ⊤}
use Rattle.event_kinds.specs.declared.entry.Event.TheVariants as events
use Rattle.history_model.specs.Drawn.{next_oid}
use Rattle.history_model.specs.Log.{fetched_by}
use Rattle.history_model.specs.Names.{new_names}
use Rattle.seg_calls.specs.Calls.{entry_of, first_refused, messages_in}
use Rattle.ddl_effect.specs.Opens.{opens_before}
use Rattle.ddl_effect.specs.Plans.{Plan, Do, Write}
use Rattle.ddl_effect.specs.Stages.{plan_at, acts_left}
use Rattle.cacheless.specs.Facts.{facts_of}
use Rattle.cacheless.specs.Holds.{Holds, IsWhere}
use Rattle.cacheless.specs.May.{has_failed}
use Rattle.cacheless.specs.Plays.{drafted}
use Rattle.cacheless.specs.Session.{Session, opening_of, held_in}
use Rattle.cacheless.specs.Sessions.{session_of, entered as session_after}
use Rattle.cacheless.specs.Silently.{Acts as MayAct}
use Rattle.cacheless.specs.State.{kept_at, kept_spared, is_kept, is_absent, session_at}
use Rattle.backend_core.specs.Types.{Scenario, Item, Message, Entry, Event, Next, Progress, Backend}
use Rattle.backend_core.specs.declared.life.Life.TheVariants as lives
use Rattle.backend_core.specs.declared.next.Next.TheVariants as nexts
pub use Rattle.backend_core.specs.Choice.{Noted, noted_of}
use Rattle.backend_core.specs.Choice.{next_at}
use Rattle.backend_core.specs.Frames.{unless, with_rest, frames_after}
use Rattle.backend_core.specs.Steps.{IsNextOf}
use Rattle.backend_core.specs.Words.{finds_none, has_begun, marks_build, looked_after, told_after, frames_given, frames_reset_of, frames_looked, frames_with_scan}

-- nothing, as at the beginning of a command
abbrev pub nothing_noted : Noted
nothing_noted = record { looked = false; frames = []; told = false }

-- after a fetch of these messages
abbrev pub noted_given : Backend → List Message → Noted
noted_given s messages = record {
  looked = looked_after s (finds_none s.progress) (marks_build s.progress messages);
  frames = frames_given s messages;
  told = told_after s (finds_none s.progress) (marks_build s.progress messages);
}

-- after one of a reset
abbrev pub noted_reset : Backend → Noted
noted_reset s = record {
  looked = looked_after s (finds_none s.progress) (has_begun s.progress);
  frames = frames_reset_of s s.progress.opened;
  told = told_after s (finds_none s.progress) (has_begun s.progress);
}

-- after a write of these messages, by which what its command opened is closed
abbrev pub noted_written : Backend → List Message → Noted
noted_written s messages = record (noted_of s) { frames = frames_after (is_kept (kept_spared messages (kept_at s.progress))) (held_in s.progress.blocks.block s.progress.opens) messages s.frames }

-- after the release of the commands from this one on: unless the command has failed, what is held still is rebuilt
abbrev pub noted_released : Backend → ℕ → Noted
noted_released s from = record (noted_of s) { frames = unless (has_failed s.progress) s.frames (with_rest (is_kept (kept_at s.progress)) (map opening_of (opens_before from s.progress.opens)) s.frames) }

-- after the entry of this event, which the backend chose as that which comes next: any other entry leaves it as it is
abbrev pub noted_by : List Entry → Backend → Next → Event → Noted
noted_by before s (nexts.LookBeforeScan rebuilds) event = record { looked = s.looked || not rebuilds; frames = frames_looked rebuilds s.frames; told = s.told }
noted_by before s nexts.LookBeforeAbsent event = record { looked = true; frames = s.frames; told = s.told && not s.looked }
noted_by before s nexts.Fetch (events.Fetch count) = noted_given s (fetched_by before s.progress.id count)
noted_by before s nexts.Fetch events.FetchReset = noted_reset s
noted_by before s (nexts.Scan scan rebuilds) event = record { looked = s.looked && rebuilds; frames = frames_with_scan rebuilds scan s; told = s.told }
noted_by before s (nexts.Lock rel mode) (events.LockOk granted in_mode) = record (noted_of s) { told = false }
noted_by before s nexts.Write (events.Write xid items) = noted_written s (messages_in before s.progress.id items)
noted_by before s (nexts.Release from) event = noted_released s from
noted_by before s next event = noted_of s

-- an event of the kind that comes next, and of a scan, a lock or an end with what that names; a write is refused with this refusal alone
abbrev pub ComesAs : Option Event → Next → Event → Type 0
ComesAs refusal nexts.Look (events.Look some_wait) = ⊤
ComesAs refusal (nexts.LookBeforeScan rebuilds) (events.Look some_wait) = ⊤
ComesAs refusal nexts.LookBeforeAbsent (events.Look some_wait) = ⊤
ComesAs refusal nexts.Fetch (events.Fetch count) = ⊤
ComesAs refusal nexts.Fetch events.FetchReset = ⊤
ComesAs refusal (nexts.Scan scan rebuilds) (events.Scan made rows) = made ≡ scan
ComesAs refusal (nexts.Lock rel mode) (events.LockOk granted in_mode) = (granted ≡ rel) × (in_mode ≡ mode)
ComesAs refusal (nexts.Lock rel mode) (events.LockHeld refused in_mode holder held) = (refused ≡ rel) × (in_mode ≡ mode)
ComesAs refusal (nexts.Unlock rel mode) (events.Unlock unlocked in_mode) = (unlocked ≡ rel) × (in_mode ≡ mode)
ComesAs refusal nexts.Write (events.Write xid items) = ⊤
ComesAs refusal nexts.Write (events.ClashRow name rel) = refusal ≡ Some (events.ClashRow name rel)
ComesAs refusal nexts.Write (events.ClashRunning name xid) = refusal ≡ Some (events.ClashRunning name xid)
ComesAs refusal (nexts.Commit xid) (events.Visible shown) = shown ≡ xid
ComesAs refusal nexts.Publish (events.Publish count) = ⊤
ComesAs refusal (nexts.TakeBack from) (events.Gone first) = first ≡ from
ComesAs refusal (nexts.Release from) (events.Release first) = first ≡ from
ComesAs refusal nexts.Leave events.Stop = ⊤
ComesAs refusal next event = ⊥

-- what a plan writes, where the first new oid is this one
abbrev pub items_left : ℕ → Plan → List Item
items_left next (Do (Write draft) rest) = drafted next draft
items_left next plan = []

-- the refusal of what is left of a backend's plan, if it writes a name that is taken
abbrev pub refusal_left : List Entry → ℕ → Plan → Option Event
refusal_left before b left = first_refused before b (new_names before b (items_left (next_oid before) left))

-- the backend is where this entry of its command leaves it, before it goes on without one
pub record IsEntered (scenario : Scenario) (old new : List Entry) (was : Progress) (event : Event) (now : Progress) : Type 0 where
  pub session : Session
  pub before : session_of scenario old was.id ≡ Some session
  pub holds : Holds scenario new now
  pub after : session_at now holds.rest ≡ session_after (facts_of new was.id) (drop was.finished was.commands) (length old + 1) (was.finished + 1) event session
  pub moves : IsWhere was now

-- the entry that came next is made, and no other, the backend is where it leaves it, and what is noted is what it makes of it
pub record IsNoted (scenario : Scenario) (old new : List Entry) (was : Backend) (next : Next) (now : Backend) : Type 0 where
  pub event : Event
  pub made : ComesAs (refusal_left old was.progress.id (plan_at was.progress.opens was.progress.exec)) next event
  pub entered : new ≡ old ++ entry_of was.progress.id (was.progress.finished + 1) event ∷ []
  pub goes : IsEntered scenario old new was.progress event now.progress
  pub noted : noted_of now ≡ noted_by old was next event

-- acts are done: the first needed no entry, fewer are left, and none comes after that of a lookup which has found no relation
pub record DoesActs (was now : Progress) : Type 0 where
  pub first : MayAct was
  pub number : now.finished ≡ was.finished
  pub fewer : acts_left now.exec < acts_left was.exec
  pub lost : finds_none was ≡ true → is_absent (plan_at now.opens now.exec) ≡ true

-- going on without an entry: where no act is done nothing of it changes; that messages came counts still after the act of a lookup which has found no relation, and after any other no lookup runs, since whose beginning they would come; and where a command is passed nothing is noted
pub data Settles (was now : Backend) : Type 0 where
  Stays : now.progress ≡ record was.progress { answer = now.progress.answer } → noted_of now ≡ noted_of was → Settles was now
  Acts : DoesActs was.progress now.progress → noted_of now ≡ record (noted_of was) { told = was.told && finds_none was.progress } → Settles was now
  Passes : was.progress.finished < now.progress.finished → noted_of now ≡ nothing_noted → Settles was now

-- an entry notes what it makes of it: the one of the choice, with all that it needs
pub record NotesEntry (scenario : Scenario) (old new : List Entry) (was now : Backend) : Type 0 where
  pub next : Next
  pub chosen : next_at was ≡ Some next
  pub needs : IsNextOf was next
  pub noted : IsNoted scenario old new was next now

-- a step makes its entry, and then goes on
pub record NotesStep (scenario : Scenario) (old new : List Entry) (was now : Backend) : Type 0 where
  pub entered : Backend
  pub made : NotesEntry scenario old new was entered
  pub settled : Settles entered now

-- what an entry leaves noted: of a backend that hadn't joined nothing, of any other what its entry makes of it
abbrev pub NotesAtEntry : Scenario → List Entry → List Entry → Backend → Backend → Type 0
NotesAtEntry scenario old new was now = elim was.life [ lives.Unstarted ↦ noted_of now ≡ nothing_noted | life ↦ NotesEntry scenario old new was now ]

-- the same of a step
abbrev pub NotesAtStep : Scenario → List Entry → List Entry → Backend → Backend → Type 0
NotesAtStep scenario old new was now = elim was.life [ lives.Unstarted ↦ noted_of now ≡ nothing_noted | life ↦ NotesStep scenario old new was now ]
