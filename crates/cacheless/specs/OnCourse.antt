-- How far a command is in what its plan says, by the session of its backend and the history.
use Rattle.std.specs.Prelude.{◌≡◌, ◌<◌, ◌⊎◌, ⊤, ℕ, Bool, true, false, Option, Some, None, List, [], ◌∷◌, ◌++◌, map, length, slice_get}
use Rattle.std.specs.List.{AllByRecursion}
use Rattle.base_types.specs.declared.scan.Purpose.TheVariants as scans
use Rattle.event_kinds.specs.declared.entry.Event.TheVariants as events
use Rattle.lock_modes.specs.Own.{cleared}
use Rattle.ddl_effect.specs.declared.told.Told.TheVariants as tells
use Rattle.ddl_effect.specs.Plans.{Act, Lookup, Write, Plan, Done, Fails, Absent, Do}
pub use Rattle.ddl_effect.specs.Plans.{is_absent}
use Rattle.ddl_effect.specs.Commands.{plan_of, commands_of}
use Rattle.txn_blocks.specs.Blocks.{refused_by}
use Rattle.history_model.specs.Lives.{last_event_of}
use Rattle.history_model.specs.OfKind.{IsOfKind}
use Rattle.history_model.specs.Read.{rows_read}
use Rattle.history_model.specs.Versions.{answer_of}
use Rattle.history_model.specs.Transactions.{has_written}
use Rattle.cacheless.specs.Types.{Oid, Mode, Row, Command, CommandError, Opening, OpenRelation, Draft, Told, Scenario, Entry, Event}
use Rattle.cacheless.specs.Facts.{Facts, facts_of}
use Rattle.cacheless.specs.Work.{work_of}
use Rattle.cacheless.specs.Owed.{accepts_in}
use Rattle.cacheless.specs.Session.{Session, Well, held_before, number_of, outcome_of, is_settled}
use Rattle.cacheless.specs.Settled.{class_oid, found_by, is_finished_in}
use Rattle.cacheless.specs.Sessions.{session_of}
use Rattle.cacheless.specs.Told.{tells_of_scans}
use Rattle.cacheless.specs.ActsDone.{LockOn, locks_by, named_by, IsDrawn, IsHeldOn, reached, made_in, opening_by, IsStill, WayHolds, IsOtherLock}

-- a lookup that has newly locked a relation has locked none under which its command goes on
abbrev pub TakesNew : List LockOn → Plan → Option Oid → Type 0
TakesNew locked (Do (Lookup name mode) rest) (Some rel) = AllByRecursion (IsOtherLock rel mode) locked
TakesNew locked plan taken = ⊤

-- a command that hasn't written, by what its acts gave so far
pub record OnItsWay (seen : List Entry) (b : ℕ) (s : Session) (command : Command) : Type 0 where
  pub gave : List (List Row)
  pub plan : s.left ≡ reached gave (plan_of s.opens command)
  pub found : s.found ≡ made_in found_by gave (plan_of s.opens command)
  pub opened : s.opened ≡ held_before s ++ made_in opening_by gave (plan_of s.opens command)
  pub holds : WayHolds seen b gave (plan_of s.opens command)
  pub newly : TakesNew (made_in locks_by gave (plan_of s.opens command)) s.left s.taken
  pub unwritten : has_written seen b (number_of s) ≡ false

-- a command that has written, by what its acts before gave
pub record HasWritten (seen : List Entry) (b : ℕ) (s : Session) (command : Command) : Type 0 where
  pub gave : List (List Row)
  pub draft : Draft
  pub further : List Row → Plan
  pub came : reached gave (plan_of s.opens command) ≡ Do (Write draft) further
  pub plan : s.left ≡ Done tells.Ok
  pub written : has_written seen b (number_of s) ≡ true

-- the last entry took writes of the command back, or its release is made
abbrev pub is_over : Option Event → Session → Bool
is_over (Some (events.Gone from)) s = true
is_over last s = s.ended

-- a command that has come out, and whose locks may be gone
pub record IsOver (seen : List Entry) (b : ℕ) (s : Session) : Type 0 where
  pub out : is_settled (outcome_of s.left) ≡ true
  pub over : is_over (last_event_of seen b) s ≡ true

-- how far a command is that no error of an entry has ended
pub data Way (seen : List Entry) (b : ℕ) (s : Session) (command : Command) : Type 0 where
  Begun : (way : OnItsWay seen b s command) → Way seen b s command
  Wrote : (written : HasWritten seen b s command) → Way seen b s command
  Over : (over : IsOver seen b s) → Way seen b s command

-- what an act gave is so, as far as the rest of its plan goes, the relations of which it read are drawn, and the lock under which it goes on is held
pub record GaveNow (seen : List Entry) (b : ℕ) (act : Act) (rest : List Row → Plan) (gave : List Row) : Type 0 where
  pub locked : AllByRecursion (IsHeldOn seen b) (locks_by act gave)
  pub drawn : AllByRecursion (IsDrawn seen) (named_by act gave)
  pub still : IsStill (answer_of seen b) act rest gave

-- where the command failed to find a relation, the last scan of its name gave none
abbrev pub NamedFits : List Entry → ℕ → Plan → Type 0
NamedFits seen b (Absent name) = class_oid (rows_read seen b (scans.RelName name)) ≡ None
NamedFits seen b plan = ⊤

-- a command whose last lookup found no relation, by what its acts before gave; a fetch repeats the lookup
pub record WasSought (seen : List Entry) (b : ℕ) (s : Session) (command : Command) (name : List ℕ) : Type 0 where
  pub gave : List (List Row)
  pub mode : Mode
  pub rest : List Row → Plan
  pub looks : s.sought ≡ Do (Lookup name mode) rest
  pub plan : s.sought ≡ reached gave (plan_of s.opens command)
  pub found : s.found ≡ made_in found_by gave (plan_of s.opens command) ++ None ∷ []
  pub opened : s.ended ≡ false → s.opened ≡ held_before s ++ made_in opening_by gave (plan_of s.opens command)
  pub holds : is_over (last_event_of seen b) s ≡ false → WayHolds seen b gave (plan_of s.opens command)
  pub taken : s.taken ≡ None
  pub unwritten : has_written seen b (number_of s) ≡ false

-- a command that does no act has opened nothing, before its release, and if it hasn't failed its answer is left
pub record DoesNoAct (s : Session) (told : Told) : Type 0 where
  pub opened : s.ended ≡ false → s.opened ≡ held_before s
  pub left : outcome_of s.left ≡ Well → s.left ≡ Done told

-- what was held as the command began is held
pub record StillHolds (s : Session) : Type 0 where
  pub more : List Opening
  pub opened : s.opened ≡ held_before s ++ more

-- the running command does what its plan says
pub record FollowsPlan (seen : List Entry) (b : ℕ) (s : Session) (command : Command) : Type 0 where
  pub refused : (error : CommandError) → s.refused ≡ Some error → s.left ≡ Fails error
  pub way : s.refused ≡ None → Way seen b s command
  pub named : NamedFits seen b s.left
  pub sought : (name : List ℕ) → s.left ≡ Absent name → WasSought seen b s command name
  pub plain : (told : Told) → plan_of s.opens command ≡ Done told → DoesNoAct s told
  pub admitted : s.refused ≡ None → refused_by s.blocks command ≡ None
  pub held : s.ended ≡ false → StillHolds s
  pub unwritten : (told : Told) → plan_of s.opens command ≡ Done told → has_written seen b (number_of s) ≡ false

-- the locks of a session are clear, unless its accept of messages isn't over
abbrev pub ClearUnlessOwed : Facts → Option Command → Session → Type 0
ClearUnlessOwed facts command s = accepts_in facts (work_of s) command ≡ false → map cleared s.locks ≡ s.locks

-- a command that does no act came out well, and what it tells rests on no scan
pub record TellsAlone (seen : List Entry) (b : ℕ) (s : Session) (command : Command) : Type 0 where
  pub told : Told
  pub plan : plan_of s.opens command ≡ Done told
  pub left : s.left ≡ Done told
  pub alone : tells_of_scans told ≡ false
  pub unwritten : has_written seen b (number_of s) ≡ false

-- nothing of a command is taken back or released, or what it tells rests on no scan
abbrev pub TellsStill : List Entry → ℕ → Session → Command → Type 0
TellsStill seen b s command = (is_over (last_event_of seen b) s ≡ false) ⊎ TellsAlone seen b s command

-- the relations that are open, and the descriptors that are held, are of their kinds
pub record AreOfKinds (seen : List Entry) (relations : List OpenRelation) (held : List Opening) : Type 0 where
  pub opens : AllByRecursion (λ o. IsOfKind seen o.rel o.kind) relations
  pub opened : AllByRecursion (λ o. IsOfKind seen o.rel o.kind) held

-- a session is on its course: the running command, if there is one, does what its plan says, and after its release it tells of no scan; no later one has written, its locks are clear unless its accept of messages isn't over, and what it has open is of its kind
pub record IsOnCourse (scenario : Scenario) (seen : List Entry) (b : ℕ) (s : Session) : Type 0 where
  pub follows : (command : Command) → slice_get (commands_of scenario b) (length s.finished) ≡ Some command → FollowsPlan seen b s command
  pub going : (command : Command) → slice_get (commands_of scenario b) (length s.finished) ≡ Some command → s.ended ≡ true → TellsAlone seen b s command
  pub later : (c : ℕ) → number_of s < c → has_written seen b c ≡ false
  pub clear : ClearUnlessOwed (facts_of seen b) (slice_get (commands_of scenario b) (length s.finished)) s
  pub kinds : AreOfKinds seen s.opens s.opened

-- the same before it has gone on without entries: where the running command has made its release, it is finished or tells of no scan
pub record EntersCourse (scenario : Scenario) (seen : List Entry) (b : ℕ) (s : Session) : Type 0 where
  pub follows : (command : Command) → slice_get (commands_of scenario b) (length s.finished) ≡ Some command → FollowsPlan seen b s command
  pub ends : (command : Command) → slice_get (commands_of scenario b) (length s.finished) ≡ Some command → s.ended ≡ true → (is_finished_in (facts_of seen b) command (work_of s) ≡ true) ⊎ TellsAlone seen b s command
  pub later : (c : ℕ) → number_of s < c → has_written seen b c ≡ false
  pub clear : ClearUnlessOwed (facts_of seen b) (slice_get (commands_of scenario b) (length s.finished)) s
  pub kinds : AreOfKinds seen s.opens s.opened

-- before its start a backend has written nothing, and afterwards its session is on its course
abbrev pub CourseOf : Scenario → List Entry → ℕ → Option Session → Type 0
CourseOf scenario seen b None = (c : ℕ) → has_written seen b c ≡ false
CourseOf scenario seen b (Some s) = IsOnCourse scenario seen b s

-- each backend is on its course
abbrev pub AllOnCourse : Scenario → List Entry → Type 0
AllOnCourse scenario history = (b : ℕ) → CourseOf scenario history b (session_of scenario history b)
