-- The session of a backend: a fold over its entries.
use Rattle.std.specs.Prelude.{ℕ, Bool, true, false, Option, Some, None, List, [], ◌∷◌, ◌++◌, ◌+◌, ◌-◌, if◌then◌else◌, map, length, take, drop}
use Rattle.std.specs.Option.{option_map}
use Rattle.event_kinds.specs.declared.entry.Event.TheVariants as events
use Rattle.command_answers.specs.declared.error.CommandError.TheVariants as errors
use Rattle.lock_modes.specs.Own.{cleared}
use Rattle.ddl_effect.specs.Plans.{Write, Plan, Fails, Absent, Do}
use Rattle.ddl_effect.specs.Commands.{commands_of}
use Rattle.ddl_effect.specs.Opens.{opens_before}
use Rattle.txn_blocks.specs.Blocks.{no_block}
use Rattle.history_model.specs.Prefixes.{along_own}
use Rattle.cacheless.specs.Types.{Command, CommandError, Scenario, Entry, Event}
use Rattle.cacheless.specs.Facts.{Facts, facts_of}
use Rattle.cacheless.specs.Locks.{locks_by}
use Rattle.cacheless.specs.Session.{Session, Tally, first_of, none_open, opening_of, held_before, at_command}
use Rattle.cacheless.specs.Work.{work_of}
use Rattle.cacheless.specs.Owed.{counts_full, accepts_in}
use Rattle.cacheless.specs.Settled.{settled}

-- the error that an entry shows ends the command
abbrev pub refused_with : CommandError → Session → Session
refused_with error s = record s { left = Fails error; refused = Some error }

-- the write of the command is made, and the descriptors that it has opened are closed
abbrev pub written : Plan → Session → Session
written (Do (Write draft) rest) s = record s { left = rest []; opened = held_before s; taken = None }
written plan s = s

-- a lookup that ended without a relation goes on
abbrev pub resumed : Plan → Session → Session
resumed (Absent name) s = record s { left = s.sought; found = take (length s.found - 1) s.found }
resumed plan s = s

-- the tally after an event
abbrev pub tally_by : Event → Tally → Tally
tally_by (events.Look some_wait) old = record old { looks = old.looks + 1 }
tally_by (events.Scan scan rows) old = record old { scans = old.scans + 1 }
tally_by (events.LockOk rel mode) old = record old { grants = old.grants + 1 }
tally_by (events.Unlock rel mode) old = record old { unlocks = old.unlocks + 1 }
tally_by (events.Fetch count) old = record old { fetches = old.fetches + 1 }
tally_by events.FetchReset old = record old { fetches = old.fetches + 1 }
tally_by event old = old

-- what an event changes of the running command
abbrev pub noted : Event → Session → Session
noted (events.LockOk rel mode) s = record s { taken = Some rel }
noted (events.Unlock rel mode) s = record s { taken = None }
noted (events.LockHeld rel mode holder held) s = refused_with (errors.Locked rel holder held) s
noted (events.ClashRow name rel) s = refused_with (errors.RelationExists name) s
noted (events.ClashRunning name xid) s = refused_with (errors.NameInUse name xid) s
noted (events.Write xid items) s = written s.left s
noted (events.Fetch count) s = resumed s.left s
noted events.FetchReset s = resumed s.left s
noted (events.Release from) s = record s { ended = true; opened = map opening_of (opens_before from s.opens) }
noted event s = s

-- the event belongs to the end of a command
abbrev pub ends_command : Event → Bool
ends_command (events.Visible xid) = true
ends_command (events.Publish count) = true
ends_command (events.Release from) = true
ends_command (events.Gone from) = true
ends_command event = false

-- the session with an event in this entry, before anything else is done
abbrev pub placed_at : ℕ → ℕ → Event → Session → Session
placed_at at command event s = record (noted event s) {
  tally = tally_by event s.tally;
  locks = locks_by command event s.locks;
  judged = if ends_command event then s.judged else at;
  last = at;
}

-- after a fetch of 32 messages a further look is owed, and it counts for no scan where no scan for a descriptor is owed
abbrev pub counted : Facts → Event → Session → Session
counted facts (events.Fetch count) s = record s { tally = elim (counts_full count facts (work_of s)) [ true ↦ record s.tally { full = s.tally.full + 1 } | false ↦ s.tally ] }
counted facts event s = s

-- where no accept is left to end, all locks are clear
abbrev pub accepted : Facts → Option Command → Session → Session
accepted facts command s = record s { locks = elim (accepts_in facts (work_of s) command) [ true ↦ s.locks | false ↦ map cleared s.locks ] }

-- the commands from the running one on
abbrev pub commands_left : Scenario → ℕ → Session → List Command
commands_left scenario b s = drop (length s.finished) (commands_of scenario b)

-- the session before anything else is done, by the facts after the entry, which has this number
abbrev pub entered : Facts → List Command → ℕ → ℕ → Event → Session → Session
entered facts commands at command event s = accepted facts (first_of commands) (counted facts event (placed_at at command event s))

-- the session after an entry of the backend
abbrev pub session_by : Scenario → Facts → ℕ → ℕ → ℕ → Event → Option Session → Option Session
session_by scenario facts b at command events.Start old = let commands = commands_of scenario b in Some (settled facts commands (at_command no_block none_open [] [] at (first_of commands)))
session_by scenario facts b at command event old = option_map (λ s. let commands = commands_left scenario b s in settled facts commands (entered facts commands at command event s)) old

-- how far a backend is in its commands, once it has started
abbrev pub session_of : Scenario → List Entry → ℕ → Option Session
session_of scenario history b = along_own b (λ before old e. session_by scenario (facts_of (before ++ e ∷ []) b) b (length before + 1) e.command e.event old) None history
