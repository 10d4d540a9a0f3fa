-- The order in which backends do what their commands say, as a relation. Rule computes it.
use Rattle.std.specs.Prelude.{ℕ, Bool, true, false, Option, Some, None, List, [], ◌∷◌, ◌≡◌, ◌+◌, ◌*◌, nat_le, ⊤, length, is_some, slice_get, if◌then◌else◌}
use Rattle.std.specs.List.{list_any, flat_map}
use Rattle.std.specs.Str.{bytes_eq}
use Rattle.base_types.specs.Scenario.{IsBackend}
use Rattle.base_types.specs.declared.change.Change.{Change}
use Rattle.base_types.specs.declared.change.Change.TheVariants as changes
use Rattle.base_types.specs.declared.row.Row.TheVariants as rows
use Rattle.base_types.specs.declared.scan.Purpose.TheVariants as scans
use Rattle.event_kinds.specs.declared.entry.Event.TheVariants as events
use Rattle.ddl_effect.specs.Plans.{Lookup, Lock, Write, Plan, Do}
use Rattle.ddl_effect.specs.Commands.{commands_of}
use Rattle.ddl_effect.specs.Drawing.{changes_of}
use Rattle.history_model.specs.Prefixes.{EachEntry}
use Rattle.history_model.specs.Changes.{items_of}
use Rattle.history_model.specs.Drawn.{next_oid}
use Rattle.history_model.specs.Names.{has_name}
use Rattle.local_caches.specs.Kept.{Kept, rows_kept}
use Rattle.cacheless.specs.Types.{Oid, Mode, Draft, Command, Scenario, Entry, Event, Item}
use Rattle.cacheless.specs.Facts.{Facts, facts_of}
use Rattle.cacheless.specs.Session.{Session, number_of}
use Rattle.cacheless.specs.Work.{Work, work_of}
use Rattle.cacheless.specs.Owed.{Owes, OwesFetch, owed_after, owed_in, has_looked_in, is_next_in}
use Rattle.cacheless.specs.Ends.{TakesBack, end_in, end_left_in, end_of_all, next_of_end}
use Rattle.cacheless.specs.Settled.{class_oid, finds}
use Rattle.cacheless.specs.Sessions.{session_of}

-- no fetch has to come first, and the looks of the command stay within their bound
abbrev pub may_look_in : Facts → Work → Bool
may_look_in facts w = elim (owed_after facts.due) [ OwesFetch ∷ owed ↦ false | owed ↦ nat_le (w.tally.looks + 1) (w.tally.scans + w.tally.grants + w.tally.unlocks + 2 * w.tally.fetches + 3) ]

-- the next act asks for this lock
abbrev pub IsLock : Facts → Plan → Oid → Mode → Type 0
IsLock facts (Do (Lookup name wanted) rest) rel mode = (class_oid (rows_kept facts.kept (scans.RelName name)) ≡ Some rel) × (mode ≡ wanted)
IsLock facts (Do (Lock wanted_rel wanted) rest) rel mode = (rel ≡ wanted_rel) × (mode ≡ wanted)
IsLock facts plan rel mode = ⊥

-- the next act releases this lock: its lookup has newly taken it, and finds no relation or another one
abbrev pub IsUnlock : Facts → Option Oid → Plan → Oid → Mode → Type 0
IsUnlock facts taken (Do (Lookup name wanted) rest) rel mode = (taken ≡ Some rel) × (mode ≡ wanted) × (finds rel (rows_kept facts.kept (scans.RelName name)) ≡ false)
IsUnlock facts taken plan rel mode = ⊥

-- the items of a draft, where the first new oid is this one
abbrev pub drafted : ℕ → Draft → List Item
drafted next draft = items_of (changes_of next draft) draft.forced

-- the next act writes these items
abbrev pub IsWrite : ℕ → Plan → List Item → Type 0
IsWrite next (Do (Write draft) rest) items = items ≡ drafted next draft
IsWrite next plan items = ⊥

-- the new name that a change gives a relation, if it gives one: none where the row that is kept of it has it already
abbrev pub names_by : Kept → Change → List (List ℕ)
names_by kept (changes.Insert (rows.Class oid name kind fill)) = name ∷ []
names_by kept (changes.Replace (rows.Class oid name kind fill)) = if list_any (has_name name) (rows_kept kept (scans.Class oid)) then [] else name ∷ []
names_by kept change = []

-- the next act writes a relation of this name
abbrev pub IsClash : Facts → Plan → List ℕ → Type 0
IsClash facts (Do (Write draft) rest) name = list_any (bytes_eq name) (flat_map (names_by facts.kept) draft.changes) ≡ true
IsClash facts plan name = ⊥

-- what has to come before the next entry of the end: taking back waits for no scan
abbrev pub owed_at_end : Facts → Command → Session → List Owes
owed_at_end facts command s = elim (end_in facts command (work_of s)) [ TakesBack from ↦ owed_after facts.due | end ↦ owed_in facts command (work_of s) ]

-- the next entry of the command's end
abbrev pub IsEnd : Facts → Command → Session → Event → Type 0
IsEnd facts command s event = (owed_at_end facts command s ≡ []) × (end_left_in facts command (work_of s) ≡ Some event)

-- what may come next in a command, where the next new oid is this one
abbrev pub MayPlay : ℕ → Facts → Command → Session → Event → Type 0
MayPlay next facts command s (events.Look some_wait) = may_look_in facts (work_of s) ≡ true
MayPlay next facts command s (events.Fetch count) = ⊤
MayPlay next facts command s events.FetchReset = ⊤
MayPlay next facts command s (events.Scan scan count) = (owed_after facts.due ≡ []) × (is_next_in scan facts (work_of s) ≡ true) × (has_looked_in facts (work_of s) ≡ true)
MayPlay next facts command s (events.LockOk rel mode) = (owed_in facts command (work_of s) ≡ []) × (s.taken ≡ None) × IsLock facts s.left rel mode
MayPlay next facts command s (events.LockHeld rel mode holder held) = (owed_in facts command (work_of s) ≡ []) × (s.taken ≡ None) × IsLock facts s.left rel mode
MayPlay next facts command s (events.Unlock rel mode) = (owed_in facts command (work_of s) ≡ []) × IsUnlock facts s.taken s.left rel mode
MayPlay next facts command s (events.Write xid items) = (owed_in facts command (work_of s) ≡ []) × IsWrite next s.left items
MayPlay next facts command s (events.ClashRow name rel) = (owed_in facts command (work_of s) ≡ []) × IsClash facts s.left name
MayPlay next facts command s (events.ClashRunning name xid) = (owed_in facts command (work_of s) ≡ []) × IsClash facts s.left name
MayPlay next facts command s (events.Visible xid) = IsEnd facts command s (events.Visible xid)
MayPlay next facts command s (events.Publish count) = IsEnd facts command s (events.Publish count)
MayPlay next facts command s (events.Gone from) = IsEnd facts command s (events.Gone from)
MayPlay next facts command s (events.Release from) = IsEnd facts command s (events.Release from)
MayPlay next facts command s event = ⊥

-- the next entry of taking back what still runs after the last command
abbrev pub IsLastEnd : Facts → Event → Type 0
IsLastEnd facts event = (owed_after facts.due ≡ []) × (next_of_end facts (end_of_all facts) ≡ Some event)

-- after the last command what relations that are open lack may be scanned still, a transaction that still runs is taken back, and the stop follows
abbrev pub MayPlayLast : Facts → Session → Event → Type 0
MayPlayLast facts s (events.Look some_wait) = (is_some facts.running ≡ true) × (may_look_in facts (work_of s) ≡ true)
MayPlayLast facts s (events.Fetch count) = ⊤
MayPlayLast facts s events.FetchReset = ⊤
MayPlayLast facts s (events.Scan scan count) = (owed_after facts.due ≡ []) × (is_next_in scan facts (work_of s) ≡ true) × (has_looked_in facts (work_of s) ≡ true)
MayPlayLast facts s (events.Gone from) = IsLastEnd facts (events.Gone from)
MayPlayLast facts s (events.Release from) = IsLastEnd facts (events.Release from)
MayPlayLast facts s events.Stop = facts.running ≡ None
MayPlayLast facts s event = ⊥

-- what may come next in a session
abbrev pub MayPlayIn : ℕ → Facts → Option Command → Session → Event → Type 0
MayPlayIn next facts None s event = MayPlayLast facts s event
MayPlayIn next facts (Some command) s event = MayPlay next facts command s event

-- the event is a start
abbrev pub IsStart : Event → Type 0
IsStart events.Start = ⊤
IsStart event = ⊥

-- what may come next: the start, or what the session says, with the number of its command
abbrev pub MayPlayAt : Scenario → List Entry → ℕ → Option Session → ℕ → Event → Type 0
MayPlayAt scenario before b None c event = IsStart event
MayPlayAt scenario before b (Some s) c event = (c ≡ number_of s) × MayPlayIn (next_oid before) (facts_of before b) (slice_get (commands_of scenario b) (length s.finished)) s event

-- an entry is what a backend of the script may do next
abbrev pub IsNext : Scenario → List Entry → Entry → Type 0
IsNext scenario before e = IsBackend scenario.backends e.backend × MayPlayAt scenario before e.backend (session_of scenario before e.backend) e.command e.event

-- the backends do what their commands say, in order
abbrev pub Plays : Scenario → List Entry → Type 0
Plays scenario history = EachEntry (IsNext scenario) history
