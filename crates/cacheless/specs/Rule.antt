-- The rule: what may come next of a backend, by the facts of its entries and by its running command. It computes what Plays says as a relation (`come_decides`).
use Rattle.std.specs.Prelude.{ℕ, Bool, true, false, not, Option, Some, None, List, ◌==◌, ◌&&◌, is_none, is_some, slice_get}
use Rattle.std.specs.Option.{option_map_or}
use Rattle.std.specs.List.{list_any, flat_map}
use Rattle.std.specs.Str.{bytes_eq}
use Rattle.base_types.specs.Modes.{same_mode}
use Rattle.base_types.specs.Scans.{same_oid}
use Rattle.base_types.specs.declared.row.Row.TheVariants as rows
use Rattle.base_types.specs.declared.scan.Purpose.TheVariants as scans
use Rattle.event_kinds.specs.declared.entry.Event.TheVariants as events
use Rattle.ddl_effect.specs.Plans.{Plan, Do, Lookup, Lock, Write}
use Rattle.history_model.specs.Changing.{is_empty}
use Rattle.local_caches.specs.Kept.{Kept, rows_kept}
use Rattle.cacheless.specs.Types.{Oid, Mode, Row, Purpose, Command, Item, Event}
use Rattle.cacheless.specs.Facts.{Facts}
use Rattle.cacheless.specs.Work.{Work}
use Rattle.cacheless.specs.Owed.{owed_after, is_free, is_next_in, has_looked_in}
use Rattle.cacheless.specs.Ends.{End, TakesBack, end_of_all, next_of_end, end_in, end_left_in}
pub use Rattle.cacheless.specs.Plays.{may_look_in, names_by}
use Rattle.cacheless.specs.Plays.{drafted}
use Rattle.cacheless.specs.SameItems.{same_items}

-- a scan may come next
abbrev pub may_scan : Purpose → Facts → Work → Bool
may_scan scan facts w = is_empty (owed_after facts.due) && is_next_in scan facts w && has_looked_in facts w

-- there is a row, and it is that of the relation
abbrev pub names_relation : Oid → Option Row → Bool
names_relation rel (Some (rows.Class oid name kind fill)) = same_oid rel oid
names_relation rel given = false

-- the row by which a lookup of the name goes on: the first of those that are kept
abbrev pub row_of_name : Facts → List ℕ → Option Row
row_of_name facts name = slice_get (rows_kept facts.kept (scans.RelName name)) 0

-- the next act asks for this lock
abbrev pub is_lock : Facts → Plan → Oid → Mode → Bool
is_lock facts (Do (Lookup name wanted) rest) rel mode = names_relation rel (row_of_name facts name) && same_mode mode wanted
is_lock facts (Do (Lock other wanted) rest) rel mode = same_oid rel other && same_mode mode wanted
is_lock facts plan rel mode = false

-- the next act releases this lock: its lookup has newly taken it, and finds no relation or another one
abbrev pub is_unlock : Facts → Option Oid → Plan → Oid → Mode → Bool
is_unlock facts taken (Do (Lookup name wanted) rest) rel mode = option_map_or (same_oid rel) taken false && same_mode mode wanted && not (names_relation rel (row_of_name facts name))
is_unlock facts taken plan rel mode = false

-- the next act writes these items, where the next new oid is this one
abbrev pub is_write : ℕ → List Item → Plan → Bool
is_write next written (Do (Write draft) rest) = same_items written (drafted next draft)
is_write next written plan = false

-- the next act writes a relation of this name
abbrev pub is_clash : Kept → List ℕ → Plan → Bool
is_clash kept name (Do (Write draft) rest) = list_any (bytes_eq name) (flat_map (names_by kept) draft.changes)
is_clash kept name plan = false

-- a lock, granted or refused, may come next
abbrev pub may_lock : Facts → Command → Work → Oid → Mode → Bool
may_lock facts command w rel mode = is_free facts command w && is_none w.taken && is_lock facts w.left rel mode

-- two entries of an end are one
abbrev pub same_end : Event → Event → Bool
same_end (events.Visible own) (events.Visible xid) = xid.0 == own.0
same_end (events.Publish most) (events.Publish count) = count == most
same_end (events.Gone first) (events.Gone from) = from == first
same_end (events.Release first) (events.Release from) = from == first
same_end next event = false

-- the event is this one, if there is one
abbrev pub comes_next : Option Event → Event → Bool
comes_next next event = option_map_or (λ e. same_end e event) next false

-- nothing has to come before the next entry of an end: taking back waits for no scan
abbrev pub is_free_to : End → Facts → Command → Work → Bool
is_free_to (TakesBack from) facts command w = is_empty (owed_after facts.due)
is_free_to end facts command w = is_free facts command w

-- the event comes next of the command's end
abbrev pub may_end : Facts → Command → Work → Event → Bool
may_end facts command w event = is_free_to (end_in facts command w) facts command w && comes_next (end_left_in facts command w) event

-- what may come next in a command, where the next new oid is this one
abbrev pub may_play : ℕ → Facts → Command → Work → Event → Bool
may_play next facts command w (events.Look some_wait) = may_look_in facts w
may_play next facts command w (events.Fetch count) = true
may_play next facts command w events.FetchReset = true
may_play next facts command w (events.Scan scan count) = may_scan scan facts w
may_play next facts command w (events.LockOk rel mode) = may_lock facts command w rel mode
may_play next facts command w (events.LockHeld rel mode holder held) = may_lock facts command w rel mode
may_play next facts command w (events.Unlock rel mode) = is_free facts command w && is_unlock facts w.taken w.left rel mode
may_play next facts command w (events.Write xid written) = is_free facts command w && is_write next written w.left
may_play next facts command w (events.ClashRow name rel) = is_free facts command w && is_clash facts.kept name w.left
may_play next facts command w (events.ClashRunning name xid) = is_free facts command w && is_clash facts.kept name w.left
may_play next facts command w (events.Visible xid) = may_end facts command w (events.Visible xid)
may_play next facts command w (events.Publish count) = may_end facts command w (events.Publish count)
may_play next facts command w (events.Gone from) = may_end facts command w (events.Gone from)
may_play next facts command w (events.Release from) = may_end facts command w (events.Release from)
may_play next facts command w event = false

-- the event comes next of taking back what still runs after the last command
abbrev pub may_end_last : Facts → Event → Bool
may_end_last facts event = is_empty (owed_after facts.due) && comes_next (next_of_end facts (end_of_all facts)) event

-- what may come next after the last command
abbrev pub may_last : Facts → Work → Event → Bool
may_last facts w (events.Look some_wait) = is_some facts.running && may_look_in facts w
may_last facts w (events.Fetch count) = true
may_last facts w events.FetchReset = true
may_last facts w (events.Scan scan count) = may_scan scan facts w
may_last facts w (events.Gone from) = may_end_last facts (events.Gone from)
may_last facts w (events.Release from) = may_end_last facts (events.Release from)
may_last facts w events.Stop = is_none facts.running
may_last facts w event = false

-- what may come next in a command, or after the last one
abbrev pub may_come : ℕ → Facts → Option Command → Work → Event → Bool
may_come next facts (Some command) w event = may_play next facts command w event
may_come next facts None w event = may_last facts w event
