-- Whether an entry may follow, and what it changes, by the rows that the code keeps: the words of its functions.
use Rattle.std.specs.Prelude.{◌≡◌, ◌≤◌, ◌<◌, ◌^◌, ◌-◌, ◌+◌, ◌==◌, ◌&&◌, ◌||◌, ⊤, ℕ, Bool, true, false, not, Option, Some, None, List, [], length}
use Rattle.std.specs.List.{AllByRecursion, flat_map, list_any, list_all}
use Rattle.std.specs.Option.{option_map_or}
use Rattle.base_types.specs.RowKeys.{are_distinct_keys}
use Rattle.base_types.specs.Scans.{same_oid}
use Rattle.catalog_rows.specs.Store.{Store, rows_of_scan, has_user}
use Rattle.command_lists.specs.Lists.{new_list, with_messages}
use Rattle.lock_modes.specs.Grants.{holds}
use Rattle.history_model.specs.Segment.{Standing, Segment}
use Rattle.history_model.specs.Rows.{added_row}
use Rattle.history_model.specs.Messages.{log_after, unsent_at}
use Rattle.history_model.specs.Grants.{held_by}
use Rattle.history_model.specs.Oids.{drawn_by, made_by}
use Rattle.history_model.specs.Changing.{changed_key, relations_changed, is_validation, modes_enough, is_there, leaves_kind, are_from, is_last_write}
use Rattle.history_model.specs.Allows.{follows_own, may_look, may_fetch, has_looked, may_lock, may_refuse, may_unlock, may_end, allows_event, fetches_from, allows}
use Rattle.history_model.specs.After.{standing_by}
use Rattle.history_ledger.specs.Types.{Oid, Xid, Row, Class, Reader, Grant, Message, Item, Add, Entry, Event, Start, Look, Fetch, FetchReset, LockOk, LockHeld, Unlock, Scan, Write, ClashRow, ClashRunning, Publish, Written, RunningTransaction}
use Rattle.segment_rows.specs.Kept.{xid_in, reader_at}
use Rattle.segment_rows.specs.Words.{messages_at, may_clash, old_at, frees_names, covers_item, IsPlaced, DrawsNext, rows_after}
use Rattle.history_ledger.specs.Held.{standing_at, published_in, Keeps}
use Rattle.history_ledger.specs.declared.ledger.Ledger.{Ledger}

-- the messages of an event
abbrev pub messages_from : Store → Reader → Event → List Message
messages_from store reader (Write xid items) = flat_map (messages_at store reader) items
messages_from store reader event = []

-- a change makes a relation
abbrev pub makes_relation : Item → Bool
makes_relation (Add (Class oid name kind fill)) = true
makes_relation item = false

-- an event grants a lock
abbrev pub grants_lock : Event → Bool
grants_lock (LockOk rel mode) = true
grants_lock (Write xid items) = list_any makes_relation items
grants_lock event = false

-- a backend writes
abbrev pub is_write : Event → Bool
is_write (Write xid items) = true
is_write event = false

-- a backend publishes
abbrev pub is_publish : Event → Bool
is_publish (Publish count) = true
is_publish event = false

-- a write is of a later command than those whose lists are kept
abbrev pub IsInOrder : ℕ → Event → List Written → Type 0
IsInOrder command (Write xid items) lists = AllByRecursion (λ w. w.command < command) lists
IsInOrder command event lists = ⊤

-- the Xid is the transaction's own, or else the next one
abbrev pub is_next_xid : Option Xid → ℕ → Xid → Bool
is_next_xid None last xid = xid.0 == last + 1
is_next_xid (Some own) last xid = xid.0 == own.0

-- the backend holds a mode that is enough on each relation of a row that is changed, but on those that the write makes
abbrev pub guards_row : List Grant → ℕ → List Oid → Option Row → Item → Row → Bool
guards_row held b made old item row = list_all (λ rel. list_any (same_oid rel) made || list_any (holds held b rel) (modes_enough old item rel)) (relations_changed (is_validation old item) row)

-- so it is with the old row and the new one
abbrev pub guards_rows : List Grant → ℕ → List Oid → Item → Option Row → Bool
guards_rows held b made item old = option_map_or (guards_row held b made old item) old true && option_map_or (guards_row held b made old item) (added_row item) true

-- a change is allowed by itself
abbrev pub may_change : Store → List Grant → Option Xid → ℕ → List Oid → Item → Option Row → Bool
may_change store held own b made item old = is_there item old && leaves_kind item old && frees_names store own item old && guards_rows held b made item old

-- a write may follow
abbrev pub may_write_at : Store → List Grant → ℕ → ℕ → ℕ → ℕ → Standing → Xid → List Item → Bool
may_write_at store held next last b c s xid items =
    is_next_xid (xid_in s.running) last xid && are_from next (flat_map drawn_by items) && not (is_last_write s.wrote c) && are_distinct_keys (flat_map changed_key items)
    && list_all (λ item. may_change store held (xid_in s.running) b (flat_map made_by items) item (old_at store (reader_at s) item)) items
    && list_all (covers_item store (reader_at s) (flat_map (messages_at store (reader_at s)) items) items) items

-- what a backend may do next
abbrev pub may_do_at : Store → List Grant → ℕ → ℕ → ℕ → ℕ → ℕ → Standing → Event → Bool
may_do_at store held end next last b c own Start = true
may_do_at store held end next last b c own (Look some_wait) = may_look end own some_wait
may_do_at store held end next last b c own (Fetch count) = may_fetch end own count
may_do_at store held end next last b c own FetchReset = has_looked own.asked
may_do_at store held end next last b c own (Scan purpose rows) = rows == length (rows_of_scan store purpose (reader_at own))
may_do_at store held end next last b c own (LockOk rel mode) = may_lock held b rel mode
may_do_at store held end next last b c own (LockHeld rel mode holder other) = may_refuse held b rel mode holder other
may_do_at store held end next last b c own (Unlock rel mode) = may_unlock held b c own rel mode
may_do_at store held end next last b c own (Write xid items) = may_write_at store held next last b c own xid items
may_do_at store held end next last b c own (ClashRunning name xid) = has_user store (xid_in own.running) name xid
may_do_at store held end next last b c own (ClashRow name rel) = may_clash store (xid_in own.running) name rel
may_do_at store held end next last b c own event = may_end c own event

-- to tell whether a backend may do this takes memory: for rows, keys or messages
abbrev pub takes_memory : Event → Bool
takes_memory (Scan purpose rows) = true
takes_memory (Write xid items) = true
takes_memory (ClashRow name rel) = true
takes_memory event = false

-- an entry may follow
abbrev pub may_follow_at : Ledger → ℕ → Entry → Bool
may_follow_at ledger size e =
    follows_own e.command (standing_at ledger.backends e.backend) e.event && fetches_from size (length ledger.log.items) (standing_at ledger.backends e.backend) e.event
    && may_do_at ledger.rows.store ledger.locks (length ledger.log.items) ledger.rows.next_oid ledger.rows.last_xid e.backend e.command (standing_at ledger.backends e.backend) e.event

-- to tell whether an entry may follow takes memory: its life, the ends before it and the queue allow it
abbrev pub follows_in_memory : Ledger → ℕ → Entry → Bool
follows_in_memory ledger size e =
    follows_own e.command (standing_at ledger.backends e.backend) e.event && fetches_from size (length ledger.log.items) (standing_at ledger.backends e.backend) e.event && takes_memory e.event

-- a segment allows an entry, and a queue of this size its fetch
abbrev pub may_come : ℕ → Segment → Entry → Bool
may_come size s e =
    follows_own e.command (s.standing e.backend) e.event && fetches_from size (length s.log) (s.standing e.backend) e.event && allows_event s e.backend e.command e.event

-- a fetch is of messages that wait
abbrev pub FetchesWaiting : ℕ → ℕ → Event → Type 0
FetchesWaiting end position (Fetch count) = count ≤ end - position
FetchesWaiting end position event = ⊤

-- a publish is of messages that are unsent
abbrev pub PublishesUnsent : Standing → Event → Type 0
PublishesUnsent own (Publish count) = count ≤ length (unsent_at own)
PublishesUnsent own event = ⊤

-- what is published after a publish can be counted
abbrev pub IsCounted : Event → Option RunningTransaction → Type 0
IsCounted (Publish count) running = published_in running + count < 2 ^ 64
IsCounted event running = ⊤

-- an entry is one that the segment which is held allows next
pub record MayEnter (ledger : Ledger) (e : Entry) : Type 0 where
  pub segment : Segment
  pub keeps : Keeps segment ledger
  pub allowed : allows segment e ≡ true

-- what is held lets an entry be entered: each that may follow can be
pub record CanEnter (ledger : Ledger) (e : Entry) : Type 0 where
  pub placed : IsPlaced ledger.rows.store e.event
  pub order : IsInOrder e.command e.event (standing_at ledger.backends e.backend).lists
  pub draws : DrawsNext ledger.rows.next_oid e.event
  pub waits : FetchesWaiting (length ledger.log.items) (standing_at ledger.backends e.backend).position e.event
  pub unsent : PublishesUnsent (standing_at ledger.backends e.backend) e.event

-- what is held after an entry, by what was held before
pub record HasEntered (old : Ledger) (e : Entry) (new : Ledger) : Type 0 where
  pub command : e.command < 2 ^ 32 - 1
  pub rows : new.rows ≡ rows_after (xid_in (standing_at old.backends e.backend).running) e.command e.event old.rows
  pub locks : new.locks ≡ held_by e.backend e.command e.event old.locks
  pub log : new.log.items ≡ log_after (standing_at old.backends e.backend) e.event old.log.items
  pub own : standing_at new.backends e.backend ≡ standing_by (with_messages (messages_from old.rows.store (reader_at (standing_at old.backends e.backend)) e.event) (new_list e.command)) (length new.log.items) e.command e.event (standing_at old.backends e.backend)
  pub others : (other : ℕ) → (e.backend == other) ≡ false → standing_at new.backends other ≡ standing_at old.backends other
