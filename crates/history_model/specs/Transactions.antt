-- The transactions of backends, and what became of each.
use Rattle.std.specs.Prelude.{ℕ, Bool, true, false, Option, List, ◌==◌, ◌&&◌, if◌then◌else◌}
use Rattle.std.specs.List.{list_any}
use Rattle.history_model.specs.Types.{Entry, Event, Write}
use Rattle.history_model.specs.After.{segment_of, standing_of}
use Rattle.history_model.specs.Segment.{runs_at, xid_at}
pub use Rattle.history_model.specs.Segment.{Running, begun, after_release, running_by, is_visible, has_xid, makes_visible, last_xid_by}

-- the transaction that a backend runs, if it runs one
abbrev pub running_transaction_of : List Entry → ℕ → Option Running
running_transaction_of history b = (standing_of history b).running

-- a backend runs the transaction of this Xid
abbrev pub runs_as : List Entry → ℕ → ℕ → Bool
runs_as history b xid = runs_at (segment_of history) b xid

-- the transaction is committed: the history has its visibility step
abbrev pub is_committed : List Entry → ℕ → Bool
is_committed history xid = (segment_of history).committed xid

-- what became of a transaction
pub data Status : Type 0 where
  Committed : Status
  InProgress : Status
  Aborted : Status

-- whether a transaction is committed, still runs, or is gone
abbrev pub status_of : List Entry → ℕ → Status
status_of history xid = if is_committed history xid then Committed else (if list_any (λ e. runs_as history e.backend xid) history then InProgress else Aborted)

-- the last Xid that was drawn, 0 before the first
abbrev pub last_xid : List Entry → ℕ
last_xid history = (segment_of history).last_xid

-- the Xid that a write of the backend has: its transaction's, or else the next one
abbrev pub xid_for : List Entry → ℕ → ℕ
xid_for history b = xid_at (segment_of history) b

-- the event is a write
abbrev pub is_write : Event → Bool
is_write (Write xid items) = true
is_write event = false

-- the backend has a write in the command
abbrev pub has_written : List Entry → ℕ → ℕ → Bool
has_written history b c = list_any (λ e. (e.backend == b) && (e.command == c) && is_write e.event) history
