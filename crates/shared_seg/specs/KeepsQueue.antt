-- The queue of messages beside the history is what the definitions read off it.
use Rattle.std.specs.Prelude.{◌≡◌, ◌+◌, ℕ, Bool, true, false, Option, List, length}
use Rattle.base_types.specs.Scenario.{Scenario}
use Rattle.base_types.specs.declared.fetched.Fetched.{Fetched}
use Rattle.base_types.specs.declared.fetched.Fetched.TheVariants as fetches
use Rattle.event_kinds.specs.declared.entry.Entry.{Entry}
use Rattle.event_kinds.specs.declared.entry.Event.{Event}
use Rattle.event_kinds.specs.declared.entry.Event.TheVariants as events
use Rattle.history_model.specs.Lapped.{is_lapped}
use Rattle.history_model.specs.Lives.{is_alive, life_of}
use Rattle.history_model.specs.Log.{log_of, position_of}
use Rattle.lock_modes.specs.declared.grant.Grant.{Grant}
use Rattle.sinval_ring.specs.Queues.{Queue, reader_of}
use Rattle.sinval_ring.specs.declared.reader.Reader.{Reader}
use Rattle.sinval_ring.specs.declared.reader.Reader.TheVariants.{Inactive, At, Reset}
use Rattle.sinval_ring.specs.Readers.{unmarked}
use Rattle.seg_calls.specs.Queue.{queue_of}
use Rattle.segment_rows.specs.Kept.{RowsHeld}
use Rattle.txn_blocks.specs.declared.transaction.RunningTransaction.{RunningTransaction}
use Rattle.shared_seg.specs.KeepsFolds.{KeepsFolds}

-- the reader of a backend that is alive or not, is lapped or not, and is past so many messages
abbrev pub reader_at : Bool → Bool → ℕ → Reader
reader_at false lapped position = Inactive
reader_at true true position = Reset
reader_at true false position = At position false

-- the reader that a backend has: none where it isn't alive, and one in reset state where it is lapped
abbrev pub reader_kept : ℕ → List Entry → ℕ → Reader
reader_kept size history b = reader_at (is_alive (life_of history b)) (is_lapped size history b) (position_of history b)

-- the queue is the one that the history leaves; so it is of the script's size and first number, and has the log's messages and, whether they were signaled or not, the backends' readers
pub record KeepsQueue (script : Scenario) (history : List Entry) (queue : Queue) : Type 0 where
  pub folds : queue ≡ queue_of script history
  pub size : queue.size ≡ script.size
  pub from : queue.from ≡ script.from
  pub log : queue.log ≡ log_of history
  pub slots : length queue.readers ≡ script.backends + 1
  pub readers : (b : ℕ) → unmarked (reader_of queue b) ≡ reader_kept script.size history b

-- the event of a fetch, by what it gave
abbrev pub event_of_fetch : Fetched → Event
event_of_fetch (fetches.Messages count) = events.Fetch count
event_of_fetch fetches.Reset = events.FetchReset

-- all that is kept beside the history
pub record KeepsShared (script : Scenario) (history : List Entry) (promised : List ℕ) (rows : RowsHeld) (locks : List Grant) (transactions : List (Option RunningTransaction)) (queue : Queue) : Type 0 where
  pub folds : KeepsFolds script history promised rows locks transactions
  pub queued : KeepsQueue script history queue
