-- The queue of invalidation messages that a history leaves.
use Rattle.std.specs.Prelude.{ℕ, false, List, length, take}
use Rattle.history_model.specs.Prefixes.{along}
use Rattle.history_model.specs.Sent.{unsent_of}
use Rattle.sinval_ring.specs.declared.reader.Reader.TheVariants.{Inactive, At}
use Rattle.sinval_ring.specs.Readers.{after_fetch}
use Rattle.sinval_ring.specs.Queues.{Queue, empty_queue, reader_of, with_reader}
use Rattle.sinval_ring.specs.Cleaning.{inserted}
use Rattle.seg_calls.specs.Types.{Scenario, Entry, Event, Start, Fetch, FetchReset, Publish, Stop}

-- a backend is past what a fetch gives it
abbrev pub with_fetch : ℕ → Queue → Queue
with_fetch b queue = with_reader queue b (after_fetch (length queue.log) (reader_of queue b))

-- the queue after an event of a backend, by the entries before it
abbrev pub queue_by : List Entry → ℕ → Event → Queue → Queue
queue_by before b Start queue = with_reader queue b (At (length queue.log) false)
queue_by before b Stop queue = with_reader queue b Inactive
queue_by before b (Fetch count) queue = with_fetch b queue
queue_by before b FetchReset queue = with_fetch b queue
queue_by before b (Publish count) queue = inserted queue (take count (unsent_of before b))
queue_by before b event queue = queue

-- the queue of a script: who is past which message, who was signaled, and when the next cleanup runs
abbrev pub queue_of : Scenario → List Entry → Queue
queue_of script history = along (λ before queue e. queue_by before e.backend e.event queue) (empty_queue script.size script.backends script.from) history
