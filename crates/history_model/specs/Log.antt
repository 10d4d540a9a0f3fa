-- The queue as a log that is never shortened.
use Rattle.std.specs.Prelude.{ℕ, Bool, List, length}
use Rattle.history_model.specs.Types.{Message, Entry, Event}
use Rattle.history_model.specs.Messages.{log_after, position_after, fetched_at, waits_at, waited_after}
use Rattle.history_model.specs.After.{segment_of, standing_of}

-- the log after an event of a backend, by the entries before it
abbrev pub log_by : List Entry → ℕ → Event → List Message → List Message
log_by before b event old = log_after (standing_of before b) event old

-- all messages that were published, in order
abbrev pub log_of : List Entry → List Message
log_of history = (segment_of history).log

-- the position of a backend after one of its events
abbrev pub position_by : List Entry → Event → ℕ → ℕ
position_by before event old = position_after (length (log_of before)) event old

-- how many messages of the log a backend is past
abbrev pub position_of : List Entry → ℕ → ℕ
position_of history b = (standing_of history b).position

-- the messages that a fetch of so many gives
abbrev pub fetched_by : List Entry → ℕ → ℕ → List Message
fetched_by before b count = fetched_at (segment_of before) b count

-- a message waits for the backend
abbrev pub is_waiting : List Entry → ℕ → Bool
is_waiting history b = waits_at (length (log_of history)) (standing_of history b)

-- whether a message waited at the backend's last entry that is no look
abbrev pub waited_by : List Entry → ℕ → Event → Bool → Bool
waited_by after b event old = waited_after (is_waiting after b) event old

-- a message waited for the backend at its last entry that is no look
abbrev pub has_waited : List Entry → ℕ → Bool
has_waited history b = (standing_of history b).waited
