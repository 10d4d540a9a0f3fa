-- The messages of a transaction's writes, and what of them is still to be sent.
use Rattle.std.specs.Prelude.{ℕ, List}
use Rattle.inval_messages.specs.Lists.{Written, sent_in}
use Rattle.history_model.specs.Types.{Message, Item, Entry, Event}
use Rattle.history_model.specs.Messages.{cats_at, rels_at, written_at, messages_at, items_in, lists_after, unsent_at}
use Rattle.history_model.specs.After.{segment_of, standing_of}
pub use Rattle.history_model.specs.Segment.{ends_transaction}
pub use Rattle.history_model.specs.Messages.{left_in, unsent_in}

-- the messages of a change for the catalog caches
abbrev pub cats_by : List Entry → ℕ → Item → List Message
cats_by before b item = cats_at (segment_of before) b item

-- the messages of a change for descriptors
abbrev pub rels_by : List Entry → ℕ → Item → List Message
rels_by before b item = rels_at (segment_of before) b item

-- the messages of a write
abbrev pub written_by : List Entry → ℕ → ℕ → List Item → Written
written_by before b command items = written_at (segment_of before) b command items

-- all messages of a write, those for the catalog caches first
abbrev pub messages_written : List Entry → ℕ → List Item → List Message
messages_written before b items = messages_at (segment_of before) b items

-- the writes that weren't taken back, after an event of their backend
abbrev pub lists_by : List Entry → ℕ → ℕ → Event → List Written → List Written
lists_by before b command event old = lists_after (written_at (segment_of before) b command (items_in event)) event (standing_of before b).running old

-- the writes of a backend's running transaction that weren't taken back, in order
abbrev pub lists_of : List Entry → ℕ → List Written
lists_of history b = (standing_of history b).lists

-- what a commit of the backend sends
abbrev pub sent_of : List Entry → ℕ → List Message
sent_of history b = sent_in (lists_of history b)

-- what the backend may publish next
abbrev pub unsent_of : List Entry → ℕ → List Message
unsent_of history b = unsent_at (standing_of history b)
