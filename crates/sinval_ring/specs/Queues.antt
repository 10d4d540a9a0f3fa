-- A queue of messages, as its readers see it.
use Rattle.std.specs.Prelude.{ℕ, List, [], ◌≤◌, ◌+◌, ◌-◌, ◌/◌, ◌%◌, length, replicate, slice_index_or, slice_set}
use Rattle.inval_messages.specs.declared.message.Message.{Message}
use Rattle.sinval_ring.specs.Readers.{Reader, Inactive, At}
use Rattle.sinval_ring.specs.Cleanups.{wraparound}

-- how many messages it keeps, the number of the first of all, all messages, by backend how many of them it is past, how many all readers are past, and how many after those start a cleanup
pub record Queue : Type 0 where
  pub size : ℕ
  pub from : ℕ
  pub log : List Message
  pub readers : List Reader
  pub least : ℕ
  pub threshold : ℕ

-- no messages, and so many backends, of which none takes part
abbrev pub empty_queue : ℕ → ℕ → ℕ → Queue
empty_queue size backends number = record { size = size; from = number; log = []; readers = replicate (backends + 1) Inactive; least = 0; threshold = size / 2 }

-- the reader of a backend
abbrev pub reader_of : Queue → ℕ → Reader
reader_of queue b = slice_index_or queue.readers b Inactive

-- the queue with another reader of a backend
abbrev pub with_reader : Queue → ℕ → Reader → Queue
with_reader queue b reader = record queue { readers = slice_set queue.readers b reader }

-- the number of the next message: numbers begin at the first, and where all readers are past the wraparound they go back by it
abbrev pub number_of : Queue → ℕ
number_of queue = (queue.from + queue.least) % wraparound queue.size + (length queue.log - queue.least)

-- the queue keeps all messages that a reader is not past, beside so many new ones, unless it is in reset state; and it is past those that all are past
abbrev pub IsKeptFor : Queue → ℕ → Reader → Type 0
IsKeptFor queue room (At position mark) = (queue.least ≤ position) × (position ≤ length queue.log) × (length queue.log + room ≤ position + queue.size)
IsKeptFor queue room reader = Unit {0}
