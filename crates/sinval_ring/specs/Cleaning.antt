-- What an insertion and a cleanup make of a queue, and what they answer.
use Rattle.std.specs.Prelude.{ℕ, Bool, true, false, Option, None, List, ◌++◌, ◌+◌, ◌-◌, ◌/◌, ◌||◌, nat_lt, nat_le, length, map, drop, if◌then◌else◌}
use Rattle.inval_messages.specs.declared.message.Message.{Message}
use Rattle.sinval_ring.specs.declared.cleaned.Cleaned.{Cleaned}
use Rattle.sinval_ring.specs.Readers.{Reader, is_below}
use Rattle.sinval_ring.specs.Cleanups.{swept, least_of, furthest, marked, bits_of, threshold_of}
use Rattle.sinval_ring.specs.Queues.{Queue}

-- how many messages a reader has to be past, so that the queue keeps all of its next ones beside so many new ones
abbrev pub low_of : Queue → ℕ → ℕ
low_of queue room = length queue.log + room - queue.size

-- the readers after those that are past fewer went into reset state
abbrev pub swept_of : Queue → ℕ → List Reader
swept_of queue room = map (swept (low_of queue room)) queue.readers

-- who is to be signaled of those that are left: the one furthest back of those that are half a queue behind and weren't signaled
abbrev pub signal_of : Queue → ℕ → Option ℕ
signal_of queue room = furthest (length queue.log - queue.size / 2) (swept_of queue room)

-- how many messages all that are left are past
abbrev pub least_after : Queue → ℕ → ℕ
least_after queue room = least_of (length queue.log) (swept_of queue room)

-- the queue after a cleanup for so many messages
abbrev pub cleaned : Queue → ℕ → Queue
cleaned queue room = record queue {
  readers = marked (signal_of queue room) (swept_of queue room);
  least = least_after queue room;
  threshold = threshold_of queue.size (length queue.log - least_after queue room);
}

-- what the cleanup answers
abbrev pub cleaned_answer : Queue → ℕ → Cleaned
cleaned_answer queue room = record { ran = true; reset = bits_of (map (is_below (low_of queue room)) (drop 1 queue.readers)); signal = signal_of queue room }

-- there is no room for so many messages, or the threshold is reached
abbrev pub must_clean : Queue → ℕ → Bool
must_clean queue room = nat_lt queue.size (length queue.log - queue.least + room) || nat_le queue.threshold (length queue.log - queue.least)

-- the queue with room for so many messages
abbrev pub made_room : Queue → ℕ → Queue
made_room queue room = if must_clean queue room then cleaned queue room else queue

-- what an insertion of so many answers
abbrev pub room_answer : Queue → ℕ → Cleaned
room_answer queue room = if must_clean queue room then cleaned_answer queue room else record { ran = false; reset = 0; signal = None }

-- more messages in the queue
abbrev pub with_messages : Queue → List Message → Queue
with_messages queue messages = record queue { log = queue.log ++ messages }

-- the queue after an insertion
abbrev pub inserted : Queue → List Message → Queue
inserted queue messages = with_messages (made_room queue (length messages)) messages
