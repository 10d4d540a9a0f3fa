-- How far a backend is among all messages: its position counts those that it is past.
use Rattle.std.specs.Prelude.{ℕ, Bool, true, false, List, [], ◌≤◌, ◌+◌, ◌-◌, ◌&&◌, nat_lt, min, length, take, drop, if◌then◌else◌}
use Rattle.base_types.specs.declared.fetched.Fetched.{Fetched}
use Rattle.base_types.specs.declared.fetched.Fetched.TheVariants as fetches
use Rattle.inval_messages.specs.declared.message.Message.{Message}
pub use Rattle.sinval_ring.specs.declared.reader.Reader.{Reader}
pub use Rattle.sinval_ring.specs.declared.reader.Reader.TheVariants.{Inactive, At, Reset}

-- it takes part
abbrev pub is_active : Reader → Bool
is_active Inactive = false
is_active reader = true

-- it is in reset state, or there are more messages than it is past
abbrev pub is_behind : ℕ → Reader → Bool
is_behind end Inactive = false
is_behind end (At position mark) = nat_lt position end
is_behind end Reset = true

-- it is past fewer messages than that
abbrev pub is_below : ℕ → Reader → Bool
is_below low (At position mark) = nat_lt position low
is_below low reader = false

-- how many messages a fetch gives at this position
abbrev pub count_at : ℕ → ℕ → ℕ
count_at end position = min 32 (end - position)

-- what a fetch answers
abbrev pub fetched : ℕ → Reader → Fetched
fetched end (At position mark) = fetches.Messages (count_at end position)
fetched end reader = fetches.Reset

-- the messages that it gives
abbrev pub given_to : List Message → Reader → List Message
given_to log (At position mark) = take (count_at (length log) position) (drop position log)
given_to log reader = []

-- the reader after it
abbrev pub after_fetch : ℕ → Reader → Reader
after_fetch end (At position mark) = At (position + count_at end position) (mark && nat_lt (position + count_at end position) end)
after_fetch end reader = At end false

-- as one that was signaled, if it is one that can be
abbrev pub signaled : Reader → Reader
signaled (At position mark) = At position true
signaled reader = reader

-- it is past no more messages than that
abbrev pub IsUpTo : ℕ → Reader → Type 0
IsUpTo end (At position mark) = position ≤ end
IsUpTo end reader = Unit {0}

-- with its position counted from this number on
abbrev pub counted : ℕ → Reader → Reader
counted first (At position mark) = At (position - first) mark
counted first reader = reader

-- and back
abbrev pub numbered : ℕ → Reader → Reader
numbered first (At position mark) = At (position + first) mark
numbered first reader = reader

-- it is at this number or after it, unless it has none
abbrev pub IsFrom : ℕ → Reader → Type 0
IsFrom least (At position mark) = least ≤ position
IsFrom least reader = Unit {0}

-- the reader, whether it was signaled or not
abbrev pub unmarked : Reader → Reader
unmarked (At position mark) = At position false
unmarked reader = reader

-- but for its mark, the reader of a backend that is past so many messages, in a queue of this size where there are so many: in reset state exactly where the queue doesn't keep its next one
abbrev pub place_of : ℕ → ℕ → ℕ → Reader
place_of size end position = if nat_lt (position + size) end then Reset else At position false
