-- What a cleanup makes of the readers.
use Rattle.std.specs.Prelude.{ℕ, Bool, true, false, Option, Some, None, List, [], ◌∷◌, ◌+◌, ◌*◌, ◌/◌, nat_lt, min, slice_index_or, slice_set, if◌then◌else◌}
use Rattle.std.specs.List.{fold}
use Rattle.sinval_ring.specs.declared.call.Call.{Call}
use Rattle.sinval_ring.specs.Readers.{Reader, Inactive, At, Reset, is_below, signaled}

-- a reader that is past fewer messages than that goes into reset state
abbrev pub swept : ℕ → Reader → Reader
swept low reader = if is_below low reader then Reset else reader

-- the lesser of a number and a reader's position
abbrev pub least_by : ℕ → Reader → ℕ
least_by least (At position mark) = min position least
least_by least reader = least

-- the least position of the readers, at most the end
abbrev pub least_of : ℕ → List Reader → ℕ
least_of end readers = fold least_by end readers

-- the next reader is further back and wasn't signaled yet
abbrev pub called_by : ℕ → Call → Reader → Call
called_by b call (At position false) = if nat_lt position call.below then record { backend = Some b; below = position } else call
called_by b call reader = call

-- who is to be signaled of these readers, the first of which is numbered so
abbrev pub called_from : ℕ → Call → List Reader → Call
called_from b call [] = call
called_from b call (reader ∷ rest) = called_from (b + 1) (called_by b call reader) rest

-- the backend furthest back below a bound that wasn't signaled, the first of several
abbrev pub furthest : ℕ → List Reader → Option ℕ
furthest bound readers = (called_from 0 (record { backend = None; below = bound }) readers).backend

-- the reader of a backend is signaled, if there is one to be
abbrev pub marked : Option ℕ → List Reader → List Reader
marked None readers = readers
marked (Some b) readers = slice_set readers b (signaled (slice_index_or readers b Inactive))

-- flags as the bits of a number, the first as the lowest
abbrev pub bits_of : List Bool → ℕ
bits_of [] = 0
bits_of (true ∷ flags) = 1 + 2 * bits_of flags
bits_of (false ∷ flags) = 2 * bits_of flags

-- how many messages start the next cleanup, where so many are left of this one: at least half the queue, and else the next whole sixteenth of it
abbrev pub threshold_of : ℕ → ℕ → ℕ
threshold_of size filled = if nat_lt filled (size / 2) then size / 2 else (filled / (size / 16) + 1) * (size / 16)

-- the number at which all numbers go back to begin again (`MSGNUMWRAPAROUND` in `src/backend/storage/ipc/sinvaladt.c`)
abbrev pub wraparound : ℕ → ℕ
wraparound size = size * 262144

-- by how much they go back, where the least of them is this
abbrev pub wrap_at : ℕ → ℕ → ℕ
wrap_at size least = if nat_lt least (wraparound size) then 0 else wraparound size
