-- Worked calls.
use Rattle.std.proofs.Common.{◌≡◌, ℕ, true, false, None, List, replicate, refl}
use Rattle.base_types.specs.declared.fetched.Fetched.TheVariants as fetches
use Rattle.inval_messages.specs.declared.message.Message.{Message}
use Rattle.inval_messages.specs.declared.message.Message.TheVariants.{Rel}
use Rattle.sinval_ring.specs.Readers.{At, is_behind, fetched, after_fetch}
use Rattle.sinval_ring.specs.Queues.{Queue, empty_queue, reader_of, with_reader, number_of}
use Rattle.sinval_ring.specs.Cleaning.{cleaned, cleaned_answer, room_answer, inserted}

-- so many messages
abbrev pub some : ℕ → List Message
some n = replicate n (Rel (record { 0 = 16384 }))

-- a queue of 128 that two backends have joined
abbrev pub joined : Queue
joined = with_reader (with_reader (empty_queue 128 2 0) 1 (At 0 false)) 2 (At 0 false)

-- the second of two whole quanta fills it: the threshold is reached, and nobody is further back than half the queue
pub fills : room_answer (inserted joined (some 64)) 64 ≡ record { ran = true; reset = 0; signal = None }
fills = refl

-- one message more and both are lapped
pub laps : room_answer (inserted (inserted joined (some 1)) (some 64)) 64 ≡ record { ran = true; reset = 3; signal = None }
laps = refl

pub is_reset : fetched 129 (reader_of (inserted (inserted (inserted joined (some 1)) (some 64)) (some 64)) 2) ≡ fetches.Reset
is_reset = refl

-- a queue of 64 whose numbers are near the one where they go back, and two backends that have fetched four messages
abbrev near : Queue
near = inserted (with_reader (with_reader (empty_queue 64 2 16777214) 1 (At 0 false)) 2 (At 0 false)) (some 4)

abbrev caught_up : Queue
caught_up = with_reader (with_reader near 1 (after_fetch 4 (reader_of near 1))) 2 (after_fetch 4 (reader_of near 2))

four : fetched 4 (reader_of near 1) ≡ fetches.Messages 4
four = refl

past : number_of caught_up ≡ 16777218
past = refl

-- a cleanup resets nobody, and the numbers go back
nobody : cleaned_answer caught_up 1 ≡ record { ran = true; reset = 0; signal = None }
nobody = refl

wraps : number_of (cleaned caught_up 1) ≡ 2
wraps = refl

-- three more are fetched as ever
abbrev more : Queue
more = inserted (cleaned caught_up 1) (some 3)

goes_on : number_of more ≡ 5
goes_on = refl

waits : is_behind 7 (reader_of more 2) ≡ true
waits = refl

three : fetched 7 (reader_of more 2) ≡ fetches.Messages 3
three = refl
