-- What stays true of a queue over an insertion and a cleanup.
use Rattle.std.proofs.Common.{◌≡◌, ◌≤◌, ◌<◌, ◌+◌, ◌-◌, ◌*◌, ◌/◌, ◌∙◌, ◌||◌, ℕ, Bool, true, false, cond, nat_lt, nat_le, Option, Some, None, List, [], ◌∷◌, length, map, get_or, set, suc, zero, refl, sym, ap, subst, arith, length-append}
use Rattle.std.proofs.lemmas.Bool.{ltb-true, le-ltb, ltb-false, lt-leb}
use Rattle.std.proofs.lemmas.List.{length-set, length-map}
use Rattle.std.proofs.Math.Nat.{lt-div-mul-add, add-mul}
use Rattle.std.proofs.Math.ListN.{get_or-map}
use Rattle.inval_messages.specs.declared.message.Message.{Message}
use Rattle.sinval_ring.specs.Readers.{Reader, Inactive, At, Reset, IsFrom, signaled, unmarked}
use Rattle.sinval_ring.specs.Cleanups.{least_by, least_of, swept, marked, threshold_of}
use Rattle.sinval_ring.specs.Queues.{Queue, reader_of, with_reader, IsKeptFor}
use Rattle.sinval_ring.specs.Cleaning.{low_of, swept_of, signal_of, least_after, cleaned, must_clean, made_room, with_messages}
use Rattle.sinval_ring.specs.RingParts.{IsSound}

-- what holds of every reader, and of those that are given another
pub each_set : (P : Reader → Type 0) (readers : List Reader) (b : ℕ) (reader : Reader) → P reader → ((a : ℕ) → P (get_or readers a Inactive)) → (a : ℕ) → P (get_or (set readers b reader) a Inactive)
each_set P [] b reader new all a = all a
each_set P (r ∷ rest) zero reader new all zero = new
each_set P (r ∷ rest) zero reader new all (suc a) = all (suc a)
each_set P (r ∷ rest) (suc b) reader new all zero = all zero
each_set P (r ∷ rest) (suc b) reader new all (suc a) = each_set P rest b reader new (λ n. all (suc n)) a

-- and where one is marked
pub each_marked : (P : Reader → Type 0) (backend : Option ℕ) (readers : List Reader) → ((reader : Reader) → P reader → P (signaled reader)) → ((a : ℕ) → P (get_or readers a Inactive)) → (a : ℕ) → P (get_or (marked backend readers) a Inactive)
each_marked P None readers still all a = all a
each_marked P (Some b) readers still all a = each_set P readers b (signaled (get_or readers b Inactive)) (still (get_or readers b Inactive) (all b)) all a

unmarked_signaled : (reader : Reader) → unmarked (signaled reader) ≡ unmarked reader
unmarked_signaled Inactive = refl
unmarked_signaled (At position mark) = refl
unmarked_signaled Reset = refl

unmarked_set : (readers : List Reader) (b : ℕ) (a : ℕ) → unmarked (get_or (set readers b (signaled (get_or readers b Inactive))) a Inactive) ≡ unmarked (get_or readers a Inactive)
unmarked_set [] b a = refl
unmarked_set (r ∷ rest) zero zero = unmarked_signaled r
unmarked_set (r ∷ rest) zero (suc a) = refl
unmarked_set (r ∷ rest) (suc b) zero = refl
unmarked_set (r ∷ rest) (suc b) (suc a) = unmarked_set rest b a

-- a mark changes nothing else
pub unmarked_marked : (backend : Option ℕ) (readers : List Reader) (a : ℕ) → unmarked (get_or (marked backend readers) a Inactive) ≡ unmarked (get_or readers a Inactive)
unmarked_marked None readers a = refl
unmarked_marked (Some b) readers a = unmarked_set readers b a

-- the least position is at most the end
least_by-le : (end : ℕ) (reader : Reader) → least_by end reader ≤ end
least_by-le end Inactive = omega arith
least_by-le end (At position mark) = omega arith
least_by-le end Reset = omega arith

pub least_of-le : (end : ℕ) (readers : List Reader) → least_of end readers ≤ end
least_of-le end [] = omega arith
least_of-le end (reader ∷ rest) = omega (arith, least_of-le (least_by end reader) rest, least_by-le end reader)

-- and at most each reader's
pub from_less : (less least : ℕ) (reader : Reader) → less ≤ least → IsFrom least reader → IsFrom less reader
from_less less least Inactive le from = tt
from_less less least (At position mark) le from = omega arith
from_less less least Reset le from = tt

least_by-from : (end : ℕ) (reader : Reader) → IsFrom (least_by end reader) reader
least_by-from end Inactive = tt
least_by-from end (At position mark) = omega arith
least_by-from end Reset = tt

pub least_of-from : (end : ℕ) (readers : List Reader) (b : ℕ) → IsFrom (least_of end readers) (get_or readers b Inactive)
least_of-from end [] b = tt
least_of-from end (reader ∷ rest) zero = from_less (least_of (least_by end reader) rest) (least_by end reader) reader (least_of-le (least_by end reader) rest) (least_by-from end reader)
least_of-from end (reader ∷ rest) (suc b) = least_of-from (least_by end reader) rest b

-- a sweep leaves none below
swept_least : (low end : ℕ) (reader : Reader) → low ≤ end → low ≤ least_by end (swept low reader)
swept_least low end Inactive less = less
swept_least low end Reset less = less
swept_least low end (At position mark) less = by_test (nat_lt position low) refl
  where
    by_test : (t : Bool) → nat_lt position low ≡ t → low ≤ least_by end (cond t Reset (At position mark))
    by_test true is = less
    by_test false is = omega (arith, ltb-false position low is)

pub all_swept_least : (low end : ℕ) (readers : List Reader) → low ≤ end → low ≤ least_of end (map (swept low) readers)
all_swept_least low end [] less = less
all_swept_least low end (reader ∷ rest) less = all_swept_least low (least_by end (swept low reader)) rest (swept_least low end reader less)

-- a reader after a sweep
pub reader_swept : (low : ℕ) (readers : List Reader) (b : ℕ) → get_or (map (swept low) readers) b Inactive ≡ swept low (get_or readers b Inactive)
reader_swept low readers b = get_or-map (swept low) readers b Inactive

-- can go on
kept_swept : (q : Queue) (least room : ℕ) (reader : Reader) → IsKeptFor q 0 reader → IsFrom least (swept (low_of q room) reader) → IsKeptFor (record q { least = least }) room (swept (low_of q room) reader)
kept_swept q least room Inactive kept from = tt
kept_swept q least room Reset kept from = tt
kept_swept q least room (At position mark) kept from = by_test (nat_lt position (low_of q room)) refl from
  where
    by_test : (t : Bool) → nat_lt position (low_of q room) ≡ t → IsFrom least (cond t Reset (At position mark)) → IsKeptFor (record q { least = least }) room (cond t Reset (At position mark))
    by_test true is from = tt
    by_test false is from = (from, kept.1, omega (arith, ltb-false position (low_of q room) is))

kept_signaled : (q : Queue) (room : ℕ) (reader : Reader) → IsKeptFor q room reader → IsKeptFor q room (signaled reader)
kept_signaled q room Inactive kept = tt
kept_signaled q room (At position mark) kept = kept
kept_signaled q room Reset kept = tt

-- with room for fewer it can too
kept_less : (q : Queue) (room : ℕ) (reader : Reader) → IsKeptFor q room reader → IsKeptFor q 0 reader
kept_less q room Inactive kept = tt
kept_less q room (At position mark) kept = (kept.0, kept.1, omega (arith, kept.2))
kept_less q room Reset kept = tt

pub length-marked : (backend : Option ℕ) (readers : List Reader) → length (marked backend readers) ≡ length readers
length-marked None readers = refl
length-marked (Some b) readers = length-set readers b (signaled (get_or readers b Inactive))

-- after a cleanup all go on that it hasn't reset, also when so many messages more have come
pub cleaned_kept : (q : Queue) (room : ℕ) → IsSound q → (b : ℕ) → IsKeptFor (cleaned q room) room (reader_of (cleaned q room) b)
cleaned_kept q room sound =
    each_marked (IsKeptFor (record q { least = least_after q room }) room) (signal_of q room) (swept_of q room) (kept_signaled (record q { least = least_after q room }) room)
    (λ b. subst (IsKeptFor (record q { least = least_after q room }) room) (sym (reader_swept (low_of q room) q.readers b))
    (kept_swept q (least_after q room) room (get_or q.readers b Inactive) (sound.readers b)
    (subst (IsFrom (least_after q room)) (reader_swept (low_of q room) q.readers b) (least_of-from (length q.log) (swept_of q room) b))))

-- and there is room for as many messages as it was to make
pub cleaned_room : (q : Queue) (room : ℕ) → room ≤ 64 → IsSound q → length q.log + room ≤ least_after q room + q.size
cleaned_room q room few sound =
    let low : low_of q room ≤ length q.log = omega (arith, few, sound.small) in
    omega (arith, all_swept_least (low_of q room) (length q.log) q.readers low)

-- a cleanup leaves all as it must be
pub cleaned_sound : (q : Queue) (room : ℕ) → room ≤ 64 → IsSound q → IsSound (cleaned q room)
cleaned_sound q room few sound = record {
  least = least_of-le (length q.log) (swept_of q room);
  kept = omega (arith, cleaned_room q room few sound);
  readers = λ b. kept_less (cleaned q room) room (reader_of (cleaned q room) b) (cleaned_kept q room sound b);
  some = omega (arith, sound.some, length-marked (signal_of q room) (swept_of q room), length-map q.readers (swept (low_of q room)));
  backends = omega (arith, sound.backends, length-marked (signal_of q room) (swept_of q room), length-map q.readers (swept (low_of q room)));
  small = sound.small;
  large = sound.large;
}

or-false : (a b : Bool) → (a || b) ≡ false → (a ≡ false) × (b ≡ false)
or-false true b is = cc
or-false false b is = (refl, is)

kept_room : (q : Queue) (room : ℕ) → IsSound q → must_clean q room ≡ false → length q.log + room ≤ q.least + q.size
kept_room q room sound is = omega (arith, sound.least, ltb-false q.size (length q.log - q.least + room) (or-false (nat_lt q.size (length q.log - q.least + room)) (nat_le q.threshold (length q.log - q.least)) is).0)

-- so has the queue before an insertion
pub made_room_has : (q : Queue) (room : ℕ) → room ≤ 64 → IsSound q → length (made_room q room).log + room ≤ (made_room q room).least + (made_room q room).size
made_room_has q room few sound = by_test (must_clean q room) refl
  where
    by_test : (t : Bool) → must_clean q room ≡ t → length (cond t (cleaned q room) q).log + room ≤ (cond t (cleaned q room) q).least + (cond t (cleaned q room) q).size
    by_test true is = cleaned_room q room few sound
    by_test false is = kept_room q room sound is

-- of the readers a cleanup resets those that are below
pub cleaned_lapses : (q : Queue) (room b : ℕ) → unmarked (reader_of (cleaned q room) b) ≡ unmarked (swept (low_of q room) (reader_of q b))
cleaned_lapses q room b = unmarked_marked (signal_of q room) (swept_of q room) b ∙ ap unmarked (reader_swept (low_of q room) q.readers b)

-- no reader that has room is swept
unswept : (q : Queue) (room : ℕ) (reader : Reader) → length q.log + room ≤ q.least + q.size → IsKeptFor q 0 reader → swept (low_of q room) reader ≡ reader
unswept q room Inactive has kept = refl
unswept q room Reset has kept = refl
unswept q room (At position mark) has kept = ap (λ t. cond t Reset (At position mark)) (le-ltb position (low_of q room) (omega (arith, has, kept.0)))

-- an insertion of so many messages puts a reader into reset state exactly where its next message is one that the queue can't keep beside them
pub made_room_lapses : (q : Queue) (room : ℕ) → IsSound q → (b : ℕ) → unmarked (reader_of (made_room q room) b) ≡ unmarked (swept (low_of q room) (reader_of q b))
made_room_lapses q room sound b = by_test (must_clean q room) refl
  where
    by_test : (t : Bool) → must_clean q room ≡ t → unmarked (reader_of (cond t (cleaned q room) q) b) ≡ unmarked (swept (low_of q room) (reader_of q b))
    by_test true is = cleaned_lapses q room b
    by_test false is = sym (ap unmarked (unswept q room (reader_of q b) (kept_room q room sound is) (sound.readers b)))

-- more messages, where there is room
kept_more : (q : Queue) (messages : List Message) (reader : Reader) → length q.log + length messages ≤ q.least + q.size → IsKeptFor q 0 reader → IsKeptFor (with_messages q messages) 0 reader
kept_more q messages Inactive has kept = tt
kept_more q messages Reset has kept = tt
kept_more q messages (At position mark) has kept = (kept.0, omega (arith, length-append q.log messages, kept.1), omega (arith, length-append q.log messages, has, kept.0))

pub more_sound : (q : Queue) (messages : List Message) → length q.log + length messages ≤ q.least + q.size → IsSound q → IsSound (with_messages q messages)
more_sound q messages has sound = record {
  least = omega (arith, length-append q.log messages, sound.least);
  kept = omega (arith, length-append q.log messages, has);
  readers = λ b. kept_more q messages (reader_of q b) has (sound.readers b);
  some = sound.some;
  backends = sound.backends;
  small = sound.small;
  large = sound.large;
}

-- another reader
pub reader_sound : (q : Queue) (b : ℕ) (reader : Reader) → IsKeptFor q 0 reader → IsSound q → IsSound (with_reader q b reader)
reader_sound q b reader kept sound = record {
  least = sound.least;
  kept = sound.kept;
  readers = each_set (IsKeptFor q 0) q.readers b reader kept sound.readers;
  some = omega (arith, sound.some, length-set q.readers b reader);
  backends = omega (arith, sound.backends, length-set q.readers b reader);
  small = sound.small;
  large = sound.large;
}

sixteenth : (size : ℕ) → 64 ≤ size → 0 < size / 16
sixteenth size least = omega arith

-- the next threshold is not reached yet
pub threshold_ahead : (size filled : ℕ) → 64 ≤ size → filled < threshold_of size filled
threshold_ahead size filled least = by_test (nat_lt filled (size / 2)) refl
  where
    by_test : (t : Bool) → nat_lt filled (size / 2) ≡ t → filled < cond t (size / 2) ((filled / (size / 16) + 1) * (size / 16))
    by_test true is = ltb-true filled (size / 2) is
    by_test false is = omega (arith, lt-div-mul-add {a = filled} (sixteenth size least), add-mul (filled / (size / 16)) 1 (size / 16))

-- so one cleanup is enough
pub cleaned_once : (q : Queue) (room : ℕ) → room ≤ 64 → IsSound q → must_clean (cleaned q room) room ≡ false
cleaned_once q room few sound = λ i. fits i || ahead i
  where
    fits : nat_lt q.size (length q.log - least_after q room + room) ≡ false
    fits = le-ltb q.size (length q.log - least_after q room + room) (omega (arith, cleaned_room q room few sound, least_of-le (length q.log) (swept_of q room)))

    ahead : nat_le (threshold_of q.size (length q.log - least_after q room)) (length q.log - least_after q room) ≡ false
    ahead = lt-leb (threshold_of q.size (length q.log - least_after q room)) (length q.log - least_after q room) (threshold_ahead q.size (length q.log - least_after q room) sound.small)

-- the messages are the same after the cleanup before an insertion
pub made_room_log : (q : Queue) (room : ℕ) → (made_room q room).log ≡ q.log
made_room_log q room = by_test (must_clean q room)
  where
    by_test : (t : Bool) → (cond t (cleaned q room) q).log ≡ q.log
    by_test true = refl
    by_test false = refl

pub made_room_size : (q : Queue) (room : ℕ) → (made_room q room).size ≡ q.size
made_room_size q room = by_test (must_clean q room)
  where
    by_test : (t : Bool) → (cond t (cleaned q room) q).size ≡ q.size
    by_test true = refl
    by_test false = refl
