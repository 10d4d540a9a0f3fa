-- How a queue stays kept, by numbers that go back.
use Rattle.std.proofs.Common.{◌≡◌, ◌≤◌, ◌<◌, ◌+◌, ◌-◌, ◌*◌, ◌%◌, ◌/◌, ◌∙◌, ◌++◌, ℕ, Bool, true, false, cond, nat_lt, Option, List, [], ◌∷◌, zero, suc, length, IsTrue, map, take, drop, take_at, get_or, set, replicate, min as min_of, refl, sym, ap, subst, arith, length-append}
use Rattle.std.proofs.lemmas.Bool.{ltb-true, ltb-false}
use Rattle.std.proofs.lemmas.List.{map-set, drop-map, length-map, length-replicate, get_or_default}
use Rattle.std.proofs.Math.Nat.{add-mul, add-mul-mod_self_right, mod-eq_of_lt}
use Rattle.std.proofs.Math.ListN.{get_or-map}
use Rattle.base_types.specs.Scenario.{IsQueueSize}
use Rattle.base_types.specs.declared.fetched.Fetched.TheVariants as fetches
use Rattle.inval_messages.specs.declared.message.Message.{Message}
use Rattle.sinval_ring.specs.Readers.{Reader, Inactive, At, Reset, IsFrom, counted, numbered, IsUpTo, is_below, is_behind, is_active, signaled, count_at, fetched, given_to, after_fetch}
use Rattle.sinval_ring.specs.Cleanups.{bits_of, furthest, swept, threshold_of, wraparound, wrap_at}
use Rattle.sinval_ring.specs.Windows.{Window}
use Rattle.sinval_ring.specs.Queues.{Queue, empty_queue, reader_of, with_reader, number_of, IsKeptFor}
use Rattle.sinval_ring.specs.Cleaning.{cleaned, cleaned_answer, with_messages}
use Rattle.sinval_ring.specs.RingParts.{queue_of, gone_back, wrapped_queue, IsSound, Counts, Keeps}
use Rattle.sinval_ring.proofs.Numbers.{lt-same, all_back, all_below, all_swept, least_of-numbered, furthest-numbered, marked-numbered, after_fetch-numbered}
use Rattle.sinval_ring.proofs.Sound.{each_marked, from_less, least_of-from, least_of-le}
use Rattle.sinval_ring.proofs.Counting.{Cleans, counts_reader, count_reader, reader_number, counts_more, count_more, count_cleaned, counts_cleaned, count_answer}

-- what a cleanup does to the numbers at last
pub record Wraps (size max least : ℕ) (after : List Reader) (by end start : ℕ) (now : List Reader) : Type 0 where
  pub wrap : by ≡ wrap_at size least
  pub next : end ≡ max - by
  pub begin : start ≡ least - by
  pub move : now ≡ map (counted by) after

-- they go back by the wraparound once or not at all, and are below it then
record Turns (size least by : ℕ) : Type 0 where
  pub times : ℕ
  pub is : by ≡ times * wraparound size
  pub most : by ≤ least
  pub low : least < wraparound size + wraparound size → least - by < wraparound size

turns : (size least : ℕ) → Turns size least (wrap_at size least)
turns size least = by_test (nat_lt least (wraparound size)) refl
  where
    by_test : (t : Bool) → nat_lt least (wraparound size) ≡ t → Turns size least (cond t 0 (wraparound size))
    by_test true is = record { times = 0; is = omega arith; most = omega arith; low = λ twice. omega (arith, ltb-true least (wraparound size) is) }
    by_test false is = record { times = 1; is = omega arith; most = omega (arith, ltb-false least (wraparound size) is); low = λ twice. omega (arith, twice, ltb-false least (wraparound size) is) }

-- a reader that has no position is to be reset
reset_without : (gone first : ℕ) (read reader : Reader) (end : ℕ) → numbered gone read ≡ numbered first reader → ((position : ℕ) (mark : Bool) → read ≡ At position mark → ⊥) → fetches.Reset ≡ fetched end reader
reset_without gone first (At position mark) reader end is none = absurd (none position mark refl)
reset_without gone first read Inactive end is none = refl
reset_without gone first read Reset end is none = refl
reset_without gone first Inactive (At position mark) end is none = cc
reset_without gone first Reset (At position mark) end is none = cc

none_without : (gone first : ℕ) (read reader : Reader) (log given : List Message) → given ≡ [] → numbered gone read ≡ numbered first reader → ((position : ℕ) (mark : Bool) → read ≡ At position mark → ⊥) → given ≡ given_to log reader
none_without gone first (At position mark) reader log given empty is none = absurd (none position mark refl)
none_without gone first read Inactive log given empty is none = empty
none_without gone first read Reset log given empty is none = empty
none_without gone first Inactive (At position mark) log given empty is none = cc
none_without gone first Reset (At position mark) log given empty is none = cc

pub wrap_most : (size least : ℕ) → wrap_at size least ≤ least
wrap_most size least = (turns size least).most

-- what holds of a reader at a position, by numbers of which the next is this
pub record ReadsAt (q : Queue) (max position : ℕ) (mark : Bool) (reader : Reader) : Type 0 where
  pub up : position ≤ max
  pub within : max - position ≤ length q.log
  pub kept : max - position ≤ q.size
  pub at : reader ≡ At (length q.log - (max - position)) mark

reads_at : (q : Queue) (gone first max position : ℕ) (mark : Bool) (reader : Reader) → numbered gone (At position mark) ≡ numbered first reader → max + gone ≡ first + length q.log → IsKeptFor q 0 reader → ReadsAt q max position mark reader
reads_at q gone first max position mark Inactive is end kept = cc
reads_at q gone first max position mark Reset is end kept = cc
reads_at q gone first max position mark (At count same) is end kept =
    let counts : position + gone ≡ count + first = cc in
    let marks : same ≡ mark = cc in
    let behind : max - position ≡ length q.log - count = omega (arith, counts, end, kept.1) in
    let place : count ≡ length q.log - (max - position) = omega (arith, behind, kept.1) in
    record {
      up = omega (arith, counts, end, kept.1);
      within = omega (arith, behind);
      kept = omega (arith, behind, kept.2);
      at = λ i. At (place i) (marks i);
    }

up_to : (q : Queue) (gone first max : ℕ) (read reader : Reader) → numbered gone read ≡ numbered first reader → max + gone ≡ first + length q.log → IsKeptFor q 0 reader → IsUpTo max read
up_to q gone first max Inactive reader is end kept = tt
up_to q gone first max Reset reader is end kept = tt
up_to q gone first max (At position mark) reader is end kept = (reads_at q gone first max position mark reader is end kept).up

-- whether a reader takes part and has something to fetch doesn't depend on how it is numbered
numbered_active : (by : ℕ) (reader : Reader) → is_active (numbered by reader) ≡ is_active reader
numbered_active by Inactive = refl
numbered_active by (At position mark) = refl
numbered_active by Reset = refl

numbered_behind : (by end : ℕ) (reader : Reader) → is_behind (end + by) (numbered by reader) ≡ is_behind end reader
numbered_behind by end Inactive = refl
numbered_behind by end (At position mark) = lt-same (position + by) (end + by) position end (λ less. omega arith) (λ less. omega arith)
numbered_behind by end Reset = refl

-- an active backend is one of the queue's
active_within : (readers : List Reader) (b : ℕ) → IsTrue (is_active (get_or readers b Inactive)) → b < length readers
active_within [] b active = cc
active_within (reader ∷ rest) zero active = omega arith
active_within (reader ∷ rest) (suc b) active = omega (arith, active_within rest b active)

module _ (window : Window) (first max min threshold : ℕ) (readers : List Reader) where
  abbrev gone : ℕ
  gone = gone_back window first max

  abbrev whole : List Reader
  whole = map (numbered gone) readers

  abbrev q : Queue
  q = wrapped_queue window first max min threshold readers

  -- another reader of a backend
  set_whole : (after : List Reader) (b : ℕ) (number reader : Reader) → after ≡ set readers b number → numbered gone number ≡ numbered first reader → map (numbered gone) after ≡ set whole b (numbered first reader)
  set_whole after b number reader is same = ap (map (numbered gone)) is ∙ map-set (numbered gone) readers b number ∙ ap (set whole b) same

  pub keeps_reader : (after : List Reader) (b : ℕ) (number reader : Reader) → Keeps window first max min threshold readers → after ≡ set readers b number → numbered gone number ≡ numbered first reader → IsKeptFor q 0 reader
      → Keeps window first max min threshold after
  keeps_reader after b number reader keeps is same kept = record {
    times = keeps.times;
    back = keeps.back;
    low = keeps.low;
    short = keeps.short;
    counts = counts_reader window first (max + gone) (min + gone) threshold whole (map (numbered gone) after) b reader keeps.counts (set_whole after b number reader is same) kept;
  }

  -- seen from outside
  pub view_reader : (after : List Reader) (b : ℕ) (number : Reader) (reader : Queue → Reader) (p : Queue) → q ≡ p → Keeps window first max min threshold readers → after ≡ set readers b number → numbered gone number ≡ numbered first (reader q)
      → wrapped_queue window first max min threshold after ≡ with_reader p b (reader p)
  view_reader after b number reader p view keeps is same =
      count_reader window first (max + gone) (min + gone) threshold whole (map (numbered gone) after) b (reader q) keeps.counts (set_whole after b number (reader q) is same)
      ∙ ap (λ (x : Queue). with_reader x b (reader x)) view

  -- a reader past all messages
  pub at_end : Keeps window first max min threshold readers → numbered gone (At max false) ≡ numbered first (At (length window.log) false)
  at_end keeps = ap (λ n. At n false) (omega (arith, keeps.counts.end))

  pub end_kept : Keeps window first max min threshold readers → IsKeptFor q 0 (At (length window.log) false)
  end_kept keeps = (keeps.counts.sound.least, omega arith, omega arith)

  -- a reader that is read
  read_whole : (b : ℕ) (read : Reader) → Keeps window first max min threshold readers → read ≡ get_or readers b Inactive → numbered gone read ≡ numbered first (reader_of q b)
  read_whole b read keeps is = ap (numbered gone) is ∙ sym (get_or-map (numbered gone) readers b Inactive) ∙ reader_number window first (max + gone) (min + gone) threshold whole b keeps.counts

  -- goes on by a fetch
  pub fetch_number : (b : ℕ) (read after : Reader) → Keeps window first max min threshold readers → read ≡ get_or readers b Inactive → after ≡ after_fetch max read → numbered gone after ≡ numbered first (after_fetch (length window.log) (reader_of q b))
  fetch_number b read after keeps read_is after_is =
      ap (numbered gone) after_is ∙ sym (after_fetch-numbered gone max read) ∙ (λ i. after_fetch (end i) (read_whole b read keeps read_is i)) ∙ after_fetch-numbered first (length window.log) (reader_of q b)
    where
      end : max + gone ≡ length window.log + first
      end = omega (arith, keeps.counts.end)

  -- it is one that the queue has, where it is active
  pub read_active : (p : Queue) (b : ℕ) (read : Reader) → q ≡ p → IsTrue (is_active (reader_of p b)) → read ≡ get_or readers b read → read ≡ get_or readers b Inactive
  read_active p b read view active is =
      is ∙ get_or_default readers b read Inactive (omega (arith, active_within q.readers b (subst (λ (x : Queue). IsTrue (is_active (reader_of x b))) (sym view) active), length-map readers (numbered gone), length-map whole (counted first)))

  pub active_is : (p : Queue) (b : ℕ) (read : Reader) → q ≡ p → Keeps window first max min threshold readers → read ≡ get_or readers b Inactive → is_active read ≡ is_active (reader_of p b)
  active_is p b read view keeps is =
      sym (numbered_active gone read) ∙ ap is_active (read_whole b read keeps is) ∙ numbered_active first (reader_of q b) ∙ ap (λ (x : Queue). is_active (reader_of x b)) view

  pub behind_is : (p : Queue) (b : ℕ) (read : Reader) → q ≡ p → Keeps window first max min threshold readers → read ≡ get_or readers b Inactive → is_behind max read ≡ is_behind (length p.log) (reader_of p b)
  behind_is p b read view keeps is =
      sym (numbered_behind gone max read) ∙ (λ i. is_behind (end i) (read_whole b read keeps is i)) ∙ numbered_behind first (length window.log) (reader_of q b) ∙ ap (λ (x : Queue). is_behind (length x.log) (reader_of x b)) view
    where
      end : max + gone ≡ length window.log + first
      end = omega (arith, keeps.counts.end)

  -- where it is at a position
  pub read_at : (b position : ℕ) (mark : Bool) (read : Reader) → Keeps window first max min threshold readers → read ≡ get_or readers b Inactive → read ≡ At position mark → ReadsAt q max position mark (reader_of q b)
  read_at b position mark read keeps is at = reads_at q gone first max position mark (reader_of q b) (ap (numbered gone) (sym at) ∙ read_whole b read keeps is) keeps.counts.end (keeps.counts.sound.readers b)

  pub read_up_to : (b : ℕ) (read : Reader) → Keeps window first max min threshold readers → read ≡ get_or readers b Inactive → IsUpTo max read
  read_up_to b read keeps is = up_to q gone first max read (reader_of q b) (read_whole b read keeps is) keeps.counts.end (keeps.counts.sound.readers b)

  pub served_answer : (p : Queue) (b position count : ℕ) (mark : Bool) (read : Reader) → Keeps window first max min threshold readers → q ≡ p → read ≡ get_or readers b Inactive → read ≡ At position mark → count ≡ min_of 32 (max - position)
      → fetches.Messages count ≡ fetched (length p.log) (reader_of p b)
  served_answer p b position count mark read keeps view is at count_is =
      let place = read_at b position mark read keeps is at in
      ap (λ n. fetches.Messages n) (omega (arith, count_is, place.within)) ∙ sym (ap (fetched (length window.log)) place.at) ∙ ap (λ (x : Queue). fetched (length x.log) (reader_of x b)) view

  pub served_gives : (p : Queue) (b position : ℕ) (mark : Bool) (read : Reader) (given : List Message) → Keeps window first max min threshold readers → q ≡ p → read ≡ get_or readers b Inactive → read ≡ At position mark
      → given ≡ take (min_of 32 (max - position)) (drop (length window.log - (max - position)) window.log) → given ≡ given_to p.log (reader_of p b)
  served_gives p b position mark read given keeps view is at given_is =
      let place = read_at b position mark read keeps is at in
      let count : min_of 32 (max - position) ≡ count_at (length window.log) (length window.log - (max - position)) = omega (arith, place.within) in
      given_is ∙ ap (λ n. take n (drop (length window.log - (max - position)) window.log)) count ∙ sym (ap (given_to window.log) place.at) ∙ ap (λ (x : Queue). given_to x.log (reader_of x b)) view

  -- where it has none it is to be reset
  pub reset_answer : (p : Queue) (b : ℕ) (read : Reader) → Keeps window first max min threshold readers → q ≡ p → read ≡ get_or readers b Inactive → ((position : ℕ) (mark : Bool) → read ≡ At position mark → ⊥) → fetches.Reset ≡ fetched (length p.log) (reader_of p b)
  reset_answer p b read keeps view is none = subst (λ (x : Queue). fetches.Reset ≡ fetched (length x.log) (reader_of x b)) view (reset_without gone first read (reader_of q b) (length window.log) (read_whole b read keeps is) none)

  pub reset_gives : (p : Queue) (b : ℕ) (read : Reader) (given : List Message) → Keeps window first max min threshold readers → q ≡ p → read ≡ get_or readers b Inactive → ((position : ℕ) (mark : Bool) → read ≡ At position mark → ⊥) → given ≡ []
      → given ≡ given_to p.log (reader_of p b)
  reset_gives p b read given keeps view is none empty = subst (λ (x : Queue). given ≡ given_to x.log (reader_of x b)) view (none_without gone first read (reader_of q b) window.log given empty (read_whole b read keeps is) none)

  -- the number of the next message
  pub number_is : (p : Queue) → q ≡ p → Keeps window first max min threshold readers → max ≡ number_of p
  number_is p view keeps = is ∙ ap number_of view
    where
      low : (first + (min + gone - first)) % wraparound window.size ≡ min
      low =
          ap (λ n. n % wraparound window.size) (omega (arith, keeps.counts.begin)) ∙ ap (λ n. (min + n) % wraparound window.size) keeps.back
          ∙ add-mul-mod_self_right min keeps.times (wraparound window.size) ∙ mod-eq_of_lt keeps.low

      is : max ≡ number_of q
      is = sym (ap (λ n. n + (length window.log - (min + gone - first))) low ∙ omega (arith, keeps.counts.end, keeps.counts.begin, keeps.counts.sound.least))

  -- is below the wraparound and as many as the queue keeps
  pub number_below : (p : Queue) → q ≡ p → Keeps window first max min threshold readers → max < wraparound p.size + p.size
  number_below p view keeps = subst (λ (x : Queue). max < wraparound x.size + x.size) view (omega (arith, keeps.low, keeps.counts.sound.kept, keeps.counts.end, keeps.counts.begin))

  -- and the count of all messages from the first number on, but for the times that it went back
  pub number_wrapped : (p : Queue) → q ≡ p → Keeps window first max min threshold readers → max % wraparound p.size ≡ (p.from + length p.log) % wraparound p.size
  number_wrapped p view keeps = subst (λ (x : Queue). max % wraparound x.size ≡ (x.from + length x.log) % wraparound x.size) view
      (sym (add-mul-mod_self_right max keeps.times (wraparound window.size)) ∙ ap (λ n. (max + n) % wraparound window.size) (sym keeps.back) ∙ ap (λ n. n % wraparound window.size) keeps.counts.end)

  module _ (room low : ℕ) (left after : List Reader) (least next : ℕ) (signal : Option ℕ) (keeps : Keeps window first max min threshold readers) (cleans : Cleans window.size max room readers low left after least next signal) where
    -- a cleanup, by numbers that never went back
    whole_cleans : Cleans window.size (max + gone) room whole (max + gone + room - window.size) (map (numbered gone) left) (map (numbered gone) after) (least + gone) next signal
    whole_cleans = record {
      limit = refl;
      sweep = ap (map (numbered gone)) cleans.sweep ∙ ap (λ n. map (numbered gone) (map (swept n) readers)) low_is ∙ sym (all_swept gone (max + gone + room - window.size) readers);
      position = ap (λ n. n + gone) cleans.position ∙ sym (least_of-numbered gone max left);
      start = cleans.start ∙ ap (threshold_of window.size) (omega arith);
      call = cleans.call ∙ ap (λ n. furthest n left) (omega arith) ∙ sym (furthest-numbered gone (max + gone - window.size / 2) left);
      mark = ap (map (numbered gone)) cleans.mark ∙ sym (marked-numbered gone signal left);
    }
      where
        low_is : low ≡ max + gone + room - window.size - gone
        low_is = omega (arith, cleans.limit)

    -- it answers what it is to answer
    pub answer_cleaned : (p : Queue) (reset : ℕ) → q ≡ p → reset ≡ bits_of (map (is_below low) (drop 1 readers)) → record { ran = true; reset = reset; signal = signal } ≡ cleaned_answer p room
    answer_cleaned p reset view reset_is =
        count_answer window first (max + gone) (min + gone) threshold whole room (max + gone + room - window.size) (map (numbered gone) left) (map (numbered gone) after) (least + gone) next signal keeps.counts whole_cleans reset whole_bits
        ∙ ap (λ (x : Queue). cleaned_answer x room) view
      where
        low_is : low ≡ max + gone + room - window.size - gone
        low_is = omega (arith, cleans.limit)

        whole_bits : reset ≡ bits_of (map (is_below (max + gone + room - window.size)) (drop 1 whole))
        whole_bits =
            reset_is ∙ ap (λ n. bits_of (map (is_below n) (drop 1 readers))) low_is
            ∙ sym (ap (λ l. bits_of (map (is_below (max + gone + room - window.size)) l)) (drop-map (numbered gone) 1 readers) ∙ ap bits_of (all_below gone (max + gone + room - window.size) (drop 1 readers)))

    least_before : least ≤ max
    least_before = omega (arith, cleans.position, least_of-le max left)

    -- no reader is before the least
    all_from : (b : ℕ) → IsFrom least (get_or after b Inactive)
    all_from b = subst (λ l. IsFrom least (get_or l b Inactive)) (sym cleans.mark) (each_marked (IsFrom least) signal left still (λ a. subst (λ n. IsFrom n (get_or left a Inactive)) (sym cleans.position) (least_of-from max left a)) b)
      where
        still : (reader : Reader) → IsFrom least reader → IsFrom least (signaled reader)
        still Inactive from = tt
        still (At position mark) from = from
        still Reset from = tt

    module _ (by end start : ℕ) (now : List Reader) (wraps : Wraps window.size max least after by end start now) where
      turn : Turns window.size least by
      turn = subst (Turns window.size least) (sym wraps.wrap) (turns window.size least)

      -- all numbers go back as far
      gone_is : gone_back window first end ≡ gone + by
      gone_is = omega (arith, wraps.next, turn.most, least_before, keeps.counts.end)

      end_is : max + gone ≡ end + gone_back window first end
      end_is = omega (arith, wraps.next, turn.most, least_before, gone_is)

      start_is : least + gone ≡ start + gone_back window first end
      start_is = omega (arith, wraps.begin, turn.most, gone_is)

      now_is : map (numbered gone) after ≡ map (numbered (gone_back window first end)) now
      now_is = sym ((λ i. map (numbered (gone_is i)) (wraps.move i)) ∙ all_back gone by after (λ b. from_less by least (get_or after b Inactive) turn.most (all_from b)))

      pub keeps_cleaned : room ≤ 64 → Keeps window first end start next now
      keeps_cleaned few = record {
        times = keeps.times + turn.times;
        back = gone_is ∙ (λ i. keeps.back i + turn.is i) ∙ sym (add-mul keeps.times turn.times (wraparound window.size));
        low = subst (λ n. n < wraparound window.size) (sym wraps.begin) (turn.low (omega (arith, least_before, keeps.low, keeps.counts.end, keeps.counts.begin, keeps.counts.sound.kept, keeps.counts.sound.small)));
        short = omega (arith, wraps.next, keeps.short);
        counts = subst (λ (p : ℕ × ℕ × List Reader). Counts window first p.0 p.1 next p.2) (λ i. (end_is i, start_is i, now_is i))
            (counts_cleaned window first (max + gone) (min + gone) threshold whole room (max + gone + room - window.size) (map (numbered gone) left) (map (numbered gone) after) (least + gone) next signal keeps.counts whole_cleans few);
      }

      -- and does what it is to do
      pub view_cleaned : (p : Queue) → q ≡ p → wrapped_queue window first end start next now ≡ cleaned p room
      view_cleaned p view =
          (λ i. queue_of window first (sym start_is i) next (sym now_is i))
          ∙ count_cleaned window first (max + gone) (min + gone) threshold whole room (max + gone + room - window.size) (map (numbered gone) left) (map (numbered gone) after) (least + gone) next signal keeps.counts whole_cleans
          ∙ ap (λ (x : Queue). cleaned x room) view

  -- more messages
  module _ (after : Window) (now count : ℕ) (messages : List Message) (size : after.size ≡ window.size) (log : after.log ≡ window.log ++ messages) (count_is : count ≡ length messages) (now_is : now ≡ max + count) where
    gone_same : gone_back after first now ≡ gone
    gone_same = omega (arith, now_is, count_is, ap length log, length-append window.log messages)

    pub keeps_more : Keeps window first max min threshold readers → length window.log + count ≤ q.least + q.size → Keeps after first now min threshold readers
    keeps_more keeps has = record {
      times = keeps.times;
      back = gone_same ∙ keeps.back ∙ ap (λ n. keeps.times * wraparound n) (sym size);
      low = subst (λ n. min < wraparound n) (sym size) keeps.low;
      short = omega (arith, now_is, has, keeps.low, keeps.counts.end, keeps.counts.begin, keeps.counts.sound.large);
      counts = subst (λ g. Counts after first (now + g) (min + g) threshold (map (numbered g) readers)) (sym gone_same)
          (counts_more window first (max + gone) (min + gone) threshold whole after (now + gone) messages keeps.counts size log (omega (arith, now_is, count_is)) (omega (arith, has, count_is)));
    }

    pub view_more : (p : Queue) → q ≡ p → wrapped_queue after first now min threshold readers ≡ with_messages p messages
    view_more p view =
        (λ i. queue_of after first (min + gone_same i) threshold (map (numbered (gone_same i)) readers))
        ∙ count_more window first (max + gone) (min + gone) threshold whole after messages size log
        ∙ ap (λ (x : Queue). with_messages x messages) view

-- a reader after a fetch
kept_fetched : (q : Queue) (reader : Reader) → IsSound q → IsKeptFor q 0 reader → IsKeptFor q 0 (after_fetch (length q.log) reader)
kept_fetched q Inactive sound kept = (sound.least, omega arith, omega arith)
kept_fetched q (At position mark) sound kept = (omega (arith, kept.0), omega (arith, kept.1), omega (arith, kept.2))
kept_fetched q Reset sound kept = (sound.least, omega arith, omega arith)

pub fetch_kept : (q : Queue) (b : ℕ) → IsSound q → IsKeptFor q 0 (after_fetch (length q.log) (reader_of q b))
fetch_kept q b sound = kept_fetched q (reader_of q b) sound (sound.readers b)

-- a queue of no messages
same_inactive : (f : Reader → Reader) (n : ℕ) → f Inactive ≡ Inactive → map f (replicate n Inactive) ≡ replicate n Inactive
same_inactive f zero same = refl
same_inactive f (suc n) same = λ i. same i ∷ same_inactive f n same i

all_inactive : (n b : ℕ) → get_or (replicate n Inactive) b Inactive ≡ Inactive
all_inactive zero b = refl
all_inactive (suc n) zero = refl
all_inactive (suc n) (suc b) = all_inactive n b

empty_sound : (size first backends : ℕ) → IsQueueSize size → 1 ≤ backends → backends ≤ 64 → IsSound (empty_queue size backends first)
empty_sound size first backends sized some few = record {
  least = omega arith;
  kept = omega arith;
  readers = λ b. subst (IsKeptFor (empty_queue size backends first) 0) (sym (all_inactive (backends + 1) b)) tt;
  some = omega (arith, some, length-replicate (backends + 1) Inactive);
  backends = omega (arith, few, length-replicate (backends + 1) Inactive);
  small = sized.least;
  large = sized.most;
}

module _ (window : Window) (size first backends : ℕ) (readers : List Reader) (size_is : window.size ≡ size) (log : window.log ≡ []) (are : readers ≡ replicate (backends + 1) Inactive) where
  none_gone : gone_back window first first ≡ 0
  none_gone = omega (arith, ap length log)

  whole_are : (gone : ℕ) → map (numbered gone) readers ≡ replicate (backends + 1) Inactive
  whole_are gone = ap (map (numbered gone)) are ∙ same_inactive (numbered gone) (backends + 1) refl

  pub view_empty : wrapped_queue window first first first (size / 2) readers ≡ empty_queue size backends first
  view_empty = λ i. record {
    size = size_is i;
    from = first;
    log = log i;
    readers = (ap (map (counted first)) (whole_are (gone_back window first first)) ∙ same_inactive (counted first) (backends + 1) refl) i;
    least = none i;
    threshold = size / 2;
  }
    where
      none : first + gone_back window first first - first ≡ 0
      none = omega (arith, none_gone)

  pub keeps_empty : (value : ℕ) → IsQueueSize size → 1 ≤ backends → backends ≤ 64 → first < size * 262144 → value ≡ first → Keeps window value first first (size / 2) readers
  keeps_empty value sized some few number value_is = subst (λ n. Keeps window n first first (size / 2) readers) (sym value_is) record {
    times = 0;
    back = omega (arith, none_gone);
    low = omega (arith, number, size_is);
    short = omega (arith, number, sized.most);
    counts = record {
      end = omega (arith, none_gone, ap length log);
      begin = omega arith;
      numbers = whole_are (gone_back window first first) ∙ sym (ap (λ l. map (numbered first) (map (counted first) l)) (whole_are (gone_back window first first)) ∙ ap (map (numbered first)) (same_inactive (counted first) (backends + 1) refl) ∙ same_inactive (numbered first) (backends + 1) refl);
      sound = subst IsSound (sym view_empty) (empty_sound size first backends sized some few);
    };
  }

-- readers that are lent as a slice and keep their number
pub whole_slice : (len : ℕ) (readers after : List Reader) → len ≡ length readers → length after ≡ length readers → take len (after ++ drop (length after) readers) ≡ after
whole_slice len readers after are same = take_at after (drop (length after) readers) len (same ∙ sym are)
