-- How a queue stays kept, by numbers that never go back.
use Rattle.std.proofs.Common.{◌≡◌, ◌≤◌, ◌+◌, ◌-◌, ◌/◌, ◌∙◌, ◌++◌, ℕ, true, Option, List, length, map, drop, get_or, set, sym, ap, subst, arith, length-append}
use Rattle.std.proofs.lemmas.List.{map-set, drop-map}
use Rattle.std.proofs.Math.ListN.{get_or-map}
use Rattle.inval_messages.specs.declared.message.Message.{Message}
use Rattle.sinval_ring.specs.declared.cleaned.Cleaned.{Cleaned}
use Rattle.sinval_ring.specs.Readers.{Reader, Inactive, counted, numbered, is_below}
use Rattle.sinval_ring.specs.Cleanups.{bits_of, least_of, furthest, swept, marked, threshold_of}
use Rattle.sinval_ring.specs.Windows.{Window}
use Rattle.sinval_ring.specs.Queues.{Queue, reader_of, with_reader, IsKeptFor}
use Rattle.sinval_ring.specs.Cleaning.{low_of, swept_of, signal_of, least_after, cleaned, cleaned_answer, with_messages}
use Rattle.sinval_ring.specs.RingParts.{queue_of, IsSound, Counts}
use Rattle.sinval_ring.proofs.Numbers.{all_counted, all_below, all_swept, least_of-numbered, furthest-numbered, marked-numbered}
use Rattle.sinval_ring.proofs.Sound.{cleaned_sound, more_sound, reader_sound}

-- readers by number, as those that are counted so
recounted : (first : ℕ) (numbers counts : List Reader) → numbers ≡ map (numbered first) counts → map (counted first) numbers ≡ counts
recounted first numbers counts are = ap (map (counted first)) are ∙ all_counted first counts

renumbered : (first : ℕ) (numbers counts : List Reader) → numbers ≡ map (numbered first) counts → numbers ≡ map (numbered first) (map (counted first) numbers)
renumbered first numbers counts are = are ∙ ap (map (numbered first)) (sym (recounted first numbers counts are))

-- another reader of a backend
set_numbers : (first : ℕ) (readers after : List Reader) (b : ℕ) (reader : Reader) → readers ≡ map (numbered first) (map (counted first) readers) → after ≡ set readers b (numbered first reader)
    → after ≡ map (numbered first) (set (map (counted first) readers) b reader)
set_numbers first readers after b reader numbers is = is ∙ ap (λ l. set l b (numbered first reader)) numbers ∙ sym (map-set (numbered first) (map (counted first) readers) b reader)

-- what a cleanup does by numbers
pub record Cleans (size max room : ℕ) (readers : List Reader) (low : ℕ) (left after : List Reader) (least threshold : ℕ) (signal : Option ℕ) : Type 0 where
  pub limit : low ≡ max + room - size
  pub sweep : left ≡ map (swept low) readers
  pub position : least ≡ least_of max left
  pub start : threshold ≡ threshold_of size (max - least)
  pub call : signal ≡ furthest (max - size / 2) left
  pub mark : after ≡ marked signal left

module _ (window : Window) (first max min threshold : ℕ) (readers : List Reader) where
  abbrev q : Queue
  q = queue_of window first min threshold readers

  pub counts_reader : (after : List Reader) (b : ℕ) (reader : Reader) → Counts window first max min threshold readers → after ≡ set readers b (numbered first reader) → IsKeptFor q 0 reader → Counts window first max min threshold after
  counts_reader after b reader counts is kept =
      let are = set_numbers first readers after b reader counts.numbers is in
      record {
        end = counts.end;
        begin = counts.begin;
        numbers = renumbered first after (set (map (counted first) readers) b reader) are;
        sound = subst (λ l. IsSound (record q { readers = l })) (sym (recounted first after (set (map (counted first) readers) b reader) are)) (reader_sound q b reader kept counts.sound);
      }

  -- seen from outside
  pub count_reader : (after : List Reader) (b : ℕ) (reader : Reader) → Counts window first max min threshold readers → after ≡ set readers b (numbered first reader) → queue_of window first min threshold after ≡ with_reader q b reader
  count_reader after b reader counts is = ap (λ l. record q { readers = l }) (recounted first after (set (map (counted first) readers) b reader) (set_numbers first readers after b reader counts.numbers is))

  -- a reader by number is the one that is counted so
  pub reader_number : (b : ℕ) → Counts window first max min threshold readers → get_or readers b Inactive ≡ numbered first (reader_of q b)
  reader_number b counts = ap (λ l. get_or l b Inactive) counts.numbers ∙ get_or-map (numbered first) (map (counted first) readers) b Inactive

  -- more messages
  pub counts_more : (after : Window) (now : ℕ) (messages : List Message) → Counts window first max min threshold readers → after.size ≡ window.size → after.log ≡ window.log ++ messages → now ≡ max + length messages
      → length window.log + length messages ≤ min - first + window.size → Counts after first now min threshold readers
  counts_more after now messages counts size log now_is has = record {
    end = omega (arith, now_is, counts.end, ap length log, length-append window.log messages);
    begin = counts.begin;
    numbers = counts.numbers;
    sound = subst IsSound (λ i. queue_of (record { size = sym size i; log = sym log i }) first min threshold readers) (more_sound q messages has counts.sound);
  }

  pub count_more : (after : Window) (messages : List Message) → after.size ≡ window.size → after.log ≡ window.log ++ messages → queue_of after first min threshold readers ≡ with_messages q messages
  count_more after messages size log = λ i. queue_of (record { size = size i; log = log i }) first min threshold readers

  module _ (room low : ℕ) (left after : List Reader) (least next : ℕ) (signal : Option ℕ) (counts : Counts window first max min threshold readers) (cleans : Cleans window.size max room readers low left after least next signal) where
    low_is : low - first ≡ low_of q room
    low_is = omega (arith, counts.end, cleans.limit)

    left_is : left ≡ map (numbered first) (swept_of q room)
    left_is = cleans.sweep ∙ ap (map (swept low)) counts.numbers ∙ all_swept first low (map (counted first) readers) ∙ ap (λ n. map (numbered first) (map (swept n) (map (counted first) readers))) low_is

    least_is : least ≡ least_after q room + first
    least_is = cleans.position ∙ (λ i. least_of (max_is i) (left_is i)) ∙ least_of-numbered first (length window.log) (swept_of q room)
      where
        max_is : max ≡ length window.log + first
        max_is = omega (arith, counts.end)

    signal_is : signal ≡ signal_of q room
    signal_is = cleans.call ∙ ap (furthest (max - window.size / 2)) left_is ∙ furthest-numbered first (max - window.size / 2) (swept_of q room) ∙ ap (λ n. furthest n (swept_of q room)) bound
      where
        bound : max - window.size / 2 - first ≡ length window.log - window.size / 2
        bound = omega (arith, counts.end)

    after_is : after ≡ map (numbered first) (marked (signal_of q room) (swept_of q room))
    after_is = cleans.mark ∙ (λ i. marked (signal_is i) (left_is i)) ∙ marked-numbered first (signal_of q room) (swept_of q room)

    next_is : next ≡ threshold_of window.size (length window.log - least_after q room)
    next_is = cleans.start ∙ ap (threshold_of window.size) (omega (arith, counts.end, least_is))

    -- it does what it is to do
    pub count_cleaned : queue_of window first least next after ≡ cleaned q room
    count_cleaned = λ i. record {
      size = window.size;
      from = first;
      log = window.log;
      readers = recounted first after (marked (signal_of q room) (swept_of q room)) after_is i;
      least = from_first i;
      threshold = next_is i;
    }
      where
        from_first : least - first ≡ least_after q room
        from_first = omega (arith, least_is)

    pub counts_cleaned : room ≤ 64 → Counts window first max least next after
    counts_cleaned few = record {
      end = counts.end;
      begin = omega (arith, least_is);
      numbers = renumbered first after (marked (signal_of q room) (swept_of q room)) after_is;
      sound = subst IsSound (sym count_cleaned) (cleaned_sound q room few counts.sound);
    }

    -- and answers what it is to answer
    pub count_answer : (reset : ℕ) → reset ≡ bits_of (map (is_below low) (drop 1 readers)) → record { ran = true; reset = reset; signal = signal } ≡ cleaned_answer q room
    count_answer reset reset_is = λ i. answer (bits i) (signal_is i)
      where
        answer : ℕ → Option ℕ → Cleaned
        answer reset signal = record { ran = true; reset = reset; signal = signal }

        bits : reset ≡ bits_of (map (is_below (low_of q room)) (drop 1 q.readers))
        bits =
            reset_is ∙ ap (λ l. bits_of (map (is_below low) (drop 1 l))) counts.numbers ∙ ap (λ l. bits_of (map (is_below low) l)) (drop-map (numbered first) 1 (map (counted first) readers))
            ∙ ap bits_of (all_below first low (drop 1 (map (counted first) readers))) ∙ ap (λ n. bits_of (map (is_below n) (drop 1 (map (counted first) readers)))) low_is
