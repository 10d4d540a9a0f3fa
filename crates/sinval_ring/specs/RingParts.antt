-- How a queue is kept.
use Rattle.std.specs.Prelude.{◌≡◌, ◌≤◌, ◌<◌, ℕ, ◌+◌, ◌-◌, ◌*◌, ◌^◌, List, length, map}
use Rattle.sinval_ring.specs.declared.ring.Ring.TheInside.{Inside}
use Rattle.sinval_ring.specs.Readers.{Reader, counted, numbered}
use Rattle.sinval_ring.specs.Cleanups.{wraparound}
use Rattle.sinval_ring.specs.Windows.{Window}
use Rattle.sinval_ring.specs.Queues.{Queue, reader_of, IsKeptFor}

-- the queue of which these would be kept if numbers never went back: its last messages, the first number, a number that no reader is before, the threshold, and the readers
abbrev pub queue_of : Window → ℕ → ℕ → ℕ → List Reader → Queue
queue_of window first min threshold readers = record { size = window.size; from = first; log = window.log; readers = map (counted first) readers; least = min - first; threshold = threshold }

-- how far the numbers have gone back in all, where the next message has this one
abbrev pub gone_back : Window → ℕ → ℕ → ℕ
gone_back window first max = first + length window.log - max

-- the queue of which these are kept
abbrev pub wrapped_queue : Window → ℕ → ℕ → ℕ → ℕ → List Reader → Queue
wrapped_queue window first max min threshold readers = queue_of window first (min + gone_back window first max) threshold (map (numbered (gone_back window first max)) readers)

abbrev pub queue : Inside → Queue
queue ring = wrapped_queue ring.window ring.first.value ring.max ring.min ring.threshold ring.readers.items

-- every reader can go on, and there are 1 to 64 backends
pub record IsSound (q : Queue) : Type 0 where
  pub least : q.least ≤ length q.log
  pub kept : length q.log ≤ q.least + q.size
  pub readers : (b : ℕ) → IsKeptFor q 0 (reader_of q b)
  pub some : 2 ≤ length q.readers
  pub backends : length q.readers ≤ 65
  pub small : 64 ≤ q.size
  pub large : q.size ≤ 4096

-- the numbers begin at the first, as they would if they never went back
pub record Counts (window : Window) (first max min threshold : ℕ) (readers : List Reader) : Type 0 where
  pub end : max ≡ first + length window.log
  pub begin : first ≤ min
  pub numbers : readers ≡ map (numbered first) (map (counted first) readers)
  pub sound : IsSound (queue_of window first min threshold readers)

-- they have gone back by the wraparound some times, and the least is below it
pub record Keeps (window : Window) (first max min threshold : ℕ) (readers : List Reader) : Type 0 where
  pub times : ℕ
  pub back : gone_back window first max ≡ times * wraparound window.size
  pub low : min < wraparound window.size
  pub short : max < 2 ^ 31
  pub counts : Counts window first (max + gone_back window first max) (min + gone_back window first max) threshold (map (numbered (gone_back window first max)) readers)

abbrev pub IsKept : Inside → Type 0
IsKept ring = Keeps ring.window ring.first.value ring.max ring.min ring.threshold ring.readers.items
