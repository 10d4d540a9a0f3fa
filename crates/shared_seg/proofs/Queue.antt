-- The queue stays what the definitions read off the history, over one more entry.
use Rattle.std.proofs.Common.{◌≡◌, ◌≤◌, ◌<◌, ◌+◌, ◌-◌, ◌∙◌, ℕ, Bool, true, false, Option, Some, None, List, [], ◌∷◌, ◌++◌, ◌==◌, ◌&&◌, ◌||◌, if◌then◌else◌, nat_lt, length, take, replicate, refl, sym, ap, subst, arith}
use Rattle.std.proofs.lemmas.Bool.{eqb-true, eqb-false, eq-eqb, ltb-true, lt-ltb}
use Rattle.std.proofs.lemmas.List.{get_or-set_other, length-set, length-map, length-replicate, length-append}
use Rattle.std.proofs.lemmas.Grind.{get_or-set_at}
use Rattle.base_types.specs.Scenario.{Scenario, IsScript}
use Rattle.event_kinds.specs.declared.entry.Entry.{Entry}
use Rattle.event_kinds.specs.declared.entry.Event.{Event}
use Rattle.event_kinds.specs.declared.entry.Event.TheVariants as events
use Rattle.row_visibility.specs.declared.clash.Clash.{Clash}
use Rattle.row_visibility.specs.declared.clash.Clash.TheVariants.{Row, Running}
use Rattle.lock_modes.specs.declared.grant.Grant.{Grant}
use Rattle.inval_messages.specs.declared.message.Message.{Message}
use Rattle.sinval_ring.specs.declared.reader.Reader.{Reader}
use Rattle.sinval_ring.specs.declared.reader.Reader.TheVariants.{Inactive, At, Reset}
use Rattle.sinval_ring.specs.Readers.{is_active, is_behind, unmarked}
use Rattle.sinval_ring.specs.Cleanups.{swept, marked}
use Rattle.sinval_ring.specs.declared.cleaned.Cleaned.{Cleaned}
use Rattle.sinval_ring.specs.Cleaning.{must_clean, signal_of, swept_of, low_of, cleaned, made_room, room_answer, inserted}
use Rattle.sinval_ring.specs.Queues.{Queue, empty_queue, reader_of, with_reader}
use Rattle.history_model.specs.Segment.{no_entries}
use Rattle.segment_rows.specs.Kept.{RowsHeld, KeepsRows}
use Rattle.history_model.specs.Lapped.{is_lapped}
use Rattle.history_model.specs.MayFollow.{AllowsEvent, MayFollow}
use Rattle.history_model.specs.MayFollow.{FollowsLife}
use Rattle.history_model.specs.Lives.{is_alive, life_by, life_of}
use Rattle.history_model.specs.declared.life.Life.{Life}
use Rattle.history_model.specs.declared.life.Life.TheVariants.{Unstarted, Alive, Stopped}
use Rattle.history_model.specs.Log.{log_by, log_of, position_by, position_of, is_waiting}
use Rattle.history_model.specs.Sent.{unsent_of}
use Rattle.history_model.proofs.Lapped.{same_test, or_longer, not_lapped, leaves_lapped, other_lapped, publish_laps}
use Rattle.history_model.proofs.Reading.{life_of-own, life_of-other, log_of-more, position_of-own, position_of-other}
use Rattle.seg_calls.specs.Calls.{entry_of, MayCall, MayRequest}
use Rattle.seg_calls.specs.Queue.{queue_by, queue_of}
use Rattle.seg_calls.proofs.Allowed.{is_start, request_follows}
use Rattle.seg_calls.proofs.Queue.{queue_of-more}
use Rattle.txn_blocks.specs.declared.transaction.RunningTransaction.{RunningTransaction}
use Rattle.shared_seg.specs.Kept.{Kept}
use Rattle.shared_seg.specs.Naming.{clash_event_of}
use Rattle.shared_seg.specs.KeepsQueue.{reader_at, reader_kept, KeepsQueue, KeepsShared}
use Rattle.shared_seg.proofs.Entered.{call_inside}
use Rattle.shared_seg.proofs.Asked.{request_inside}
use Rattle.shared_seg.proofs.Start.{all_same, keeps_start_at}

-- an entry leaves the reader of a backend
reader_same : (size : ℕ) (history : List Entry) (e : Entry) (b : ℕ) → is_alive (life_of (history ++ e ∷ []) b) ≡ is_alive (life_of history b) → is_lapped size (history ++ e ∷ []) b ≡ is_lapped size history b → position_of (history ++ e ∷ []) b ≡ position_of history b
    → reader_kept size (history ++ e ∷ []) b ≡ reader_kept size history b
reader_same size history e b alive lapped at = λ i. reader_at (alive i) (lapped i) (at i)

-- another's entry does that adds no message
reader_other : (size : ℕ) (history : List Entry) (e : Entry) (b : ℕ) → (e.backend == b) ≡ false → ((old : List Message) → log_by history e.backend e.event old ≡ old) → reader_kept size (history ++ e ∷ []) b ≡ reader_kept size history b
reader_other size history e b other log = reader_same size history e b (ap is_alive (life_of-other history e b other)) (other_lapped size history e b other log) (position_of-other history e b other)

-- what is kept after an entry that adds no message and leaves all readers
queue_left : (script : Scenario) (history : List Entry) (e : Entry) (queue : Queue) → KeepsQueue script history queue → ((old : Queue) → queue_by history e.backend e.event old ≡ old) → ((old : List Message) → log_by history e.backend e.event old ≡ old) → reader_kept script.size (history ++ e ∷ []) e.backend ≡ reader_kept script.size history e.backend
    → KeepsQueue script (history ++ e ∷ []) queue
queue_left script history e queue k left log own = record {
  folds = k.folds ∙ sym (queue_of-more script history e ∙ left (queue_of script history));
  size = k.size;
  from = k.from;
  log = k.log ∙ sym (log_of-more history e ∙ log (log_of history));
  slots = k.slots;
  readers = λ b. by_owner b (e.backend == b) refl;
}
  where
    by_owner : (b : ℕ) (t : Bool) → (e.backend == b) ≡ t → unmarked (reader_of queue b) ≡ reader_kept script.size (history ++ e ∷ []) b
    by_owner b true mine = subst (λ a. unmarked (reader_of queue a) ≡ reader_kept script.size (history ++ e ∷ []) a) (eqb-true e.backend b mine) (k.readers e.backend ∙ sym own)
    by_owner b false other = k.readers b ∙ sym (reader_other script.size history e b other log)

-- and after one that adds no message and sets its backend's reader
pub queue_set : (script : Scenario) (history : List Entry) (e : Entry) (queue : Queue) (reader : Reader) → KeepsQueue script history queue → e.backend < length queue.readers → queue_by history e.backend e.event queue ≡ with_reader queue e.backend reader
    → ((old : List Message) → log_by history e.backend e.event old ≡ old) → unmarked reader ≡ reader_kept script.size (history ++ e ∷ []) e.backend → KeepsQueue script (history ++ e ∷ []) (with_reader queue e.backend reader)
queue_set script history e queue reader k within sets log own = record {
  folds = sym sets ∙ ap (queue_by history e.backend e.event) k.folds ∙ sym (queue_of-more script history e);
  size = k.size;
  from = k.from;
  log = k.log ∙ sym (log_of-more history e ∙ log (log_of history));
  slots = length-set queue.readers e.backend reader ∙ k.slots;
  readers = λ b. by_owner b (e.backend == b) refl;
}
  where
    by_owner : (b : ℕ) (t : Bool) → (e.backend == b) ≡ t → unmarked (reader_of (with_reader queue e.backend reader) b) ≡ reader_kept script.size (history ++ e ∷ []) b
    by_owner b true mine = subst (λ a. unmarked (reader_of (with_reader queue e.backend reader) a) ≡ reader_kept script.size (history ++ e ∷ []) a) (eqb-true e.backend b mine)
        (ap unmarked (get_or-set_at queue.readers e.backend e.backend reader Inactive refl within) ∙ own)
    by_owner b false other = ap unmarked (get_or-set_other queue.readers e.backend b reader Inactive (λ same. eqb-false e.backend b other (sym same))) ∙ k.readers b ∙ sym (reader_other script.size history e b other log)

-- the event leaves the queue and the backend's place in it
abbrev pub is_still : Event → Bool
is_still events.Start = false
is_still events.Stop = false
is_still (events.Fetch count) = false
is_still events.FetchReset = false
is_still (events.Publish count) = false
is_still event = true

still-log : (history : List Entry) (b : ℕ) (event : Event) (messages : List Message) → is_still event ≡ true → log_by history b event messages ≡ messages
still-log history b (events.Publish count) messages still = absurd (cc)
still-log history b event messages still = refl

still-queue : (history : List Entry) (b : ℕ) (event : Event) (queue : Queue) → is_still event ≡ true → queue_by history b event queue ≡ queue
still-queue history b events.Start queue still = absurd (cc)
still-queue history b events.Stop queue still = absurd (cc)
still-queue history b (events.Fetch count) queue still = absurd (cc)
still-queue history b events.FetchReset queue still = absurd (cc)
still-queue history b (events.Publish count) queue still = absurd (cc)
still-queue history b event queue still = refl

still-position : (history : List Entry) (event : Event) (at : ℕ) → is_still event ≡ true → position_by history event at ≡ at
still-position history events.Start at still = absurd (cc)
still-position history events.FetchReset at still = absurd (cc)
still-position history (events.Fetch count) at still = absurd (cc)
still-position history event at still = refl

-- its backend is alive before it
pub lives-before : (life : Life) (c : ℕ) (event : Event) → FollowsLife life c event → (event ≡ events.Start → ⊥) → is_alive life ≡ true
lives-before Unstarted c events.Start follows other = absurd (other refl)
lives-before Unstarted c event follows other = absurd follows
lives-before (Alive last) c event follows other = refl
lives-before Stopped c event follows other = absurd follows

still-lives : (c : ℕ) (event : Event) → is_still event ≡ true → is_alive (life_by c event) ≡ true
still-lives c events.Stop still = absurd (cc)
still-lives c event still = refl

no-start : (event : Event) → is_still event ≡ true → event ≡ events.Start → ⊥
no-start event still is = absurd (cc (ap is_still is))

-- so the queue needs no step
queue_still : (script : Scenario) (history : List Entry) (e : Entry) (queue : Queue) → KeepsQueue script history queue → MayFollow history e → is_still e.event ≡ true → KeepsQueue script (history ++ e ∷ []) queue
queue_still script history e queue k follows still =
    queue_left script history e queue k (λ old. still-queue history e.backend e.event old still) (λ old. still-log history e.backend e.event old still)
    (reader_same script.size history e e.backend
    (ap is_alive (life_of-own history e e.backend own) ∙ still-lives e.command e.event still ∙ sym (lives-before (life_of history e.backend) e.command e.event follows.life (no-start e.event still)))
    (leaves_lapped script.size history e e.backend (λ old. still-position history e.event old still) (λ old. still-log history e.backend e.event old still))
    (position_of-own history e e.backend own ∙ still-position history e.event (position_of history e.backend) still))
  where
    own : (e.backend == e.backend) ≡ true
    own = eq-eqb e.backend e.backend refl

-- an entry that takes a promised place, where the queue makes its step
pub placed_queued : (script : Scenario) (history after : List Entry) (e : Entry) (queue queued : Queue) → after ≡ history ++ e ∷ [] → queued ≡ queue → KeepsQueue script (history ++ e ∷ []) queue → KeepsQueue script after queued
placed_queued script history after e queue queued entries is keeps = rw (entries, is) keeps

-- an entry that takes one and leaves the queue
pub placed_still : (k now : Kept) (after : List Entry) (e : Entry) (queue : Queue) → k ≡ now → KeepsQueue k.script k.history queue → MayCall now.script now.history e → is_still e.event ≡ true → after ≡ k.history ++ e ∷ [] → KeepsQueue k.script after queue
placed_still k now after e queue is keeps call still entries =
    let inside : MayCall k.script k.history e = call_inside k now e is call in
    subst (λ h. KeepsQueue k.script h queue) (sym entries) (queue_still k.script k.history e queue keeps inside.follows still)

-- an entry that takes none and leaves the queue
pub asked_still : (k now : Kept) (after : List Entry) (b c : ℕ) (event : Event) (queue : Queue) → k ≡ now → KeepsQueue k.script k.history queue → MayRequest now.script now.history b c → is_start event ≡ false → AllowsEvent k.history b c event → is_still event ≡ true
    → after ≡ k.history ++ entry_of b c event ∷ [] → KeepsQueue k.script after queue
asked_still k now after b c event queue is keeps request asked allows still entries =
    subst (λ h. KeepsQueue k.script h queue) (sym entries) (queue_still k.script k.history (entry_of b c event) queue keeps (request_follows k.script k.history b c event (request_inside k now b c is request) asked allows) still)

-- a clash
pub clash_still : (k now : Kept) (after : List Entry) (b c : ℕ) (name : List ℕ) (clash : Clash) (queue : Queue) → k ≡ now → KeepsQueue k.script k.history queue → MayRequest now.script now.history b c → AllowsEvent k.history b c (clash_event_of name clash)
    → after ≡ k.history ++ entry_of b c (clash_event_of name clash) ∷ [] → KeepsQueue k.script after queue
clash_still k now after b c name (Row rel) queue is keeps request allows entries = asked_still k now after b c (events.ClashRow name rel) queue is keeps request refl allows refl entries
clash_still k now after b c name (Running xid) queue is keeps request allows entries = asked_still k now after b c (events.ClashRunning name xid) queue is keeps request refl allows refl entries

-- what is kept of a reader tells whether it takes part
active_is : (reader : Reader) (alive lapped : Bool) (at : ℕ) → unmarked reader ≡ reader_at alive lapped at → is_active reader ≡ alive
active_is Inactive false lapped at is = refl
active_is Inactive true true at is = absurd (cc)
active_is Inactive true false at is = absurd (cc)
active_is Reset false lapped at is = absurd (cc)
active_is Reset true lapped at is = refl
active_is (At position signaled) false lapped at is = absurd (cc)
active_is (At position signaled) true lapped at is = refl

-- the reader of a backend takes part where the backend is alive
pub reader_active : (script : Scenario) (history : List Entry) (queue : Queue) (b : ℕ) → KeepsQueue script history queue → is_active (reader_of queue b) ≡ is_alive (life_of history b)
reader_active script history queue b k = active_is (reader_of queue b) (is_alive (life_of history b)) (is_lapped script.size history b) (position_of history b) (k.readers b)

not_started : (life : Life) → FollowsLife life 0 events.Start → is_alive life ≡ false
not_started Unstarted follows = refl
not_started (Alive last) follows = absurd follows
not_started Stopped follows = refl

-- what a start needs
pub start_needs : (k now : Kept) (b : ℕ) (queue : Queue) → k ≡ now → KeepsQueue k.script k.history queue → MayCall now.script now.history (entry_of b 0 events.Start) → is_active (reader_of queue b) ≡ false
start_needs k now b queue is keeps call =
    let inside : MayCall k.script k.history (entry_of b 0 events.Start) = call_inside k now (entry_of b 0 events.Start) is call in
    reader_active k.script k.history queue b keeps ∙ not_started (life_of k.history b) inside.follows.life

-- and what a call of a backend that has started needs
pub active_needs : (k now : Kept) (b c : ℕ) (event : Event) (queue : Queue) → k ≡ now → KeepsQueue k.script k.history queue → MayCall now.script now.history (entry_of b c event) → is_start event ≡ false → is_active (reader_of queue b) ≡ true
active_needs k now b c event queue is keeps call other =
    let inside : MayCall k.script k.history (entry_of b c event) = call_inside k now (entry_of b c event) is call in
    reader_active k.script k.history queue b keeps ∙ lives-before (life_of k.history b) c event inside.follows.life (λ start. absurd (cc (other, ap is_start start)))

-- a start
pub start_queued : (script : Scenario) (history : List Entry) (b : ℕ) (queue : Queue) → b < length queue.readers → KeepsQueue script history queue → KeepsQueue script (history ++ entry_of b 0 events.Start ∷ []) (with_reader queue b (At (length queue.log) false))
start_queued script history b queue within k = queue_set script history e queue (At (length queue.log) false) k within refl (λ old. refl)
    (ap (λ log. At (length log) false) k.log ∙ sym (λ i. reader_at (alive i) (near i) (at i)))
  where
    e : Entry
    e = entry_of b 0 events.Start

    alive : is_alive (life_of (history ++ e ∷ []) b) ≡ true
    alive = ap is_alive (life_of-own history e b (eq-eqb b b refl))

    at : position_of (history ++ e ∷ []) b ≡ length (log_of history)
    at = position_of-own history e b (eq-eqb b b refl)

    near : is_lapped script.size (history ++ e ∷ []) b ≡ false
    near = not_lapped script.size (history ++ e ∷ []) b (omega (arith, at, ap length (log_of-more history e)))

-- a stop
pub stop_queued : (script : Scenario) (history : List Entry) (b c : ℕ) (queue : Queue) → b < length queue.readers → KeepsQueue script history queue → KeepsQueue script (history ++ entry_of b c events.Stop ∷ []) (with_reader queue b Inactive)
stop_queued script history b c queue within k = queue_set script history e queue Inactive k within refl (λ old. refl)
    (sym (ap (λ t. reader_at t (is_lapped script.size (history ++ e ∷ []) b) (position_of (history ++ e ∷ []) b)) (ap is_alive (life_of-own history e b (eq-eqb b b refl)))))
  where
    e : Entry
    e = entry_of b c events.Stop

-- messages wait where a reader is behind
behind_is : (reader : Reader) (alive lapped : Bool) (at size end : ℕ) → unmarked reader ≡ reader_at alive lapped at → lapped ≡ nat_lt (at + size) end → is_behind end reader ≡ (alive && nat_lt at end)
behind_is Inactive false lapped at size end is far = refl
behind_is Inactive true true at size end is far = absurd (cc)
behind_is Inactive true false at size end is far = absurd (cc)
behind_is Reset false lapped at size end is far = absurd (cc)
behind_is Reset true true at size end is far = sym (lt-ltb at end (omega (arith, ltb-true (at + size) end (sym far))))
behind_is Reset true false at size end is far = absurd (cc)
behind_is (At position signaled) false lapped at size end is far = absurd (cc)
behind_is (At position signaled) true true at size end is far = absurd (cc)
behind_is (At position signaled) true false at size end is far = let same : position ≡ at = cc in ap (λ p. nat_lt p end) same

pub waits_same : (script : Scenario) (history : List Entry) (queue : Queue) (b : ℕ) → KeepsQueue script history queue → is_behind (length queue.log) (reader_of queue b) ≡ is_waiting history b
waits_same script history queue b k =
    ap (λ log. is_behind (length log) (reader_of queue b)) k.log ∙ behind_is (reader_of queue b) (is_alive (life_of history b)) (is_lapped script.size history b) (position_of history b) script.size (length (log_of history)) (k.readers b) refl

-- a cleanup leaves all but the readers
record LeavesMessages (queue after : Queue) : Type 0 where
  size : after.size ≡ queue.size
  from : after.from ≡ queue.from
  log : after.log ≡ queue.log
  slots : length after.readers ≡ length queue.readers

length-marked : (who : Option ℕ) (readers : List Reader) → length (marked who readers) ≡ length readers
length-marked None readers = refl
length-marked (Some b) readers = length-set readers b _

room_leaves : (queue : Queue) (count : ℕ) → LeavesMessages queue (made_room queue count)
room_leaves queue count = by_test (must_clean queue count)
  where
    by_test : (t : Bool) → LeavesMessages queue (if t then cleaned queue count else queue)
    by_test true = record { size = refl; from = refl; log = refl; slots = length-marked (signal_of queue count) (swept_of queue count) ∙ length-map queue.readers (swept (low_of queue count)) }
    by_test false = record { size = refl; from = refl; log = refl; slots = refl }

less_minus : (at size end : ℕ) → nat_lt at (end - size) ≡ nat_lt (at + size) end
less_minus at size end = same_test (nat_lt at (end - size)) (nat_lt (at + size) end) (λ is. lt-ltb (at + size) end (omega (arith, ltb-true at (end - size) is))) (λ is. lt-ltb at (end - size) (omega (arith, ltb-true (at + size) end is)))

-- readers below a position go into reset state
swept_is : (reader : Reader) (alive lapped : Bool) (at low : ℕ) → unmarked reader ≡ reader_at alive lapped at → unmarked (swept low reader) ≡ reader_at alive (lapped || nat_lt at low) at
swept_is Inactive false lapped at low is = refl
swept_is Inactive true true at low is = absurd (cc)
swept_is Inactive true false at low is = absurd (cc)
swept_is Reset false lapped at low is = absurd (cc)
swept_is Reset true true at low is = refl
swept_is Reset true false at low is = absurd (cc)
swept_is (At position signaled) false lapped at low is = absurd (cc)
swept_is (At position signaled) true true at low is = absurd (cc)
swept_is (At position signaled) true false at low is = let same : position ≡ at = cc in by_test (nat_lt position low) same ∙ ap (λ p. reader_at true (nat_lt p low) at) same
  where
    by_test : (t : Bool) → position ≡ at → unmarked (if t then Reset else At position signaled) ≡ reader_at true t at
    by_test true same = refl
    by_test false same = ap (λ p. At p false) same

-- a publish
pub publish_queued : (script : Scenario) (history : List Entry) (b c : ℕ) (messages : List Message) (queue after : Queue) → KeepsQueue script history queue → MayFollow history (entry_of b c (events.Publish (length messages))) → messages ≡ take (length messages) (unsent_of history b)
    → after ≡ inserted queue messages → ((a : ℕ) → unmarked (reader_of after a) ≡ unmarked (swept (length after.log - after.size) (reader_of queue a))) → KeepsQueue script (history ++ entry_of b c (events.Publish (length messages)) ∷ []) after
publish_queued script history b c messages queue after k follows next is sweeps = record {
  folds = is ∙ ap (inserted queue) next ∙ ap (queue_by history b (events.Publish (length messages))) k.folds ∙ sym (queue_of-more script history e);
  size = ap (λ (q : Queue). q.size) is ∙ leaves.size ∙ k.size;
  from = ap (λ (q : Queue). q.from) is ∙ leaves.from ∙ k.from;
  log = longer ∙ ap (λ ms. log_of history ++ ms) next ∙ sym (log_of-more history e);
  slots = ap (λ (q : Queue). length q.readers) is ∙ leaves.slots ∙ k.slots;
  readers = λ a. sweeps a
      ∙ swept_is (reader_of queue a) (is_alive (life_of history a)) (is_lapped script.size history a) (position_of history a) (length after.log - after.size) (k.readers a)
      ∙ sym (λ i. reader_at (alive a i) (lapped a i) (at a i));
}
  where
    e : Entry
    e = entry_of b c (events.Publish (length messages))

    leaves : LeavesMessages queue (made_room queue (length messages))
    leaves = room_leaves queue (length messages)

    longer : after.log ≡ log_of history ++ messages
    longer = ap (λ (q : Queue). q.log) is ∙ ap (λ log. log ++ messages) (leaves.log ∙ k.log)

    end : length after.log - after.size ≡ length (log_of history) + length messages - script.size
    end = (λ i. length (longer i) - (ap (λ (q : Queue). q.size) is ∙ leaves.size ∙ k.size) i) ∙ ap (λ n. n - script.size) (length-append (log_of history) messages)

    alive : (a : ℕ) → is_alive (life_of (history ++ e ∷ []) a) ≡ is_alive (life_of history a)
    alive a = by_owner (b == a) refl
      where
        by_owner : (t : Bool) → (b == a) ≡ t → is_alive (life_of (history ++ e ∷ []) a) ≡ is_alive (life_of history a)
        by_owner true own = ap is_alive (life_of-own history e a own) ∙ sym (subst (λ o. is_alive (life_of history o) ≡ true) (eqb-true b a own) (lives-before (life_of history b) c (events.Publish (length messages)) follows.life (λ start. absurd (cc))))
        by_owner false other = ap is_alive (life_of-other history e a other)

    at : (a : ℕ) → position_of (history ++ e ∷ []) a ≡ position_of history a
    at a = by_owner (b == a) refl
      where
        by_owner : (t : Bool) → (b == a) ≡ t → position_of (history ++ e ∷ []) a ≡ position_of history a
        by_owner true own = position_of-own history e a own
        by_owner false other = position_of-other history e a other

    lapped : (a : ℕ) → is_lapped script.size (history ++ e ∷ []) a ≡ (is_lapped script.size history a || nat_lt (position_of history a) (length after.log - after.size))
    lapped a =
        publish_laps script.size history b c (length messages) a follows.event
        ∙ sym (or_longer (position_of history a + script.size) (length (log_of history)) (length (log_of history) + length messages) (omega arith))
        ∙ ap (λ t. is_lapped script.size history a || t) (sym (ap (nat_lt (position_of history a)) end ∙ less_minus (position_of history a) script.size (length (log_of history) + length messages)))

-- what an insertion needs: 1 to 64 messages
pub few_published : (k now : Kept) (b c count : ℕ) → k ≡ now → MayCall now.script now.history (entry_of b c (events.Publish count)) → (1 ≤ count) × (count ≤ 64)
few_published k now b c count is call =
    let inside : MayCall k.script k.history (entry_of b c (events.Publish count)) = call_inside k now (entry_of b c (events.Publish count)) is call in
    (inside.follows.event.1, omega (arith, inside.follows.event.2))

-- and what it answers
pub cleaned_is : (k now : Kept) (queue : Queue) (count : ℕ) (cleaned : Cleaned) → k ≡ now → KeepsQueue k.script k.history queue → cleaned ≡ room_answer queue count → cleaned ≡ room_answer (queue_of now.script now.history) count
cleaned_is k now queue count cleaned is keeps answer = answer ∙ ap (λ q. room_answer q count) keeps.folds ∙ ap (λ (x : Kept). room_answer (queue_of x.script x.history) count) is

-- the queue of an empty history
queue_start : (script : Scenario) → KeepsQueue script [] (empty_queue script.size script.backends script.from)
queue_start script = record {
  folds = refl;
  size = refl;
  from = refl;
  log = refl;
  slots = length-replicate (script.backends + 1) Inactive;
  readers = λ b. ap unmarked (all_same (script.backends + 1) b Inactive);
}

-- all that is kept beside an empty history
pub shared_start_at : (script given : Scenario) (n : ℕ) (entries : List Entry) (promised : List ℕ) (rows : RowsHeld) (locks : List Grant) (transactions : List (Option RunningTransaction)) (queue : Queue) → IsScript given → n ≡ given.backends
    → script ≡ given → entries ≡ [] → promised ≡ replicate (n + 1) 0 → KeepsRows no_entries rows → locks ≡ [] → transactions ≡ replicate (n + 1) None → queue ≡ empty_queue given.size given.backends given.from
    → KeepsShared script entries promised rows locks transactions queue
shared_start_at script given n entries promised rows locks transactions queue is size script_is entries_are promised_are rows_are locks_are transactions_are queue_is = record {
  folds = keeps_start_at script given n entries promised rows locks transactions is size script_is entries_are promised_are rows_are locks_are transactions_are;
  queued = rw (script_is, entries_are, queue_is) (queue_start given);
}
