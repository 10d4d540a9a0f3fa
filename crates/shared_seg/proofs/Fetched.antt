-- A fetch of the queue gives what is due: a reset where the backend is lapped, and else its next messages.
use Rattle.std.proofs.Common.{◌≡◌, ◌≤◌, ◌<◌, ◌+◌, ◌-◌, ◌∙◌, ℕ, Bool, true, false, Option, List, [], ◌∷◌, ◌++◌, nat_lt, length, min, slice_set, take, drop, refl, sym, ap, subst, arith}
use Rattle.std.proofs.lemmas.Bool.{eq-eqb, ltb-false}
use Rattle.base_types.specs.Scenario.{Scenario}
use Rattle.base_types.specs.declared.fetched.Fetched.{Fetched}
use Rattle.base_types.specs.declared.fetched.Fetched.TheVariants as fetches
use Rattle.event_kinds.specs.declared.entry.Entry.{Entry}
use Rattle.event_kinds.specs.declared.entry.Event.TheVariants as events
use Rattle.lock_modes.specs.declared.grant.Grant.{Grant}
use Rattle.inval_messages.specs.declared.message.Message.{Message}
use Rattle.sinval_ring.specs.declared.reader.Reader.{Reader}
use Rattle.sinval_ring.specs.declared.reader.Reader.TheVariants.{Inactive, At, Reset}
use Rattle.sinval_ring.specs.Readers.{unmarked, fetched, given_to, after_fetch}
use Rattle.sinval_ring.specs.Queues.{Queue, reader_of, with_reader}
use Rattle.segment_rows.specs.Kept.{RowsHeld}
use Rattle.history_model.specs.Lapped.{is_lapped}
use Rattle.history_model.specs.Lives.{is_alive, life_by, life_of}
use Rattle.history_model.specs.Log.{log_by, log_of, position_by, position_of}
use Rattle.history_model.specs.Orderly.{IsOrderlyEvent}
use Rattle.history_model.proofs.Lapped.{not_lapped}
use Rattle.history_model.proofs.Reading.{life_of-own, log_of-more, position_of-own}
use Rattle.seg_calls.specs.Calls.{entry_of, due_to, places_for, Appends, Fetches, MayCall}
use Rattle.seg_calls.specs.Queue.{queue_by}
use Rattle.seg_calls.proofs.Allowed.{reset_follows}
use Rattle.txn_blocks.specs.declared.transaction.RunningTransaction.{RunningTransaction}
use Rattle.shared_seg.specs.Kept.{Kept, places_in}
use Rattle.shared_seg.specs.KeepsFolds.{KeepsFolds}
use Rattle.shared_seg.specs.KeepsQueue.{reader_at, KeepsQueue, event_of_fetch}
use Rattle.shared_seg.specs.Places.{promised_in}
use Rattle.history_ledger.specs.Words.{IsCounted}
use Rattle.shared_seg.specs.Transactions.{transaction_at, transaction_by}
use Rattle.shared_seg.proofs.Entered.{call_inside, placed_appends, called_keeps}
use Rattle.shared_seg.proofs.Queue.{lives-before, queue_set}

-- what a fetch answers of a reader that is lapped or not
abbrev pub answer_at : Bool → ℕ → ℕ → Fetched
answer_at true end at = fetches.Reset
answer_at false end at = fetches.Messages (min 32 (end - at))

-- the messages
abbrev pub given_at : Bool → List Message → ℕ → List Message
given_at true log at = []
given_at false log at = take (min 32 (length log - at)) (drop at log)

-- the position
abbrev position_after : Bool → ℕ → ℕ → ℕ
position_after true end at = end
position_after false end at = at + min 32 (end - at)

answer_is : (reader : Reader) (lapped : Bool) (end at : ℕ) → unmarked reader ≡ reader_at true lapped at → fetched end reader ≡ answer_at lapped end at
answer_is Inactive true end at is = absurd (cc)
answer_is Inactive false end at is = absurd (cc)
answer_is Reset true end at is = refl
answer_is Reset false end at is = absurd (cc)
answer_is (At position signaled) true end at is = absurd (cc)
answer_is (At position signaled) false end at is = let same : position ≡ at = cc in ap (λ p. fetches.Messages (min 32 (end - p))) same

given_is : (reader : Reader) (lapped : Bool) (log : List Message) (at : ℕ) → unmarked reader ≡ reader_at true lapped at → given_to log reader ≡ given_at lapped log at
given_is Inactive true log at is = absurd (cc)
given_is Inactive false log at is = absurd (cc)
given_is Reset true log at is = refl
given_is Reset false log at is = absurd (cc)
given_is (At position signaled) true log at is = absurd (cc)
given_is (At position signaled) false log at is = let same : position ≡ at = cc in ap (λ p. take (min 32 (length log - p)) (drop p log)) same

after_is : (reader : Reader) (lapped : Bool) (end at : ℕ) → unmarked reader ≡ reader_at true lapped at → unmarked (after_fetch end reader) ≡ At (position_after lapped end at) false
after_is Inactive true end at is = absurd (cc)
after_is Inactive false end at is = absurd (cc)
after_is Reset true end at is = refl
after_is Reset false end at is = absurd (cc)
after_is (At position signaled) true end at is = absurd (cc)
after_is (At position signaled) false end at is = let same : position ≡ at = cc in ap (λ p. At (p + min 32 (end - p)) false) same

-- what is due of a fetch: a reset where the backend is lapped, and else the next messages
abbrev pub answer_due : ℕ → List Entry → ℕ → Fetched
answer_due size history b = answer_at (is_lapped size history b) (length (log_of history)) (position_of history b)

-- a backend that fetches is alive
pub fetch_alive : (k now : Kept) (b c count : ℕ) → k ≡ now → MayCall now.script now.history (entry_of b c (events.Fetch count)) → is_alive (life_of k.history b) ≡ true
fetch_alive k now b c count is call =
    let inside : MayCall k.script k.history (entry_of b c (events.Fetch count)) = call_inside k now (entry_of b c (events.Fetch count)) is call in
    lives-before (life_of k.history b) c (events.Fetch count) inside.follows.life (λ start. absurd (cc))

reader_is : (script : Scenario) (history : List Entry) (queue : Queue) (b : ℕ) → KeepsQueue script history queue → is_alive (life_of history b) ≡ true → unmarked (reader_of queue b) ≡ reader_at true (is_lapped script.size history b) (position_of history b)
reader_is script history queue b k alive = k.readers b ∙ ap (λ t. reader_at t (is_lapped script.size history b) (position_of history b)) alive

-- the queue answers what is due
pub fetch_due : (script : Scenario) (history : List Entry) (queue : Queue) (b : ℕ) (answer : Fetched) → KeepsQueue script history queue → is_alive (life_of history b) ≡ true → answer ≡ fetched (length queue.log) (reader_of queue b) → answer ≡ answer_due script.size history b
fetch_due script history queue b answer k alive is =
    is ∙ ap (λ log. fetched (length log) (reader_of queue b)) k.log ∙ answer_is (reader_of queue b) (is_lapped script.size history b) (length (log_of history)) (position_of history b) (reader_is script history queue b k alive)

-- and gives it
pub fetch_given : (script : Scenario) (history : List Entry) (queue : Queue) (b : ℕ) (given : List Message) → KeepsQueue script history queue → is_alive (life_of history b) ≡ true → given ≡ given_to queue.log (reader_of queue b) → given ≡ given_at (is_lapped script.size history b) (log_of history) (position_of history b)
fetch_given script history queue b given k alive is =
    is ∙ ap (λ log. given_to log (reader_of queue b)) k.log ∙ given_is (reader_of queue b) (is_lapped script.size history b) (log_of history) (position_of history b) (reader_is script history queue b k alive)

fetch_log : (history : List Entry) (b : ℕ) (answer : Fetched) (old : List Message) → log_by history b (event_of_fetch answer) old ≡ old
fetch_log history b (fetches.Messages count) old = refl
fetch_log history b fetches.Reset old = refl

fetch_sets : (history : List Entry) (b : ℕ) (answer : Fetched) (queue : Queue) → queue_by history b (event_of_fetch answer) queue ≡ with_reader queue b (after_fetch (length queue.log) (reader_of queue b))
fetch_sets history b (fetches.Messages count) queue = refl
fetch_sets history b fetches.Reset queue = refl

fetch_lives : (c : ℕ) (answer : Fetched) → is_alive (life_by c (event_of_fetch answer)) ≡ true
fetch_lives c (fetches.Messages count) = refl
fetch_lives c fetches.Reset = refl

fetch_moves : (history : List Entry) (lapped : Bool) (at : ℕ) → position_by history (event_of_fetch (answer_at lapped (length (log_of history)) at)) at ≡ position_after lapped (length (log_of history)) at
fetch_moves history true at = refl
fetch_moves history false at = refl

moves_near : (lapped : Bool) (size end at : ℕ) → lapped ≡ nat_lt (at + size) end → end ≤ position_after lapped end at + size
moves_near true size end at is = omega arith
moves_near false size end at is = omega (arith, ltb-false (at + size) end (sym is))

-- a fetch
pub fetch_queued : (script : Scenario) (history : List Entry) (b c : ℕ) (answer : Fetched) (queue : Queue) → b < length queue.readers → KeepsQueue script history queue → is_alive (life_of history b) ≡ true → answer ≡ answer_due script.size history b
    → KeepsQueue script (history ++ entry_of b c (event_of_fetch answer) ∷ []) (with_reader queue b (after_fetch (length queue.log) (reader_of queue b)))
fetch_queued script history b c answer queue within k alive due = queue_set script history e queue (after_fetch (length queue.log) (reader_of queue b)) k within (fetch_sets history b answer queue) (fetch_log history b answer)
    (ap (λ log. unmarked (after_fetch (length log) (reader_of queue b))) k.log
    ∙ after_is (reader_of queue b) (is_lapped script.size history b) (length (log_of history)) (position_of history b) (reader_is script history queue b k alive)
    ∙ sym (λ i. reader_at (lives i) (near i) (at i)))
  where
    e : Entry
    e = entry_of b c (event_of_fetch answer)

    lives : is_alive (life_of (history ++ e ∷ []) b) ≡ true
    lives = ap is_alive (life_of-own history e b (eq-eqb b b refl)) ∙ fetch_lives c answer

    at : position_of (history ++ e ∷ []) b ≡ position_after (is_lapped script.size history b) (length (log_of history)) (position_of history b)
    at = position_of-own history e b (eq-eqb b b refl) ∙ ap (λ a. position_by history (event_of_fetch a) (position_of history b)) due ∙ fetch_moves history (is_lapped script.size history b) (position_of history b)

    near : is_lapped script.size (history ++ e ∷ []) b ≡ false
    near = not_lapped script.size (history ++ e ∷ []) b
        (omega (arith, at, ap length (log_of-more history e ∙ fetch_log history b answer (log_of history)), moves_near (is_lapped script.size history b) script.size (length (log_of history)) (position_of history b) refl))

call_at : (script : Scenario) (history : List Entry) (b c : ℕ) (lapped : Bool) → MayCall script history (entry_of b c (events.Fetch (due_to history b))) → MayCall script history (entry_of b c (event_of_fetch (answer_at lapped (length (log_of history)) (position_of history b))))
call_at script history b c true call = reset_follows script history b c (due_to history b) call
call_at script history b c false call = call

-- what is due may be entered
pub fetch_call : (k now : Kept) (b c : ℕ) (answer : Fetched) → k ≡ now → MayCall now.script now.history (entry_of b c (events.Fetch (due_to now.history b))) → answer ≡ answer_due k.script.size k.history b → MayCall now.script now.history (entry_of b c (event_of_fetch answer))
fetch_call k now b c answer is call due =
    rw (due, ap (λ (x : Kept). answer_due x.script.size x.history b) is) (call_at now.script now.history b c (is_lapped now.script.size now.history b) call)

fetches_at : (size : ℕ) (old new : List Entry) (had has : ℕ → ℕ) (b c : ℕ) (lapped : Bool) → is_lapped size old b ≡ lapped → Appends old new had has (entry_of b c (event_of_fetch (answer_at lapped (length (log_of old)) (position_of old b))))
    → Fetches size old new had has b c (given_at lapped (log_of old) (position_of old b)) (answer_at lapped (length (log_of old)) (position_of old b))
fetches_at size old new had has b c true is appends = record { appends = appends; lapped = is; none = refl }
fetches_at size old new had has b c false is appends = record { appends = appends; served = is; due = refl; messages = refl }

places_of_fetch : (answer : Fetched) → places_for (event_of_fetch answer) ≡ 1
places_of_fetch (fetches.Messages count) = refl
places_of_fetch fetches.Reset = refl

orderly_fetch : (before : List Entry) (b : ℕ) (answer : Fetched) → IsOrderlyEvent before b (event_of_fetch answer)
orderly_fetch before b (fetches.Messages count) = tt
orderly_fetch before b fetches.Reset = tt

-- and what callers see of it
pub fetches_due : (k now : Kept) (after : List Entry) (has : List ℕ) (b c : ℕ) (answer : Fetched) (given : List Message) → k ≡ now → MayCall now.script now.history (entry_of b c (event_of_fetch answer)) → length k.promised ≡ k.script.backends + 1 → answer ≡ answer_due k.script.size k.history b
    → given ≡ given_at (is_lapped k.script.size k.history b) (log_of k.history) (position_of k.history b) → after ≡ k.history ++ entry_of b c (event_of_fetch answer) ∷ [] → has ≡ slice_set k.promised b (promised_in k.promised b - 1)
    → Fetches now.script.size now.history after (places_in now) (promised_in has) b c given answer
fetches_due k now after has b c answer given is call backends due gives entries taken =
    rw (due_now, gives_now) (fetches_at now.script.size now.history after (places_in now) (promised_in has) b c (is_lapped now.script.size now.history b) refl (subst (λ a. Appends now.history after (places_in now) (promised_in has) (entry_of b c (event_of_fetch a))) due_now appends))
  where
    due_now : answer ≡ answer_due now.script.size now.history b
    due_now = due ∙ ap (λ (x : Kept). answer_due x.script.size x.history b) is

    gives_now : given ≡ given_at (is_lapped now.script.size now.history b) (log_of now.history) (position_of now.history b)
    gives_now = gives ∙ ap (λ (x : Kept). given_at (is_lapped x.script.size x.history b) (log_of x.history) (position_of x.history b)) is

    appends : Appends now.history after (places_in now) (promised_in has) (entry_of b c (event_of_fetch answer))
    appends = placed_appends k now after has (entry_of b c (event_of_fetch answer)) (places_of_fetch answer) is call (orderly_fetch k.history b answer) backends entries taken

-- what is published is as it was
pub fetch_counted : (answer : Fetched) (running : Option RunningTransaction) → IsCounted (event_of_fetch answer) running
fetch_counted (fetches.Messages count) running = tt
fetch_counted fetches.Reset running = tt

-- what is kept beside the queue
pub fetch_folds : (k now : Kept) (after : List Entry) (has : List ℕ) (b c : ℕ) (answer : Fetched) (rows : RowsHeld) (locks : List Grant) (transactions own : List (Option RunningTransaction))
    → k ≡ now → KeepsFolds k.script k.history k.promised rows locks transactions → MayCall now.script now.history (entry_of b c (event_of_fetch answer))
    → after ≡ k.history ++ entry_of b c (event_of_fetch answer) ∷ [] → has ≡ slice_set k.promised b (promised_in k.promised b - 1) → own ≡ slice_set transactions b (transaction_by c (event_of_fetch answer) (transaction_at transactions b))
    → KeepsFolds k.script after has rows locks own
fetch_folds k now after has b c (fetches.Messages count) rows locks transactions own is keeps call entries taken begun =
    called_keeps k now after has b c (events.Fetch count) rows rows locks locks transactions own is keeps call tt entries taken refl refl begun
fetch_folds k now after has b c fetches.Reset rows locks transactions own is keeps call entries taken begun =
    called_keeps k now after has b c events.FetchReset rows rows locks locks transactions own is keeps call tt entries taken refl refl begun
