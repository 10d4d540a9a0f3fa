-- The queue laps a backend where a publish finds it further back than the queue keeps with what is added, and at no other entry; a start and a fetch leave it within the queue.
use Rattle.std.proofs.Common.{◌≡◌, ◌≤◌, ◌+◌, ◌*◌, ◌∙◌, ℕ, Bool, true, false, not, List, [], ◌∷◌, ◌++◌, ◌==◌, ◌||◌, ◌&&◌, refl, sym, ap, subst, arith, length, take}
use Rattle.std.specs.Prelude.{nat_lt}
use Rattle.std.proofs.lemmas.Bool.{eqb-true, ltb-true, ltb-false, lt-ltb, false_from_ne_true}
use Rattle.std.proofs.lemmas.List.{length-append, length-take-le, length_push}
use Rattle.event_kinds.specs.declared.entry.Entry.{Entry}
use Rattle.event_kinds.specs.declared.entry.Event.{Event}
use Rattle.event_kinds.specs.declared.entry.Event.TheVariants as events
use Rattle.inval_messages.specs.declared.message.Message.{Message}
use Rattle.history_model.specs.Prefixes.{along}
use Rattle.history_model.specs.Sent.{unsent_of}
use Rattle.history_model.specs.Log.{log_of, log_by, position_of, position_by}
use Rattle.history_model.specs.MayFollow.{AllowsEvent, MayFollow}
use Rattle.history_model.specs.Legal.{IsLegal}
use Rattle.history_model.specs.Lapped.{is_lapped, FetchesFrom, FollowsQueue}
use Rattle.history_model.proofs.Allows.{legal_follows}
use Rattle.history_model.proofs.Prefixes.{along-more, each-keeps, EachFrom-both}
use Rattle.history_model.proofs.Reading.{log_of-more, position_of-own, position_of-other}
use Rattle.history_model.proofs.Touched.{entry_of}

-- a start and a fetch set the position of their backend
abbrev pub sets_position : Event → Bool
sets_position events.Start = true
sets_position (events.Fetch count) = true
sets_position events.FetchReset = true
sets_position event = false

-- whether a publish has lapped the backend: it found it further back than the queue keeps with what is added, and neither a start nor a fetch of the backend came since
abbrev pub lapped_by : ℕ → List Entry → ℕ → ℕ → Event → Bool → Bool
lapped_by size before b a (events.Publish count) old = old || nat_lt (position_of before b + size) (length (log_of before) + count)
lapped_by size before b a event old = old && not ((a == b) && sets_position event)

-- a publish has lapped the backend since its start or its last fetch
abbrev pub was_lapped : ℕ → List Entry → ℕ → Bool
was_lapped size history b = along (λ before old e. lapped_by size before b e.backend e.event old) false history

-- two tests are one where each gives the other
pub same_test : (s t : Bool) → (s ≡ true → t ≡ true) → (t ≡ true → s ≡ true) → s ≡ t
same_test true t to from = sym (to refl)
same_test false true to from = from refl
same_test false false to from = refl

-- less than the one or the other is less than the greater
pub or_longer : (x n m : ℕ) → n ≤ m → (nat_lt x n || nat_lt x m) ≡ nat_lt x m
or_longer x n m longer = by_first (nat_lt x n) refl
  where
    by_first : (t : Bool) → nat_lt x n ≡ t → (t || nat_lt x m) ≡ nat_lt x m
    by_first true less = sym (lt-ltb x m (omega (arith, ltb-true x n less, longer)))
    by_first false less = refl

unset : (x t : Bool) → (x && not (t && false)) ≡ x
unset true true = refl
unset true false = refl
unset false t = refl

set_own : (x t : Bool) → t ≡ true → (x && not (t && true)) ≡ false
set_own true t own = ap not (ap (λ u. u && true) own)
set_own false t own = refl

set_other : (x t : Bool) → t ≡ false → (x && not (t && true)) ≡ x
set_other true t other = ap (λ u. not (u && true)) other
set_other false t other = refl

-- a backend that is not further back than the queue keeps isn't lapped
pub not_lapped : (size : ℕ) (history : List Entry) (b : ℕ) → length (log_of history) ≤ position_of history b + size → is_lapped size history b ≡ false
not_lapped size history b near = false_from_ne_true (is_lapped size history b) (λ is. omega (arith, ltb-true (position_of history b + size) (length (log_of history)) is, near))

-- and one that isn't lapped is not further back
pub within_queue : (size : ℕ) (history : List Entry) (b : ℕ) → is_lapped size history b ≡ false → length (log_of history) ≤ position_of history b + size
within_queue size history b is = ltb-false (position_of history b + size) (length (log_of history)) is

lapped_same : (size : ℕ) (before : List Entry) (e : Entry) (b : ℕ) → position_of (before ++ e ∷ []) b ≡ position_of before b → length (log_of (before ++ e ∷ [])) ≡ length (log_of before) → is_lapped size (before ++ e ∷ []) b ≡ is_lapped size before b
lapped_same size before e b at log = ap (λ p. nat_lt (p + size) (length (log_of (before ++ e ∷ [])))) at ∙ ap (λ n. nat_lt (position_of before b + size) n) log

-- an event that leaves a position and the log leaves a backend lapped or not
pub leaves_lapped : (size : ℕ) (before : List Entry) (e : Entry) (b : ℕ) → ((old : ℕ) → position_by before e.event old ≡ old) → ((old : List Message) → log_by before e.backend e.event old ≡ old) → is_lapped size (before ++ e ∷ []) b ≡ is_lapped size before b
leaves_lapped size before e b at log = lapped_same size before e b (by_owner (e.backend == b) refl) (ap length (log_of-more before e ∙ log (log_of before)))
  where
    by_owner : (t : Bool) → (e.backend == b) ≡ t → position_of (before ++ e ∷ []) b ≡ position_of before b
    by_owner true own = position_of-own before e b own ∙ at (position_of before b)
    by_owner false other = position_of-other before e b other

-- after another's event that leaves the log
pub other_lapped : (size : ℕ) (before : List Entry) (e : Entry) (b : ℕ) → (e.backend == b) ≡ false → ((old : List Message) → log_by before e.backend e.event old ≡ old) → is_lapped size (before ++ e ∷ []) b ≡ is_lapped size before b
other_lapped size before e b other log = lapped_same size before e b (position_of-other before e b other) (ap length (log_of-more before e ∙ log (log_of before)))

-- a publish laps those who are further back than the queue keeps with what is added
pub publish_laps : (size : ℕ) (before : List Entry) (a c count b : ℕ) → AllowsEvent before a c (events.Publish count) → is_lapped size (before ++ entry_of a c (events.Publish count) ∷ []) b ≡ nat_lt (position_of before b + size) (length (log_of before) + count)
publish_laps size before a c count b allows = ap (λ p. nat_lt (p + size) (length (log_of (before ++ e ∷ [])))) (by_owner (a == b) refl) ∙ ap (λ n. nat_lt (position_of before b + size) n) longer
  where
    e : Entry
    e = entry_of a c (events.Publish count)

    longer : length (log_of (before ++ e ∷ [])) ≡ length (log_of before) + count
    longer = ap length (log_of-more before e) ∙ length-append (log_of before) (take count (unsent_of before a)) ∙ ap (λ n. length (log_of before) + n) (length-take-le count (unsent_of before a) (omega (arith, allows.2)))

    by_owner : (t : Bool) → (a == b) ≡ t → position_of (before ++ e ∷ []) b ≡ position_of before b
    by_owner true own = position_of-own before e b own
    by_owner false other = position_of-other before e b other

lapped_step : (size : ℕ) (before : List Entry) (a c : ℕ) (event : Event) (b : ℕ) → AllowsEvent before a c event → FetchesFrom size before a event → lapped_by size before b a event (is_lapped size before b) ≡ is_lapped size (before ++ entry_of a c event ∷ []) b
lapped_step size before a c (events.Publish count) b allows fetches =
    or_longer (position_of before b + size) (length (log_of before)) (length (log_of before) + count) (omega arith) ∙ sym (publish_laps size before a c count b allows)
lapped_step size before a c events.Start b allows fetches = by_owner (a == b) refl
  where
    e : Entry
    e = entry_of a c events.Start

    by_owner : (t : Bool) → (a == b) ≡ t → (is_lapped size before b && not ((a == b) && true)) ≡ is_lapped size (before ++ e ∷ []) b
    by_owner true own = set_own (is_lapped size before b) (a == b) own ∙ sym (not_lapped size (before ++ e ∷ []) b (omega (arith, position_of-own before e b own, ap length (log_of-more before e))))
    by_owner false other = set_other (is_lapped size before b) (a == b) other ∙ sym (other_lapped size before e b other (λ old. refl))
lapped_step size before a c events.FetchReset b allows fetches = by_owner (a == b) refl
  where
    e : Entry
    e = entry_of a c events.FetchReset

    by_owner : (t : Bool) → (a == b) ≡ t → (is_lapped size before b && not ((a == b) && true)) ≡ is_lapped size (before ++ e ∷ []) b
    by_owner true own = set_own (is_lapped size before b) (a == b) own ∙ sym (not_lapped size (before ++ e ∷ []) b (omega (arith, position_of-own before e b own, ap length (log_of-more before e))))
    by_owner false other = set_other (is_lapped size before b) (a == b) other ∙ sym (other_lapped size before e b other (λ old. refl))
lapped_step size before a c (events.Fetch count) b allows fetches = by_owner (a == b) refl
  where
    e : Entry
    e = entry_of a c (events.Fetch count)

    by_owner : (t : Bool) → (a == b) ≡ t → (is_lapped size before b && not ((a == b) && true)) ≡ is_lapped size (before ++ e ∷ []) b
    by_owner true own = set_own (is_lapped size before b) (a == b) own
        ∙ sym (not_lapped size (before ++ e ∷ []) b (omega (arith, position_of-own before e b own, ap length (log_of-more before e), within_queue size before b (subst (λ o. is_lapped size before o ≡ false) (eqb-true a b own) fetches))))
    by_owner false other = set_other (is_lapped size before b) (a == b) other ∙ sym (other_lapped size before e b other (λ old. refl))
lapped_step size before a c event b allows fetches = unset (is_lapped size before b) (a == b) ∙ sym (leaves_lapped size before (entry_of a c event) b (λ old. refl) (λ old. refl))

-- in a legal history whose fetches are of a queue of this size a backend is lapped exactly where a publish has lapped it
pub lapped_by_publish : (size : ℕ) (history : List Entry) (b : ℕ) → IsLegal history → FollowsQueue size history → was_lapped size history b ≡ is_lapped size history b
lapped_by_publish size history b legal queue =
    each-keeps (λ before e. MayFollow before e × FetchesFrom size before e.backend e.event) (λ h. was_lapped size h b ≡ is_lapped size h b) (sym (not_lapped size [] b (omega arith))) step history (EachFrom-both MayFollow (λ before e. FetchesFrom size before e.backend e.event) [] history (legal_follows history legal) queue)
  where
    step : (before : List Entry) (e : Entry) → was_lapped size before b ≡ is_lapped size before b → (MayFollow before e × FetchesFrom size before e.backend e.event) → was_lapped size (before ++ e ∷ []) b ≡ is_lapped size (before ++ e ∷ []) b
    step before e was may =
        along-more (λ h old x. lapped_by size h b x.backend x.event old) false before e
        ∙ ap (lapped_by size before b e.backend e.event) was
        ∙ lapped_step size before e.backend e.command e.event b may.0.event may.1

log_by-few : (before : List Entry) (b c : ℕ) (event : Event) (old : List Message) → AllowsEvent before b c event → length (log_by before b event old) ≤ length old + 64
log_by-few before b c (events.Publish count) old allows = omega (arith, allows.2, length-append old (take count (unsent_of before b)), length-take-le count (unsent_of before b) (omega (arith, allows.2)))
log_by-few before b c event old allows = omega arith

-- no entry adds more than 64 messages
pub log_of-few : (history : List Entry) → IsLegal history → length (log_of history) ≤ 64 * length history
log_of-few history legal = each-keeps MayFollow (λ h. length (log_of h) ≤ 64 * length h) (omega arith) step history (legal_follows history legal)
  where
    step : (before : List Entry) (e : Entry) → length (log_of before) ≤ 64 * length before → MayFollow before e → length (log_of (before ++ e ∷ [])) ≤ 64 * length (before ++ e ∷ [])
    step before e was follows = omega (arith, ap length (log_of-more before e), log_by-few before e.backend e.command e.event (log_of before) follows.event, was, length_push before e)
