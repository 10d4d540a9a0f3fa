-- What waits for a backend at its last entry waits on, until its next one that is no look.
use Rattle.std.proofs.Common.{◌≡◌, ◌≢◌, ◌≤◌, ◌∙◌, ℕ, Bool, true, false, List, [], ◌∷◌, ◌++◌, ◌==◌, ◌&&◌, sym, ap, length, take, arith, refl, ne_eqb, append_assoc, append-nil}
use Rattle.std.specs.Prelude.{nat_lt}
use Rattle.std.specs.List.{AllByRecursion}
use Rattle.std.proofs.lemmas.Bool.{eqb-true, ltb-true, lt-ltb, false_from_ne_true}
use Rattle.std.proofs.lemmas.List.{length-append}
use Rattle.event_kinds.specs.declared.entry.Entry.{Entry}
use Rattle.event_kinds.specs.declared.entry.Event.{Event}
use Rattle.event_kinds.specs.declared.entry.Event.TheVariants as events
use Rattle.history_model.specs.MayFollow.{MayFollow}
use Rattle.history_model.specs.Legal.{IsLegal}
use Rattle.history_model.specs.Lives.{is_alive, life_by, life_of}
use Rattle.history_model.specs.Messages.{position_after, waited_after}
use Rattle.history_model.specs.Segment.{Standing}
use Rattle.history_model.specs.Log.{log_by, log_of, position_by, position_of, is_waiting, waited_by, has_waited}
use Rattle.inval_messages.specs.declared.message.Message.{Message}
use Rattle.history_model.specs.Sent.{unsent_of}
use Rattle.history_model.proofs.Allows.{legal_follows}
use Rattle.history_model.proofs.Prefixes.{each-keeps}
use Rattle.history_model.proofs.Reading.{standing_of-own, standing_of-other, life_of-own, life_of-other, log_of-more, position_of-own, position_of-other}

-- no entry shortens the log
pub log_by-grows : (before : List Entry) (b : ℕ) (event : Event) (old : List Message) → length old ≤ length (log_by before b event old)
log_by-grows before b (events.Publish count) old = omega (arith, length-append old (take count (unsent_of before b)))
log_by-grows before b event old = omega arith

pub log_of-grows : (before : List Entry) (e : Entry) → length (log_of before) ≤ length (log_of (before ++ e ∷ []))
log_of-grows before e = omega (arith, ap length (log_of-more before e), log_by-grows before e.backend e.event (log_of before))

waits_on : (alive : Bool) (at n m : ℕ) → (alive && nat_lt at n) ≡ true → n ≤ m → (alive && nat_lt at m) ≡ true
waits_on true at n m waits longer = lt-ltb at m (omega (arith, ltb-true at n waits, longer))
waits_on false at n m waits longer = absurd (cc)

-- what has waited still waits
abbrev WaitsStill : List Entry → ℕ → Type 0
WaitsStill history b = has_waited history b ≡ true → is_waiting history b ≡ true

-- what has waited, after the backend's own entry
pub waited_of-own : (before : List Entry) (e : Entry) (b : ℕ) → (e.backend == b) ≡ true → has_waited (before ++ e ∷ []) b ≡ waited_by (before ++ e ∷ []) b e.event (has_waited before b)
waited_of-own before e b own = ap (λ (s : Standing). s.waited) (standing_of-own before e b own) ∙ ap (λ w. waited_after w e.event (has_waited before b)) (sym waits)
  where
    end : ℕ
    end = length (log_by before b e.event (log_of before))

    waits : is_waiting (before ++ e ∷ []) b ≡ (is_alive (life_by e.command e.event) && nat_lt (position_after end e.event (position_of before b)) end)
    waits = λ i. is_alive (life_of-own before e b own i) && nat_lt (ap (λ (s : Standing). s.position) (standing_of-own before e b own) i) (length ((log_of-more before e ∙ ap (λ a. log_by before a e.event (log_of before)) (eqb-true e.backend b own)) i))

-- and after another's
pub waited_of-other : (before : List Entry) (e : Entry) (b : ℕ) → (e.backend == b) ≡ false → has_waited (before ++ e ∷ []) b ≡ has_waited before b
waited_of-other before e b other = ap (λ (s : Standing). s.waited) (standing_of-other before e b other)

-- an entry that leaves the backend alive or not, and its position
still : (before : List Entry) (e : Entry) (b : ℕ) → is_alive (life_of (before ++ e ∷ []) b) ≡ is_alive (life_of before b) → position_of (before ++ e ∷ []) b ≡ position_of before b
    → is_waiting before b ≡ true → is_waiting (before ++ e ∷ []) b ≡ true
still before e b alive at waits =
    ap (λ t. t && nat_lt (position_of (before ++ e ∷ []) b) (length (log_of (before ++ e ∷ [])))) alive
    ∙ ap (λ p. is_alive (life_of before b) && nat_lt p (length (log_of (before ++ e ∷ [])))) at
    ∙ waits_on (is_alive (life_of before b)) (position_of before b) (length (log_of before)) (length (log_of (before ++ e ∷ []))) waits (log_of-grows before e)

-- another's entry never ends a backend's waiting
pub waiting-other : (history : List Entry) (e : Entry) (b : ℕ) → e.backend ≢ b → is_waiting history b ≡ true → is_waiting (history ++ e ∷ []) b ≡ true
waiting-other history e b other waits = let apart = ne_eqb e.backend b other in still history e b (ap is_alive (life_of-other history e b apart)) (position_of-other history e b apart) waits

-- nor do several entries of others
pub waiting-others : (history others : List Entry) (b : ℕ) → AllByRecursion (λ e. e.backend ≢ b) others → is_waiting history b ≡ true → is_waiting (history ++ others) b ≡ true
waiting-others history [] b apart waits = ap (λ h. is_waiting h b) (append-nil history) ∙ waits
waiting-others history (e ∷ others) b apart waits = ap (λ h. is_waiting h b) (sym (append_assoc history (e ∷ []) others)) ∙ waiting-others (history ++ e ∷ []) others b apart.1 (waiting-other history e b apart.0 waits)

-- which leave what has waited
pub waited_of-others : (history others : List Entry) (b : ℕ) → AllByRecursion (λ e. e.backend ≢ b) others → has_waited (history ++ others) b ≡ has_waited history b
waited_of-others history [] b apart = ap (λ h. has_waited h b) (append-nil history)
waited_of-others history (e ∷ others) b apart = ap (λ h. has_waited h b) (sym (append_assoc history (e ∷ []) others)) ∙ waited_of-others (history ++ e ∷ []) others b apart.1 ∙ waited_of-other history e b (ne_eqb e.backend b apart.0)

-- as does a look of its own
pub waited_of-look : (history : List Entry) (e : Entry) (b : ℕ) (some_wait : Bool) → e.event ≡ events.Look some_wait → (e.backend == b) ≡ true → has_waited (history ++ e ∷ []) b ≡ has_waited history b
waited_of-look history e b some_wait is own = waited_of-own history e b own ∙ ap (λ x. waited_by (history ++ e ∷ []) b x (has_waited history b)) is

alive_if : (alive waits : Bool) → (alive && waits) ≡ true → alive ≡ true
alive_if true waits is = refl
alive_if false waits is = absurd (cc)

-- what waits for a backend waits after its look
pub waiting-look : (before : List Entry) (e : Entry) (b : ℕ) (some_wait : Bool) → e.event ≡ events.Look some_wait → (e.backend == b) ≡ true → is_waiting before b ≡ true → is_waiting (before ++ e ∷ []) b ≡ true
waiting-look before e b some_wait is own waits =
    still before e b
    (ap is_alive (life_of-own before e b own ∙ ap (life_by e.command) is) ∙ sym (alive_if (is_alive (life_of before b)) (nat_lt (position_of before b) (length (log_of before))) waits))
    (position_of-own before e b own ∙ ap (λ x. position_by before x (position_of before b)) is)
    waits

own_step : (before : List Entry) (e : Entry) (b : ℕ) (event : Event) → e.event ≡ event → (e.backend == b) ≡ true → WaitsStill before b → waited_by (before ++ e ∷ []) b event (has_waited before b) ≡ true → is_waiting (before ++ e ∷ []) b ≡ true
own_step before e b (events.Look some_wait) is own was waited = waiting-look before e b some_wait is own (was waited)
own_step before e b event is own was waited = waited

each_step : (b : ℕ) (before : List Entry) (e : Entry) → WaitsStill before b → MayFollow before e → WaitsStill (before ++ e ∷ []) b
each_step b before e was follows waited = by_owner (e.backend == b) refl
  where
    by_owner : (t : Bool) → (e.backend == b) ≡ t → is_waiting (before ++ e ∷ []) b ≡ true
    by_owner true own = own_step before e b e.event refl own was (sym (waited_of-own before e b own) ∙ waited)
    by_owner false other = still before e b (ap is_alive (life_of-other before e b other)) (position_of-other before e b other) (was (sym (waited_of-other before e b other) ∙ waited))

-- so a look that is true of now may say no
pub not_waited : (history : List Entry) (b : ℕ) → IsLegal history → is_waiting history b ≡ false → has_waited history b ≡ false
not_waited history b legal none = false_from_ne_true (has_waited history b) (λ waited. absurd (cc (none, each-keeps MayFollow (λ h. WaitsStill h b) (λ no. absurd (cc)) (each_step b) history (legal_follows history legal) waited)))
