-- A backend that holds a lock is past all that others changed under locks in its way: once it is, it stays so while it holds the lock.
use Rattle.std.proofs.Common.{◌≡◌, ◌≤◌, ◌<◌, ◌+◌, ◌∙◌, ℕ, true, false, List, [], ◌∷◌, ◌++◌, ◌==◌, ◌&&◌, refl, sym, ap, subst, arith, length}
use Rattle.std.specs.List.{AllByRecursion, list_any, flat_map}
use Rattle.std.proofs.lemmas.Bool.{eqb-true, eq-eqb, both_ways, and_parts, false_from_ne_true}
use Rattle.base_types.specs.declared.ids.Oid.{Oid}
use Rattle.base_types.specs.declared.ids.Xid.{Xid}
use Rattle.base_types.specs.declared.mode.Mode.{Mode}
use Rattle.base_types.specs.Modes.{mode_number, conflicting_modes, conflicts}
use Rattle.event_kinds.specs.declared.entry.Entry.{Entry}
use Rattle.event_kinds.specs.declared.entry.Event.{Event}
use Rattle.event_kinds.specs.declared.entry.Event.TheVariants as events
use Rattle.event_kinds.specs.declared.entry.Item.{Item}
use Rattle.lock_modes.specs.declared.grant.Grant.{Grant}
use Rattle.lock_modes.specs.Grants.{is_lock, holds}
use Rattle.history_model.specs.Transactions.{running_transaction_of, is_visible}
use Rattle.history_model.specs.Log.{log_of, position_of, position_by}
use Rattle.history_model.specs.Held.{granted_by, held_of}
use Rattle.history_model.specs.Drawn.{drawn_by, next_oid}
use Rattle.history_model.specs.Reached.{is_writer, reached_of}
use Rattle.history_model.specs.MayFollow.{AllowsEvent}
use Rattle.history_model.specs.Sound.{IsSound}
use Rattle.history_model.proofs.Reading.{position_of-own as position-own, position_of-other as position-other}
use Rattle.history_model.proofs.Every.{every-weaker}
use Rattle.history_model.proofs.Touched.{entry_of}
use Rattle.history_model.proofs.Guards.{any_with}
use Rattle.history_model.proofs.Exclude.{conflicts-sym, Agree, IsNew, all_granted_new, in_range}
use Rattle.history_model.proofs.Granted.{lock_parts}
use Rattle.history_model.proofs.Reached.{reached-short, reached-same, reached-kept, unreached}
use Rattle.history_model.proofs.Coming.{Placed}

-- the backend is past the place that the log had reached as visible holders of modes in the way of this one last let the relation go
abbrev pub IsPast : List Entry → ℕ → Oid → Mode → Type 0
IsPast history b rel mode = (writer : Mode) → conflicts writer mode ≡ true → reached_of history rel writer ≤ position_of history b

-- at the log's end a backend is past all
pub past-end : (history : List Entry) (b : ℕ) (rel : Oid) (mode : Mode) → length (log_of history) ≤ position_of history b → IsPast history b rel mode
past-end history b rel mode at writer clash = omega (arith, at, reached-short history rel writer)

-- nobody else holds a mode in the way of a grant
pub none_in_way : (held : List Grant) (g : Grant) (a : ℕ) (rel : Oid) (writer : Mode) → AllByRecursion (Agree g) held → g.rel ≡ rel → (a == g.backend) ≡ false → conflicts writer g.mode ≡ true → holds held a rel writer ≡ false
none_in_way held g a rel writer agree one other clash = false_from_ne_true (holds held a rel writer) (λ has. any_with (is_lock a rel writer) (Agree g) ⊥ against held has agree)
  where
    against : (k : Grant) → is_lock a rel writer k ≡ true → Agree g k → ⊥
    against k lock agrees =
        let parts = lock_parts a rel writer k lock in
        let same : g.rel.0 ≡ k.rel.0 = ap (λ o. o.0) one ∙ sym (eqb-true k.rel.0 rel.0 parts.1) in
        let differs : (g.backend == k.backend) ≡ false = false_from_ne_true (g.backend == k.backend) (λ is. both_ways _ other (eq-eqb a g.backend (sym (eqb-true k.backend a parts.0) ∙ sym (eqb-true g.backend k.backend is)))) in
        let number : mode_number k.mode ≡ mode_number writer = eqb-true (mode_number k.mode) (mode_number writer) parts.2 in
        both_ways _ (sym (ap (λ n. list_any (λ m. n == mode_number m) (conflicting_modes g.mode)) number) ∙ agrees (eq-eqb g.rel.0 k.rel.0 same) differs) (sym (conflicts-sym writer g.mode) ∙ clash)

-- after another's entry
pub past-other : (history : List Entry) (e : Entry) (g : Grant) → (e.backend == g.backend) ≡ false → AllByRecursion (Agree g) (held_of history) → IsPast history g.backend g.rel g.mode → IsPast (history ++ e ∷ []) g.backend g.rel g.mode
past-other history e g other agree past writer clash =
    let hidden : is_writer history e.backend g.rel writer ≡ false = false_from_ne_true (is_writer history e.backend g.rel writer)
    (λ is. both_ways _ (none_in_way (held_of history) g e.backend g.rel writer agree refl other clash) (and_parts (is_visible (running_transaction_of history e.backend)) (holds (held_of history) e.backend g.rel writer) is).1) in
    omega (arith, reached-same history e g.rel writer hidden, position-other history e g.backend other, past writer clash)

rises : (history : List Entry) (event : Event) (old : ℕ) → old ≤ length (log_of history) → old ≤ position_by history event old
rises history events.Start old short = short
rises history events.FetchReset old short = short
rises history (events.Fetch count) old short = omega arith
rises history event old short = omega arith

-- and after an own one that isn't the release of a visible transaction
pub past-own : (history : List Entry) (e : Entry) (b : ℕ) (rel : Oid) (mode : Mode) → (e.backend == b) ≡ true → Placed history → ((from : ℕ) → e.event ≡ events.Release from → is_visible (running_transaction_of history e.backend) ≡ false)
    → IsPast history b rel mode → IsPast (history ++ e ∷ []) b rel mode
past-own history e b rel mode own placed hidden past writer clash =
    omega (arith, same e.event refl, position-own history e b own, rises history e.event (position_of history b) (placed b), past writer clash)
  where
    same : (event : Event) → e.event ≡ event → reached_of (history ++ e ∷ []) rel writer ≡ reached_of history rel writer
    same (events.Release from) is = reached-same history e rel writer (ap (λ t. t && holds (held_of history) e.backend rel writer) (hidden from is))
    same event is = reached-kept history e rel writer (λ from release. absurd (cc))

-- a relation that a write makes nobody has let go
pub past-new : (history : List Entry) (b c : ℕ) (xid : Xid) (items : List Item) → IsSound history → AllowsEvent history b c (events.Write xid items)
    → AllByRecursion (λ g. IsPast (history ++ entry_of b c (events.Write xid items) ∷ []) b g.rel g.mode) (flat_map (granted_by b c) items)
past-new history b c xid items sound allows =
    every-weaker (IsNew b low high) (λ g. IsPast (history ++ e ∷ []) b g.rel g.mode) (λ g new writer clash. omega (arith, reached-kept history e g.rel writer (λ from release. absurd (cc)), unreached history sound g.rel writer new.above)) (flat_map (granted_by b c) items)
    (all_granted_new b c low high items (subst (AllByRecursion (λ n. (low ≤ n) × (n < high))) (sym allows.oids) (in_range low high low (length (flat_map drawn_by items)) (omega arith) (omega arith))))
  where
    e : Entry
    e = entry_of b c (events.Write xid items)

    low : ℕ
    low = next_oid history

    high : ℕ
    high = next_oid history + length (flat_map drawn_by items)
