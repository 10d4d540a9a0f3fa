-- How far the log reached when a holder of a mode last let a relation go, after one more entry.
use Rattle.std.proofs.Common.{◌≡◌, ◌≤◌, ◌<◌, ◌∙◌, ℕ, Bool, true, false, List, [], ◌∷◌, ◌++◌, refl, ap, length, arith}
use Rattle.std.proofs.lemmas.Bool.{eqb-true, and_parts, false_from_ne_true}
use Rattle.base_types.specs.declared.ids.Oid.{Oid}
use Rattle.base_types.specs.declared.mode.Mode.{Mode}
use Rattle.event_kinds.specs.declared.entry.Entry.{Entry}
use Rattle.event_kinds.specs.declared.entry.Event.{Event}
use Rattle.event_kinds.specs.declared.entry.Event.TheVariants as events
use Rattle.lock_modes.specs.Grants.{is_lock, holds}
use Rattle.history_model.specs.Transactions.{running_transaction_of, is_visible}
use Rattle.history_model.specs.Held.{held_of}
use Rattle.history_model.specs.Drawn.{next_oid, next_oid_by}
use Rattle.history_model.specs.Log.{log_of}
use Rattle.history_model.specs.Reached.{is_writer, reached_by, reached_of}
use Rattle.history_model.specs.Sound.{MayComeNext, IsSound}
use Rattle.history_model.proofs.Prefixes.{each-keeps, along-keeps}
use Rattle.history_model.proofs.Reading.{reached_of-more, next_oid-more as next-more}
use Rattle.history_model.proofs.Waiting.{log_of-grows}
use Rattle.history_model.proofs.Guards.{any_with}
use Rattle.history_model.proofs.Exclude.{LocksWell}
use Rattle.history_model.proofs.Granted.{lock_parts}
use Rattle.history_model.proofs.Ordered.{Ordered, Ordered-start, Ordered-more}

within_by : (before : List Entry) (a : ℕ) (rel : Oid) (mode : Mode) (event : Event) (old : ℕ) → old ≤ length (log_of before) → reached_by before a rel mode event old ≤ length (log_of before)
within_by before a rel mode (events.Release from) old short = by_test (is_writer before a rel mode)
  where
    by_test : (t : Bool) → (elim t as (λ x. ℕ) [ true ↦ length (log_of before) | false ↦ old ]) ≤ length (log_of before)
    by_test true = omega arith
    by_test false = short
within_by before a rel mode event old short = short

-- it is not past the log's end
pub reached-short : (history : List Entry) (rel : Oid) (mode : Mode) → reached_of history rel mode ≤ length (log_of history)
reached-short history rel mode = along-keeps (λ h n. n ≤ length (log_of h)) (λ before old e. reached_by before e.backend rel mode e.event old)
    (λ before old e short. omega (arith, within_by before e.backend rel mode e.event old short, log_of-grows before e)) 0 history (omega arith)

rises_by : (before : List Entry) (a : ℕ) (rel : Oid) (mode : Mode) (event : Event) (old : ℕ) → old ≤ length (log_of before) → old ≤ reached_by before a rel mode event old
rises_by before a rel mode (events.Release from) old short = by_test (is_writer before a rel mode)
  where
    by_test : (t : Bool) → old ≤ (elim t as (λ x. ℕ) [ true ↦ length (log_of before) | false ↦ old ])
    by_test true = short
    by_test false = omega arith
rises_by before a rel mode event old short = omega arith

-- it never falls
pub reached-rises : (history : List Entry) (e : Entry) (rel : Oid) (mode : Mode) → reached_of history rel mode ≤ reached_of (history ++ e ∷ []) rel mode
reached-rises history e rel mode = omega (arith, reached_of-more history e rel mode, rises_by history e.backend rel mode e.event (reached_of history rel mode) (reached-short history rel mode))

-- it stays where no visible holder of the mode lets go
pub reached-same : (history : List Entry) (e : Entry) (rel : Oid) (mode : Mode) → is_writer history e.backend rel mode ≡ false → reached_of (history ++ e ∷ []) rel mode ≡ reached_of history rel mode
reached-same history e rel mode none = reached_of-more history e rel mode ∙ of e.event
  where
    of : (event : Event) → reached_by history e.backend rel mode event (reached_of history rel mode) ≡ reached_of history rel mode
    of (events.Release from) = ap (λ t. elim t [ true ↦ length (log_of history) | false ↦ reached_of history rel mode ]) none
    of event = refl

-- and at an entry that is no release
pub reached-kept : (history : List Entry) (e : Entry) (rel : Oid) (mode : Mode) → ((from : ℕ) → e.event ≡ events.Release from → ⊥) → reached_of (history ++ e ∷ []) rel mode ≡ reached_of history rel mode
reached-kept history e rel mode other = reached_of-more history e rel mode ∙ of e.event refl
  where
    of : (event : Event) → e.event ≡ event → reached_by history e.backend rel mode event (reached_of history rel mode) ≡ reached_of history rel mode
    of (events.Release from) is = absurd (other from is)
    of event is = refl

-- a relation whose oid is still to be drawn was never let go
abbrev Unreached : List Entry → Type 0
Unreached history = (rel : Oid) (mode : Mode) → next_oid history ≤ rel.0 → reached_of history rel mode ≡ 0

-- the next oid never falls
pub next_rises : (history : List Entry) (e : Entry) → next_oid history ≤ next_oid (history ++ e ∷ [])
next_rises history e = omega (arith, next-more history e, of e.event (next_oid history))
  where
    of : (event : Event) (next : ℕ) → next ≤ next_oid_by event next
    of (events.Write xid items) next = omega arith
    of event next = omega arith

unlocked : (history : List Entry) (a : ℕ) (rel : Oid) (mode : Mode) → LocksWell history → next_oid history ≤ rel.0 → is_writer history a rel mode ≡ false
unlocked history a rel mode well new = false_from_ne_true (is_writer history a rel mode) (λ is.
    any_with (is_lock a rel mode) (λ g. g.rel.0 < next_oid history) ⊥ (λ g lock drawn. absurd (omega (arith, eqb-true g.rel.0 rel.0 (lock_parts a rel mode g lock).1, drawn, new))) (held_of history)
    (and_parts (is_visible (running_transaction_of history a)) (holds (held_of history) a rel mode) is).1 well.drawn)

abbrev Carried : List Entry → Type 0
Carried history = Ordered history × Unreached history

carried-more : (history : List Entry) (e : Entry) → Carried history → MayComeNext history e → Carried (history ++ e ∷ [])
carried-more history e k comes = (
  Ordered-more history e k.0 comes,
  λ rel mode new.
      let was : next_oid history ≤ rel.0 = omega (arith, next_rises history e, new) in
      reached-same history e rel mode (unlocked history e.backend rel mode k.0.locks was) ∙ k.1 rel mode was,
)

pub unreached : (history : List Entry) → IsSound history → Unreached history
unreached history sound = (each-keeps MayComeNext Carried (Ordered-start, λ rel mode new. refl) carried-more history sound).1
