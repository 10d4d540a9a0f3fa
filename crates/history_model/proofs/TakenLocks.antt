-- A release and an unlock take locks of commands of which no write stands that others don't see.
use Rattle.std.proofs.Common.{◌≡◌, ◌∙◌, ◌⊎◌, inl, inr, ℕ, Bool, true, false, not, List, [], ◌==◌, ◌||◌, ◌&&◌, refl, sym, ap, subst}
use Rattle.std.specs.Prelude.{nat_le}
use Rattle.base_types.specs.declared.ids.Oid.{Oid}
use Rattle.base_types.specs.declared.mode.Mode.{Mode}
use Rattle.base_types.specs.declared.row.Row.{Row}
use Rattle.event_kinds.specs.declared.entry.Entry.{Entry}
use Rattle.event_kinds.specs.declared.entry.Event.{Event}
use Rattle.event_kinds.specs.declared.entry.Event.TheVariants as events
use Rattle.row_visibility.specs.declared.version.Stamp.{Stamp}
use Rattle.history_model.specs.Transactions.{running_transaction_of, is_visible, runs_as, is_committed, makes_visible}
use Rattle.history_model.specs.Sent.{lists_of, ends_transaction as ends_at}
use Rattle.history_model.specs.Held.{held_of, held_by}
use Rattle.history_model.proofs.Lawful.{IsLawful}
use Rattle.history_model.proofs.Touched.{entry_of, Touch}
use Rattle.history_model.proofs.Guards.{IsHeldIn, GuardsLawfully, held_stays, held_left, is_below}
use Rattle.history_model.proofs.Seen.{counts_at, no_write}
use Rattle.history_model.proofs.OneVersion.{before_command}
use Rattle.history_model.proofs.Ordered.{Ordered}

-- an event leaves what is held by grants of commands below this number, and what was written from this number on is visible
pub record TakesFrom (from : ℕ) (history : List Entry) (w c : ℕ) (event : Event) : Type 0 where
  pub hidden : (y : ℕ) → makes_visible y event ≡ false
  pub held : (test : Mode → Bool) (a i : ℕ) (rel : Oid) → ((a == w) ≡ true → nat_le from i ≡ false) → IsHeldIn test (held_of history) a i rel → IsHeldIn test (held_by w c event (held_of history)) a i rel
  pub writes : (s : Stamp) (row : Row) → Touch history s row → runs_as history w s.xid.0 ≡ true → (nat_le from s.command ≡ false) ⊎ (is_committed history s.xid.0 ≡ true)

pub release_takes : (history : List Entry) (w c from : ℕ) → IsLawful history (entry_of w c (events.Release from)) → GuardsLawfully history w c (events.Release from) → Ordered history → TakesFrom from history w c (events.Release from)
release_takes history w c from lawful releasing k = record {
  hidden = λ y. refl;
  held = λ test a i rel below is. held_stays test (held_of history) w from a i rel below is;
  writes = λ s row touch runs. by_end s row touch runs (ends_at from (running_transaction_of history w)) refl;
}
  where
    by_end : (s : Stamp) (row : Row) → Touch history s row → runs_as history w s.xid.0 ≡ true → (t : Bool) → ends_at from (running_transaction_of history w) ≡ t → (nat_le from s.command ≡ false) ⊎ (is_committed history s.xid.0 ≡ true)
    by_end s row touch runs false goes_on = inl (is_below from s.command (lists_of history w) (releasing goes_on) (touch.written w runs))
    by_end s row touch runs true ends' = of (lawful ends')
      where
        of : (lists_of history w ≡ []) ⊎ (is_visible (running_transaction_of history w) ≡ true) → (nat_le from s.command ≡ false) ⊎ (is_committed history s.xid.0 ≡ true)
        of (inl none) = absurd (no_write s.command (lists_of history w) none (touch.written w runs))
        of (inr shown) = inr (k.runs.shown w s.xid.0 runs shown)

pub unlock_takes : (history : List Entry) (w c : ℕ) (rel : Oid) (mode : Mode) → GuardsLawfully history w c (events.Unlock rel mode) → TakesFrom c history w c (events.Unlock rel mode)
unlock_takes history w c rel mode unlocking = record {
  hidden = λ y. refl;
  held = λ test a i of below is. held_left test (held_of history) w c rel mode a i of unlocking.0 below is;
  writes = λ s row touch runs. inl (is_below c s.command (lists_of history w) unlocking.1 (touch.written w runs));
}

-- for the backend what it wrote counts the same where it counts below this number alone
pub taken_counts : (from : ℕ) (history : List Entry) (w c : ℕ) (event : Event) → TakesFrom from history w c event → (a : ℕ) → w ≡ a → (p : ℕ → Bool) (s : Stamp) (row : Row) → Touch history s row
    → counts_at history a p s ≡ counts_at history a (before_command p from) s
taken_counts from history w c event takes a one p s row touch = by_run (runs_as history a s.xid.0) refl
  where
    q : ℕ → Bool
    q = before_command p from

    and_true : (t : Bool) → (t && true) ≡ t
    and_true true = refl
    and_true false = refl

    by_writes : (nat_le from s.command ≡ false) ⊎ (is_committed history s.xid.0 ≡ true) → counts_at history a p s ≡ counts_at history a q s
    by_writes (inl below) = ap (λ t. is_committed history s.xid.0 || (runs_as history a s.xid.0 && t)) (sym (ap (λ t. p s.command && not t) below ∙ and_true (p s.command)))
    by_writes (inr shown) = ap (λ t. t || (runs_as history a s.xid.0 && p s.command)) shown ∙ sym (ap (λ t. t || (runs_as history a s.xid.0 && q s.command)) shown)

    by_run : (t : Bool) → runs_as history a s.xid.0 ≡ t → counts_at history a p s ≡ counts_at history a q s
    by_run false is = ap (λ t. is_committed history s.xid.0 || (t && p s.command)) is ∙ sym (ap (λ t. is_committed history s.xid.0 || (t && q s.command)) is)
    by_run true is = by_writes (takes.writes s row touch (subst (λ o. runs_as history o s.xid.0 ≡ true) (sym one) is))
