-- What is kept of the running transactions, after one more entry.
use Rattle.std.proofs.Common.{◌≡◌, ◌<◌, ◌∙◌, ℕ, Bool, true, false, Option, None, List, [], ◌∷◌, ◌++◌, ◌==◌, if◌then◌else◌, length, slice_set, refl, sym, ap}
use Rattle.std.proofs.lemmas.Bool.{eqb-true, eqb-false}
use Rattle.std.proofs.lemmas.List.{get_or-set_other}
use Rattle.std.proofs.lemmas.Grind.{get_or-set_at}
use Rattle.event_kinds.specs.declared.entry.Entry.{Entry}
use Rattle.event_kinds.specs.declared.entry.Event.TheVariants as events
use Rattle.history_model.proofs.Reading.{running_transaction_of-own, running_transaction_of-other}
use Rattle.txn_blocks.specs.declared.transaction.RunningTransaction.{RunningTransaction}
use Rattle.shared_seg.specs.Transactions.{transaction_of, transaction_at, transaction_by}

-- what is kept for each backend is what it was, or for the entry's own what the event makes of it
abbrev pub KeptBy : Entry → List (Option RunningTransaction) → List (Option RunningTransaction) → Type 0
KeptBy e old new = (b : ℕ) → transaction_at new b ≡ (if e.backend == b then transaction_by e.command e.event (transaction_at old b) else transaction_at old b)

-- so it stays what the history says
pub own-more : (history : List Entry) (e : Entry) (old new : List (Option RunningTransaction)) → ((b : ℕ) → transaction_at old b ≡ transaction_of history b) → KeptBy e old new
    → (b : ℕ) → transaction_at new b ≡ transaction_of (history ++ e ∷ []) b
own-more history e old new was kept b = kept b ∙ by_owner (e.backend == b) refl
  where
    by_owner : (t : Bool) → (e.backend == b) ≡ t → (if t then transaction_by e.command e.event (transaction_at old b) else transaction_at old b) ≡ transaction_of (history ++ e ∷ []) b
    by_owner true own = ap (transaction_by e.command e.event) (was b) ∙ sym (running_transaction_of-own history e b own)
    by_owner false other = was b ∙ sym (running_transaction_of-other history e b other)

-- a slot that is set
pub kept_set : (e : Entry) (old new : List (Option RunningTransaction)) → e.backend < length old → new ≡ slice_set old e.backend (transaction_by e.command e.event (transaction_at old e.backend)) → KeptBy e old new
kept_set e old new within set b = ap (λ l. transaction_at l b) set ∙ by_owner (e.backend == b) refl
  where
    by_owner : (t : Bool) → (e.backend == b) ≡ t → transaction_at (slice_set old e.backend (transaction_by e.command e.event (transaction_at old e.backend))) b ≡ (if t then transaction_by e.command e.event (transaction_at old b) else transaction_at old b)
    by_owner true own =
        let same : e.backend ≡ b = eqb-true e.backend b own in
        get_or-set_at old e.backend b _ None (sym same) within ∙ ap (λ a. transaction_by e.command e.event (transaction_at old a)) same
    by_owner false other = get_or-set_other old e.backend b _ None (λ same. eqb-false e.backend b other (sym same))

-- a stop leaves them all
pub kept_same : (b c : ℕ) (old : List (Option RunningTransaction)) → KeptBy (record { backend = b; command = c; event = events.Stop }) old old
kept_same b c old a = by_owner (b == a)
  where
    by_owner : (t : Bool) → transaction_at old a ≡ (if t then transaction_at old a else transaction_at old a)
    by_owner true = refl
    by_owner false = refl
