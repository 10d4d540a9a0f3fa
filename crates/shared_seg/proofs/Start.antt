-- What is kept beside an empty history.
use Rattle.std.proofs.Common.{◌≡◌, ◌+◌, ◌∙◌, ℕ, Bool, true, false, Option, None, List, [], get_or, replicate, arith, refl, ap}
use Rattle.std.specs.Prelude.{nat_lt}
use Rattle.std.proofs.lemmas.Bool.{ltb-true, ltb-false}
use Rattle.std.proofs.lemmas.List.{get_or-replicate, length-replicate}
use Rattle.std.proofs.Math.ListN.{get_or-eq_default}
use Rattle.base_types.specs.Scenario.{Scenario, IsScript}
use Rattle.event_kinds.specs.declared.entry.Entry.{Entry}
use Rattle.lock_modes.specs.declared.grant.Grant.{Grant}
use Rattle.history_model.specs.Segment.{no_entries}
use Rattle.segment_rows.specs.Kept.{RowsHeld, KeepsRows}
use Rattle.txn_blocks.specs.declared.transaction.RunningTransaction.{RunningTransaction}
use Rattle.shared_seg.specs.KeepsFolds.{KeepsFolds}

pub all_same : {X : Type 0} (n i : ℕ) (x : X) → get_or (replicate n x) i x ≡ x
all_same n i x = by_test (nat_lt i n) refl
  where
    by_test : (t : Bool) → nat_lt i n ≡ t → get_or (replicate n x) i x ≡ x
    by_test true is = get_or-replicate n i x x (ltb-true i n is)
    by_test false is = get_or-eq_default (replicate n x) x (omega (arith, ltb-false i n is, length-replicate n x))

keeps_start : (script : Scenario) (n : ℕ) (rows : RowsHeld) → KeepsRows no_entries rows → IsScript script → n ≡ script.backends + 1 → KeepsFolds script [] (replicate n 0) rows [] (replicate n None)
keeps_start script n rows rows_are is size = record {
  script_is = is;
  backends = length-replicate n 0 ∙ size;
  slots = length-replicate n None ∙ size;
  rows_are = rows_are;
  locks_are = refl;
  own = λ b. all_same n b None;
  sound = tt;
}

-- the same of what the parts are
pub keeps_start_at : (script given : Scenario) (n : ℕ) (entries : List Entry) (promised : List ℕ) (rows : RowsHeld) (locks : List Grant) (transactions : List (Option RunningTransaction)) → IsScript given → n ≡ given.backends
    → script ≡ given → entries ≡ [] → promised ≡ replicate (n + 1) 0 → KeepsRows no_entries rows → locks ≡ [] → transactions ≡ replicate (n + 1) None
    → KeepsFolds script entries promised rows locks transactions
keeps_start_at script given n entries promised rows locks transactions is size script_is entries_are promised_are rows_are locks_are transactions_are =
    rw (script_is, entries_are, promised_are, locks_are, transactions_are) (keeps_start given (n + 1) rows rows_are is (ap (λ m. m + 1) size))
