-- What is kept beside the history is what the definitions read off it.
use Rattle.std.specs.Prelude.{ℕ, Option, List, ◌≡◌, ◌+◌, length}
use Rattle.base_types.specs.Scenario.{Scenario, IsScript}
use Rattle.event_kinds.specs.declared.entry.Entry.{Entry}
use Rattle.lock_modes.specs.declared.grant.Grant.{Grant}
use Rattle.history_model.specs.After.{segment_of}
use Rattle.history_model.specs.Held.{held_of}
use Rattle.history_model.specs.Sound.{IsSound}
use Rattle.txn_blocks.specs.declared.transaction.RunningTransaction.{RunningTransaction}
use Rattle.segment_rows.specs.Kept.{RowsHeld, KeepsRows}
use Rattle.shared_seg.specs.Transactions.{transaction_at, transaction_of}

-- the history is sound, and what is kept beside it is what it says
pub record KeepsFolds (script : Scenario) (history : List Entry) (promised : List ℕ) (rows : RowsHeld) (locks : List Grant) (transactions : List (Option RunningTransaction)) : Type 0 where
  pub script_is : IsScript script
  pub backends : length promised ≡ script.backends + 1
  pub slots : length transactions ≡ script.backends + 1
  pub rows_are : KeepsRows (segment_of history) rows
  pub locks_are : locks ≡ held_of history
  pub own : (b : ℕ) → transaction_at transactions b ≡ transaction_of history b
  pub sound : IsSound history
