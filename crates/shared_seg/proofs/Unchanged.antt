-- What `Shared` keeps after a call that leaves the history, the rows and the locks as they were.
use Rattle.std.proofs.Common.{◌≡◌, ◌∙◌, ◌+◌, ℕ, Option, List, length, refl, sym, ap, subst}
use Rattle.base_types.specs.Scenario.{Scenario, IsScript}
use Rattle.event_kinds.specs.declared.entry.Entry.{Entry}
use Rattle.lock_modes.specs.declared.grant.Grant.{Grant}
use Rattle.sinval_ring.specs.Queues.{Queue, empty_queue}
use Rattle.segment_rows.specs.Kept.{RowsHeld}
use Rattle.history_model.specs.Prefixes.{along}
use Rattle.seg_calls.specs.Calls.{IsUnchanged}
use Rattle.seg_calls.specs.Queue.{queue_by}
use Rattle.txn_blocks.specs.declared.transaction.RunningTransaction.{RunningTransaction}
use Rattle.shared_seg.specs.Kept.{Kept, places_in}
use Rattle.shared_seg.specs.KeepsFolds.{KeepsFolds}
use Rattle.shared_seg.specs.KeepsQueue.{KeepsShared, reader_kept}
use Rattle.shared_seg.specs.Places.{promised_in}

-- what is kept of the history, for another script of as many backends and other promises to as many
folds_other : (script other : Scenario) (history : List Entry) (promised has : List ℕ) (rows : RowsHeld) (locks : List Grant) (transactions : List (Option RunningTransaction))
    → IsScript other → other.backends ≡ script.backends → length has ≡ length promised → KeepsFolds script history promised rows locks transactions → KeepsFolds other history has rows locks transactions
folds_other script other history promised has rows locks transactions script_is backends same k = record {
  script_is = script_is;
  backends = same ∙ k.backends ∙ ap (λ n. n + 1) (sym backends);
  slots = k.slots ∙ ap (λ n. n + 1) (sym backends);
  rows_are = k.rows_are;
  locks_are = k.locks_are;
  own = k.own;
  sound = k.sound;
}

-- what is kept beside the same history is kept
pub keeps_same : (script : Scenario) (history after : List Entry) (promised has : List ℕ) (rows stored : RowsHeld) (locks locked : List Grant) (transactions : List (Option RunningTransaction)) (queue : Queue)
    → after ≡ history → length has ≡ length promised → stored ≡ rows → locked ≡ locks → KeepsShared script history promised rows locks transactions queue → KeepsShared script after has stored locked transactions queue
keeps_same script history after promised has rows stored locks locked transactions queue entries places rows_are held keeps =
    rw (entries, rows_are, held) (record { folds = folds_other script script history promised has rows locks transactions keeps.folds.script_is refl places keeps.folds; queued = keeps.queued })

-- and callers see no change
pub unchanged : (k now : Kept) (after : List Entry) (has : List ℕ) → k ≡ now → after ≡ k.history → has ≡ k.promised → IsUnchanged now.history after (places_in now) (promised_in has)
unchanged k now after has is entries promises = subst (λ (x : Kept). IsUnchanged x.history after (places_in x) (promised_in has)) is (record { entries = entries; places = λ b. ap (λ l. promised_in l b) promises })

-- what is kept, for another script of the same queue and backends
pub keeps_retold : (script other told : Scenario) (history : List Entry) (promised : List ℕ) (rows : RowsHeld) (locks : List Grant) (transactions : List (Option RunningTransaction)) (queue : Queue)
    → told ≡ other → IsScript other → other.backends ≡ script.backends → other.size ≡ script.size → other.from ≡ script.from → KeepsShared script history promised rows locks transactions queue → KeepsShared told history promised rows locks transactions queue
keeps_retold script other told history promised rows locks transactions queue is script_is backends size from keeps = subst (λ s. KeepsShared s history promised rows locks transactions queue) (sym is) (record {
  folds = folds_other script other history promised promised rows locks transactions script_is backends refl keeps.folds;
  queued = record {
    folds = keeps.queued.folds ∙ (λ i. along (λ before q e. queue_by before e.backend e.event q) (empty_queue (sym size i) (sym backends i) (sym from i)) history);
    size = keeps.queued.size ∙ sym size;
    from = keeps.queued.from ∙ sym from;
    log = keeps.queued.log;
    slots = keeps.queued.slots ∙ ap (λ n. n + 1) (sym backends);
    readers = λ b. keeps.queued.readers b ∙ ap (λ n. reader_kept n history b) (sym size);
  };
})
