-- What a backend's next entry depends on of a history: facts of its own entries alone, as the code has them.
use Rattle.std.specs.Prelude.{ℕ, Bool, true, false, Option, Some, None, List, ◌==◌}
use Rattle.event_kinds.specs.declared.entry.Event.TheVariants as events
use Rattle.inval_messages.specs.Lists.{Written}
use Rattle.local_caches.specs.Kept.{Read, Kept}
use Rattle.history_model.specs.Lives.{last_event_of}
use Rattle.history_model.specs.Transactions.{running_transaction_of}
use Rattle.txn_blocks.specs.declared.transaction.RunningTransaction.{RunningTransaction as Running}
use Rattle.history_model.specs.Sent.{lists_of}
use Rattle.history_model.specs.Read.{is_usable, rows_read, place_read}
use Rattle.cacheless.specs.Types.{Row, Entry, Event}
use Rattle.cacheless.specs.declared.progress.Due.{Due}
use Rattle.cacheless.specs.declared.progress.Due.TheVariants as dues

-- what has to come right after its last event, its running transaction, its writes that weren't taken back, and what it may still rely on of each scan
pub record Facts : Type 0 where
  pub due : Due
  pub running : Option Running
  pub lists : List Written
  pub kept : Kept

-- what is due after a fetch: where it gave the most messages that one gives, more may wait
abbrev pub due_fetched : ℕ → Due
due_fetched count = elim (count == 32) [ true ↦ dues.Look | false ↦ dues.Nothing ]

-- what is due after a look
abbrev pub due_looked : Bool → Due
due_looked true = dues.Fetch
due_looked false = dues.Quiet

-- what is due after an event
abbrev pub due_after : Event → Due
due_after (events.LockOk rel mode) = dues.Look
due_after (events.Look some_wait) = due_looked some_wait
due_after (events.Fetch count) = due_fetched count
due_after (events.Gone from) = dues.Gone from
due_after event = dues.Nothing

-- the same of the last event, if there is one
abbrev pub due_last : Option Event → Due
due_last None = dues.Nothing
due_last (Some event) = due_after event

-- what a scan gave, if it may still be relied on
abbrev pub kept_if : Bool → List Row → ℕ → Option Read
kept_if true rows at = Some (record { rows = rows; at = at })
kept_if false rows at = None

-- what a backend may still rely on of each scan: what the last one gave, and the number of its entry
abbrev pub kept_in : List Entry → ℕ → Kept
kept_in history b = λ scan. kept_if (is_usable history b scan) (rows_read history b scan) (place_read history b scan)

-- the facts of a backend
abbrev pub facts_of : List Entry → ℕ → Facts
facts_of history b = record {
  due = due_last (last_event_of history b);
  running = running_transaction_of history b;
  lists = lists_of history b;
  kept = kept_in history b;
}
