-- What is kept of the running transactions.
use Rattle.std.specs.Prelude.{ℕ, Option, None, List, slice_index_or}
use Rattle.std.specs.Option.{option_map_or}
use Rattle.base_types.specs.declared.ids.Xid.{Xid}
use Rattle.event_kinds.specs.declared.entry.Entry.{Entry}
use Rattle.event_kinds.specs.declared.entry.Event.{Event}
use Rattle.history_model.specs.Transactions.{running_transaction_of, running_by}
use Rattle.segment_rows.specs.Kept.{xid_in}
use Rattle.txn_blocks.specs.declared.transaction.RunningTransaction.{RunningTransaction}

-- what is kept of a backend's running transaction
abbrev pub transaction_of : List Entry → ℕ → Option RunningTransaction
transaction_of history b = running_transaction_of history b

-- what is kept for a backend
abbrev pub transaction_at : List (Option RunningTransaction) → ℕ → Option RunningTransaction
transaction_at transactions b = slice_index_or transactions b None

-- the Xid that is kept for a backend
abbrev pub xid_at : List (Option RunningTransaction) → ℕ → Option Xid
xid_at transactions b = xid_in (transaction_at transactions b)

-- how many messages the transaction has published that is kept for a backend
abbrev pub published_at : List (Option RunningTransaction) → ℕ → ℕ
published_at transactions b = option_map_or (λ t. t.published) (transaction_at transactions b) 0

-- what is kept after an event of the backend
abbrev pub transaction_by : ℕ → Event → Option RunningTransaction → Option RunningTransaction
transaction_by command event old = running_by command event old
